use Rattle.files.specs.Contents.{contents_of}
use Rattle.files.proofs.Query.{read_first, blocks_pass, terms_pass}
use Rattle.files.proofs.causes.Checked.query.Goals as goal

pub returns-in_default : goal.returns-in_default
returns-in_default c =
    let it = contents_of c.args.self.contents.now in
    let a = c.in_default.ensures in
    terms_pass c.args.self.room it c.requires (blocks_pass c.args.self.room it c.requires a.framed.blocks (λ there. a.framed.sum)) (λ i h. a.terms i (read_first c.args.self.room it c.requires i h))

pub returns-in-Some : goal.returns-in-Some
returns-in-Some c = λ rest. rw c.at.ensures (rw c.from.ensures (c.in-Some.ensures rest))
