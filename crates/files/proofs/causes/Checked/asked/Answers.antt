use Rattle.std.proofs.Common.{◌≡◌, ap, arith}
use Rattle.files.specs.Contents.{contents_of, asked_count}
use Rattle.files.proofs.Firsts.{asked_first}
use Rattle.files.proofs.Passing.{found_at}
use Rattle.files.proofs.Sections.{in_asked}
use Rattle.files.proofs.causes.Checked.asked.Goals as goal

pub returns-in-Some : goal.returns-in-Some
returns-in-Some c =
    let it = contents_of c.args.self.contents.now in
    let one : asked_count it.asked ≡ 1 = ap asked_count c.in-Some.is in
    λ rest. found_at c.args.self.room it in_asked 0 rest (omega arith) (λ n l cause. omega (arith, c.requires.causes rest n l cause))
    c.from.result c.lines.result c.at.result c.at.ensures (omega (arith, c.lines.ensures)) (rw c.from.ensures (asked_first it c.in-Some.row c.in-Some.is c.if-row-self.true))
