use Rattle.std.proofs.Common.{refl, arith}
use Rattle.files.specs.Contents.{contents_of}
use Rattle.files.proofs.Firsts.{head_fine}
use Rattle.files.proofs.Passing.{causes_behind, found_at}
use Rattle.files.proofs.Sections.{in_head, counted}
use Rattle.files.proofs.causes.Checked.head.Goals as goal

pub returns-in-Err : goal.returns-in-Err
returns-in-Err c = λ rest. let it = contents_of c.args.self.contents.now in
    found_at c.args.self.room it in_head 0 rest (omega arith) (counted c.args.self.room it rest) c.in-Err.cause 1 c.at.result c.at.ensures refl c.in-Err.ensures

pub returns-in-Ok : goal.returns-in-Ok
returns-in-Ok c = let it = contents_of c.args.self.contents.now in
    record {
      in_order = c.requires.in_order;
      few = c.requires.few;
      head = c.in-Ok.ensures;
      causes = λ rest. causes_behind c.args.self.room it in_head 1 rest (omega arith) (counted c.args.self.room it rest) (λ j n h. head_fine c.args.self.room it.head c.in-Ok.ensures n);
    }
