use Rattle.std.proofs.Common.{◌+◌, Some, subst, arith}
use Rattle.files.specs.Contents.{contents_of}
use Rattle.files.specs.Reading.{Stopped}
use Rattle.files.proofs.Firsts.{behind_first}
use Rattle.files.proofs.Passing.{found_at}
use Rattle.files.proofs.Sections.{behind}
use Rattle.files.proofs.causes.check.Goals as goal

pub returns-in-Some-default : goal.returns-in-Some-default
returns-in-Some-default c = λ rest stopped.
    let it = contents_of c.args.read.now.contents in
    let s : Stopped it rest (Some c.in-Some-default.cause) = subst (Stopped it rest) c.in-Some-default.is-0 stopped in
    found_at c.args.room it behind 0 rest (omega arith) (λ n l cause. omega (arith, c.in_ok-asked.ensures.causes rest n l cause))
    c.in-Some-default.cause (c.lines-in-Some-default.result + 1) c.at-in-Some-default.result c.at-in-Some-default.ensures (omega (arith, c.lines-in-Some-default.ensures)) (rw s.1 (behind_first it rest s.0))
