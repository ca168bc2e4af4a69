use Rattle.std.proofs.Common.{take}
use Rattle.files.specs.CallSteps.{SetsMarks}
use Rattle.files.specs.Listings.{filed}
use Rattle.files.proofs.settle.set_marks.Given as goal

abbrev pub invariant-loop-mark : goal.invariant-loop-mark
invariant-loop-mark g l = SetsMarks (filed g.G.Grade.kind g.G.FiledGrade.number) l.nodes (take l.mark-index l.marks) l.initial.table l.table
