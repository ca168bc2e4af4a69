use Rattle.std.proofs.Common.{length}
use Rattle.files.specs.Rows.{mark_form}
use Rattle.files.specs.TakingRows.{TakesRows}
use Rattle.files.proofs.contents.take_marks.Given as goal

abbrev pub invariant-loop-rest : goal.invariant-loop-rest
invariant-loop-rest l = TakesRows mark_form l.text l.marks.items l.rest

abbrev pub decreases-loop-rest : goal.decreases-loop-rest
decreases-loop-rest l = length l.rest
