use Rattle.files.proofs.Widths.{TakenTo}
use Rattle.files.proofs.line.take_columns.Given as goal

abbrev pub invariant-loop-i : goal.invariant-loop-i
invariant-loop-i g l = TakenTo l.letter l.text l.fn.widths l.numbers l.i l.rest
