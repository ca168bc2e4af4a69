use Rattle.std.proofs.Common.{◌≡◌, length}
use Rattle.files.specs.TakingRows.{TakesRows}
use Rattle.files.proofs.contents.take_rows.Given as goal

abbrev pub invariant-loop : goal.invariant-loop
invariant-loop g l = TakesRows g.R.Row.form l.text l.rows.items l.rest × (length l.rows.items ≡ l.counter)
