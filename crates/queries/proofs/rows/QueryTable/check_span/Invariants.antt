use Rattle.std.proofs.Common.{ℕ, ◌<◌}
use Rattle.queries.specs.Admission.{Fits}
use Rattle.queries.specs.Rows.{rows_of}
use Rattle.queries.proofs.rows.QueryTable.check_span.Given as goal

abbrev pub invariant-loop-i : goal.invariant-loop-i
invariant-loop-i l = (k : ℕ) → k < l.i → Fits (rows_of l.self) k
