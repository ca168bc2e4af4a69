use Rattle.std.proofs.Common.{◌≡◌, ℕ, ◌<◌}
use Rattle.queries.specs.Admission.{Fits}
use Rattle.queries.specs.Rows.{rows_of, told}
use Rattle.queries.proofs.Deals.{before}
use Rattle.queries.proofs.rows.QueryTable.check_terms.Given as goal

abbrev pub invariant-loop-row : goal.invariant-loop-row
invariant-loop-row l = record {
  first : l.first ≡ before (told (rows_of l.self)).blocks l.row-index;
  fit : (k : ℕ) → k < l.first → Fits (rows_of l.self) k;
}
