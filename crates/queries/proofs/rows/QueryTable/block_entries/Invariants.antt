use Rattle.std.proofs.Common.{◌≡◌, map, take, vec_items}
use Rattle.queries.specs.Rows.{rows_of, told}
use Rattle.queries.specs.Workings.{listed, span_of}
use Rattle.queries.proofs.Deals.{before}
use Rattle.queries.proofs.rows.QueryTable.block_entries.Given as goal

abbrev pub invariant-loop-row : goal.invariant-loop-row
invariant-loop-row l = record {
  first : l.first ≡ before (told (rows_of l.self)).blocks l.row-index;
  blocks : map (λ e. e.block) (vec_items l.entries) ≡ take l.row-index (told (rows_of l.self)).blocks;
  spans : map (λ e. e.span) (vec_items l.entries) ≡ listed (span_of (told (rows_of l.self))) l.row-index;
}
