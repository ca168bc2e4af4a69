use Rattle.std.proofs.Common.{◌≡◌, ◌+◌, ◌≤◌, map, take, vec_items}
use Rattle.queries.specs.Rows.{rows_of, told}
use Rattle.queries.specs.Table.{block_of}
use Rattle.queries.specs.Workings.{listed}
use Rattle.queries.proofs.Deals.{before}
use Rattle.queries.proofs.rows.QueryTable.dealt_terms.Given as goal

abbrev pub invariant-loop-i : goal.invariant-loop-i
invariant-loop-i l = record {
  terms : map (λ d. d.term) (vec_items l.dealt) ≡ take l.i (told (rows_of l.self)).terms;
  blocks : map (λ d. d.block) (vec_items l.dealt) ≡ listed (block_of (told (rows_of l.self))) l.i;
  low : before (told (rows_of l.self)).blocks l.block ≤ l.i;
  high : l.i ≤ before (told (rows_of l.self)).blocks (l.block + 1);
}
