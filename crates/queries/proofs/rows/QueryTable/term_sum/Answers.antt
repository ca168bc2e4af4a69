use Rattle.std.proofs.Common.{◌≡◌, ℕ, ◌+◌, ◌-◌, ◌^◌, min, fold, arith, rules}
use Rattle.std.proofs.iter.runs.Made.{chains}
use Rattle.queries.specs.declared.rows.BlockRow.{BlockRow}
use Rattle.queries.proofs.Deals.{summed}
use Rattle.queries.proofs.rows.QueryTable.term_sum.Goals as goal

pub returns : goal.returns
returns c =
    let rows = c.args.self.blocks.now in
    let folded : c.fold.result ≡ fold (λ (k : ℕ) (row : BlockRow). min (k + row.terms) (2 ^ 64 - 1)) 0 rows = search (rules, chains) in
    omega (arith, folded, summed rows (2 ^ 64 - 1) 0 (omega arith))
