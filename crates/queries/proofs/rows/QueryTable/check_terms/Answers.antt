use Rattle.std.proofs.Common.{◌+◌, arith}
use Rattle.queries.specs.Rows.{rows_of, told}
use Rattle.queries.proofs.Deals.{before_le, told_more, told_all}
use Rattle.queries.proofs.rows.QueryTable.check_terms.Goals as goal

pub overflow_add-end : goal.overflow_add-end
overflow_add-end c =
    let i = c.loop-row.row-index in
    omega (arith, told_more (rows_of c.args.self).blocks i c.loop-row-test.true, before_le (told (rows_of c.args.self)).blocks (i + 1), c.loop-row.invariant.first, c.requires.sum, c.requires.sizes.few_terms)

pub loop-row-preserved : goal.loop-row-preserved
loop-row-preserved c = record {
  first = omega (arith, told_more (rows_of c.args.self).blocks c.loop-row.row-index c.loop-row-test.true, c.loop-row.invariant.first);
  fit = c.in_ok-check_span.ensures;
}

pub returns : goal.returns
returns c k h = c.loop-row.invariant.fit k (omega (arith, told_all (rows_of c.args.self).blocks c.loop-row.row-index c.loop-row-test.false, c.loop-row.invariant.first, c.requires.sum))
