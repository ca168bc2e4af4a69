use Rattle.std.proofs.Common.{◌≡◌, ◌+◌, sym, subst, arith, below_more}
use Rattle.std.proofs.lemmas.Result.{err_from_is_err_and}
use Rattle.queries.specs.Admission.{Fits}
use Rattle.queries.specs.Checks.{SpanOf}
use Rattle.queries.specs.Rows.{rows_of, told}
use Rattle.queries.specs.Table.{block_of}
use Rattle.queries.proofs.Deals.{before_le, before_more, in_block}
use Rattle.queries.proofs.Tested.{first_at, end_at}
use Rattle.queries.proofs.rows.QueryTable.check_span.Goals as goal

pub check_term-requires-clause-term : goal.check_term-requires-clause-term
check_term-requires-clause-term c =
    let q = told (rows_of c.args.self) in
    let block = c.requires.span.0 in
    omega (arith, end_at q block c.args.span c.requires.span.1, before_le q.blocks (block + 1), c.requires.sum)

pub check_term-requires-clause-span : goal.check_term-requires-clause-span
check_term-requires-clause-span c =
    let q = told (rows_of c.args.self) in
    let block = c.requires.span.0 in
    let of = c.requires.span.1 in
    let first = first_at q block c.args.span of in
    let end = end_at q block c.args.span of in
    let here : block_of q c.loop-i.i ≡ block = in_block q.blocks block c.loop-i.i of.stands (omega (arith, first)) (omega (arith, end, before_more q.blocks block of.stands)) in
    subst (λ b. SpanOf q b c.args.span) (sym here) of

pub returns-in_err-check_term : goal.returns-in_err-check_term
returns-in_err-check_term c =
    let q = told (rows_of c.args.self) in
    let block = c.requires.span.0 in
    let p = err_from_is_err_and c.from_residual.result c.from_residual.ensures.1 in
    rw (p.1, p.2) (record {
      term = c.loop-i.i;
      there = omega (arith, end_at q block c.args.span c.requires.span.1, before_le q.blocks (block + 1), c.requires.sum);
      before = c.loop-i.invariant;
      faulty = c.in_err-check_term.ensures;
    })

pub loop-i-preserved : goal.loop-i-preserved
loop-i-preserved c = below_more (Fits (rows_of c.args.self)) c.loop-i.i c.loop-i.invariant c.in_ok-check_term.ensures

pub returns : goal.returns
returns c k h = c.loop-i.invariant k (omega arith)
