use Rattle.std.proofs.Common.{◌+◌, ◌*◌, ◌/◌, ◌%◌, ◌<◌, sym, refl, ap, ap₂, arith}
use Rattle.queries.specs.Table.{blocks_terms}
use Rattle.queries.proofs.Questions.{rules_kept}
use Rattle.surveys.specs.Queried.{table_in}
use Rattle.surveys.proofs.Evaluation.{none_cases, headed, headless}
use Rattle.surveys.proofs.Spanning.{spans_first, term_stands}
use Rattle.surveys.proofs.queried.QueriedShape.head_entry.Goals as goal

pub returns-in_err-first : goal.returns-in_err-first
returns-in_err-first g c = none_cases c.from_residual-in_err-first.result _ _ c.from_residual-in_err-first.ensures (headless (rules_kept c.args.self.now.query.now) c.args.work.now (g.S.Shape.count c.args.self.now.shape.now) c.in_err-first.ensures)

pub overflow_add-result : goal.overflow_add-result
overflow_add-result g c =
    let q = table_in c.args.self.now in
    let n = g.S.Shape.count c.args.self.now.shape.now in
    let b = c.args.work.now.block in
    let first = spans_first (rules_kept c.args.self.now.query.now) b c.in_ok-first.field-0 c.in_ok-first.ensures in
    let inside : c.in_ok-head.head < blocks_terms q b * n = omega (arith, c.block_size.ensures, c.if-head-block_size.false) in
    omega (arith, first, term_stands (rules_kept c.args.self.now.query.now) b n c.in_ok-head.head inside, (rules_kept c.args.self.now.query.now).sized.few_terms, ap (λ k. c.in_ok-head.head / k) c.node_count-nodes.ensures)

pub returns : goal.returns
returns g c =
    let q = table_in c.args.self.now in
    let n = g.S.Shape.count c.args.self.now.shape.now in
    let b = c.args.work.now.block in
    let first = spans_first (rules_kept c.args.self.now.query.now) b c.in_ok-first.field-0 c.in_ok-first.ensures in
    headed (rules_kept c.args.self.now.query.now) c.args.work.now n c.in_ok-head.head c.in_ok-first.field-0 _
    (sym c.in_ok-head.ensures.value) (omega (arith, c.block_size.ensures, c.if-head-block_size.false)) c.in_ok-first.ensures
    refl (ap₂ (λ f k. f + c.in_ok-head.head / k) first c.node_count-nodes.ensures) (ap (λ k. c.in_ok-head.head % k) c.node_count-nodes.ensures)
