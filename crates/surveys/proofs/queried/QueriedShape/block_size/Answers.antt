use Rattle.std.proofs.Common.{◌*◌, ap, ap₂, zero-mul, arith}
use Rattle.queries.proofs.Questions.{rules_kept}
use Rattle.surveys.specs.Queried.{table_in}
use Rattle.surveys.proofs.Spanning.{no_terms, spans_terms, few_entries}
use Rattle.surveys.proofs.queried.QueriedShape.block_size.Goals as goal

pub overflow_sub-result : goal.overflow_sub-result
overflow_sub-result g c = (spans_terms (rules_kept c.args.self.now.query.now) c.args.block c.in-Some.span c.in-Some.ensures).0

pub overflow_mul-result : goal.overflow_mul-result
overflow_mul-result g c =
    let terms = (spans_terms (rules_kept c.args.self.now.query.now) c.args.block c.in-Some.span c.in-Some.ensures).1 in
    let nodes = (g.met.S.Shape.laws c.args.self.now.shape.now).countable.1 in
    omega (arith, few_entries (rules_kept c.args.self.now.query.now) c.args.block (g.S.Shape.count c.args.self.now.shape.now) nodes, ap₂ (λ a b. a * b) terms c.node_count.ensures)

pub returns-in-Some : goal.returns-in-Some
returns-in-Some g c = ap₂ (λ a b. a * b) (spans_terms (rules_kept c.args.self.now.query.now) c.args.block c.in-Some.span c.in-Some.ensures).1 c.node_count.ensures

pub returns-in-None : goal.returns-in-None
returns-in-None g c =
    let n = g.S.Shape.count c.args.self.now.shape.now in
    omega (arith, ap (λ k. k * n) (no_terms (table_in c.args.self.now) c.args.block c.in-None.ensures), zero-mul n)
