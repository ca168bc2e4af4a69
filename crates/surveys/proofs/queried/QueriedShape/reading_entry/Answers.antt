use Rattle.std.proofs.Common.{◌+◌, ◌-◌, ◌*◌, ◌≤◌, Some, None, sym, ◌∙◌, ap₂, arith}
use Rattle.std.proofs.lemmas.Nat.{mul-le}
use Rattle.queries.proofs.Questions.{rules_kept}
use Rattle.surveys.specs.Queried.{tree_in, table_in}
use Rattle.surveys.proofs.Wakes.{reads_nothing, reads_found, found_below, reader_inside}
use Rattle.surveys.proofs.queried.QueriedShape.reading_entry.Goals as goal

pub returns-in_err-term : goal.returns-in_err-term
returns-in_err-term g c = c.from_residual.ensures ∙ sym (reads_nothing (tree_in g.S.Shape c.args.self.now) (table_in c.args.self.now) c.args.first c.args.node c.args.reader (sym c.term.ensures ∙ c.in_err-term.was))

pub returns-in_err-at : goal.returns-in_err-at
returns-in_err-at g c = c.from_residual-in_err-at.ensures ∙ reads_found (tree_in g.S.Shape c.args.self.now) (table_in c.args.self.now) c.args.first c.args.node c.args.reader c.in_ok-term.field-0 None c.in_ok-term.ensures c.in_err-at.ensures

pub overflow_mul-result : goal.overflow_mul-result
overflow_mul-result g c =
    let below : c.args.reader - c.args.first ≤ 64 = omega (arith, found_below (table_in c.args.self.now).terms c.args.reader c.in_ok-term.field-0 c.in_ok-term.ensures, (rules_kept c.args.self.now.query.now).sized.few_terms) in
    let nodes = (g.met.S.Shape.laws c.args.self.now.shape.now).countable.1 in
    omega (arith, mul-le (c.args.reader - c.args.first) (g.S.Shape.count c.args.self.now.shape.now) 64 2048 below nodes, ap₂ (λ a b. a * b) c.saturating_sub.ensures c.node_count.ensures)

pub overflow_add-result : goal.overflow_add-result
overflow_add-result g c =
    let below : c.args.reader - c.args.first ≤ 64 = omega (arith, found_below (table_in c.args.self.now).terms c.args.reader c.in_ok-term.field-0 c.in_ok-term.ensures, (rules_kept c.args.self.now.query.now).sized.few_terms) in
    let laws = g.met.S.Shape.laws c.args.self.now.shape.now in
    let nodes = laws.countable.1 in
    omega (arith, mul-le (c.args.reader - c.args.first) (g.S.Shape.count c.args.self.now.shape.now) 64 2048 below nodes, ap₂ (λ a b. a * b) c.saturating_sub.ensures c.node_count.ensures, reader_inside (tree_in g.S.Shape c.args.self.now) laws c.in_ok-term.field-0 c.args.node c.in_ok-at.at c.requires c.in_ok-at.ensures)

pub returns : goal.returns
returns g c =
    ap₂ (λ a b. Some (a * b + c.in_ok-at.at)) c.saturating_sub.ensures c.node_count.ensures ∙
    reads_found (tree_in g.S.Shape c.args.self.now) (table_in c.args.self.now) c.args.first c.args.node c.args.reader c.in_ok-term.field-0 (Some c.in_ok-at.at) c.in_ok-term.ensures c.in_ok-at.ensures
