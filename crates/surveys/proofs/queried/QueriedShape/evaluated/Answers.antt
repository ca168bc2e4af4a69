use Rattle.std.proofs.Common.{sym, ◌∙◌}
use Rattle.queries.proofs.Questions.{rules_kept}
use Rattle.surveys.specs.Queried.{tree_in}
use Rattle.surveys.proofs.Evaluation.{none_cases, headed_stands, evaluated_not, evaluated_so}
use Rattle.surveys.proofs.queried.QueriedShape.evaluated.Goals as goal

pub returns-in_err-entry : goal.returns-in_err-entry
returns-in_err-entry g c = none_cases c.from_residual.result _ _ c.from_residual.ensures (λ e v. c.in_err-entry.ensures e v.heads)

pub returns-in_err-term : goal.returns-in_err-term
returns-in_err-term g c =
    none_cases c.from_residual-in_err-term.result _ _ c.from_residual-in_err-term.ensures
    (absurd (headed_stands (rules_kept c.args.self.now.query.now) c.args.work.now (g.S.Shape.count c.args.self.now.shape.now) c.in_ok-entry.entry c.in_ok-entry.ensures (sym c.term.ensures ∙ c.in_err-term.was)))

pub returns-in_err-grade : goal.returns-in_err-grade
returns-in_err-grade g c =
    none_cases c.from_residual-in_err-grade.result _ _ c.from_residual-in_err-grade.ensures
    (evaluated_not (rules_kept c.args.self.now.query.now) c.args.work.now g.G.Grade.kind (tree_in g.S.Shape c.args.self.now) c.args.marks.now c.args.values.now c.in_ok-entry.entry c.in_ok-entry.ensures c.in_ok-term.term c.in_ok-term.ensures c.in_err-grade.ensures)

pub returns : goal.returns
returns g c =
    evaluated_so (rules_kept c.args.self.now.query.now) c.args.work.now g.G.Grade.kind (tree_in g.S.Shape c.args.self.now) c.args.marks.now c.args.values.now c.in_ok-entry.entry c.in_ok-entry.ensures c.in_ok-term.term c.in_ok-term.ensures
    c.in_ok-grade.grade c.in_ok-grade.ensures.0 c.in_ok-grade.ensures.1
