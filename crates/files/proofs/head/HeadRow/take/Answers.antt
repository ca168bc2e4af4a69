use Rattle.std.proofs.Common.{◌∷◌, drop, refl, sym, ap, ◌∙◌, rules}
use Rattle.files.specs.Rows.{head_form, hand_letter}
use Rattle.files.proofs.Forms.{no_columns, no_end}
use Rattle.files.proofs.head.HeadRow.take.Goals as goal

pub returns-in_err-nodes : goal.returns-in_err-nodes
returns-in_err-nodes c = no_columns head_form (λ _. refl) c.from_residual.result c.in_err-nodes.field-0.0 c.from_residual.ensures.1 c.in_err-nodes.ensures

pub returns-in_err-grades : goal.returns-in_err-grades
returns-in_err-grades c = no_end head_form (λ _. refl) c.in_ok-nodes.field-0-0 c.from_residual-in_err-grades.result c.in_err-grades.field-0.0 c.from_residual-in_err-grades.ensures.1 (search rules) c.in_ok-nodes.ensures (
  λ h more. c.in_err-grades.ensures.0 h.grades (hand_letter h.hand ∷ (10 ∷ more)) tt,
  c.in_err-grades.ensures.1,
)

pub returns-in_err-hand : goal.returns-in_err-hand
returns-in_err-hand c = no_end head_form (λ _. refl) c.in_ok-nodes.field-0-0 c.from_residual-in_err-hand.result c.in_err-hand.field-0.0 c.from_residual-in_err-hand.ensures.1 (search rules) c.in_ok-nodes.ensures (
  λ h more e. c.in_err-hand.ensures.0 h.hand (10 ∷ more) tt (ap (drop 1) (sym c.in_ok-grades.ensures.1 ∙ e)),
  c.in_err-hand.ensures.1,
)

pub returns-in_err-rest : goal.returns-in_err-rest
returns-in_err-rest c = no_end head_form (λ _. refl) c.in_ok-nodes.field-0-0 c.from_residual-in_err-rest.result c.in_err-rest.field-0.0 c.from_residual-in_err-rest.ensures.1 (search rules) c.in_ok-nodes.ensures (
  λ h more e. c.in_err-rest.ensures.0 more (ap (drop 1) (sym c.in_ok-hand.ensures.1 ∙ ap (drop 1) (sym c.in_ok-grades.ensures.1 ∙ e))),
  c.in_err-rest.ensures.1,
)
