use Rattle.std.proofs.Common.{refl, rules}
use Rattle.files.specs.Rows.{asked_form}
use Rattle.files.proofs.Forms.{no_columns, no_end}
use Rattle.files.proofs.rows.AskedRowRow.take.Goals as goal

pub returns-in_err-term : goal.returns-in_err-term
returns-in_err-term c = no_columns asked_form (λ _. refl) c.from_residual.result c.in_err-term.field-0.0 c.from_residual.ensures.1 c.in_err-term.ensures

pub returns-in_err-rest : goal.returns-in_err-rest
returns-in_err-rest c = no_end asked_form (λ _. refl) c.in_ok-term.field-0-0 c.from_residual-in_err-rest.result c.in_err-rest.field-0.0 c.from_residual-in_err-rest.ensures.1 (search rules) c.in_ok-term.ensures (λ _. c.in_err-rest.ensures.0, c.in_err-rest.ensures.1)
