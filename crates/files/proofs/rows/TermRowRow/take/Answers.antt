use Rattle.std.proofs.Common.{refl, rules}
use Rattle.files.specs.Rows.{term_form}
use Rattle.files.proofs.Forms.{no_columns, no_end}
use Rattle.files.proofs.rows.TermRowRow.take.Goals as goal

pub returns-in_err-kind : goal.returns-in_err-kind
returns-in_err-kind c = no_columns term_form (λ _. refl) c.from_residual.result c.in_err-kind.field-0.0 c.from_residual.ensures.1 c.in_err-kind.ensures

pub returns-in_err-rest : goal.returns-in_err-rest
returns-in_err-rest c = no_end term_form (λ _. refl) c.in_ok-kind.field-0-0 c.from_residual-in_err-rest.result c.in_err-rest.field-0.0 c.from_residual-in_err-rest.ensures.1 (search rules) c.in_ok-kind.ensures (λ _. c.in_err-rest.ensures.0, c.in_err-rest.ensures.1)
