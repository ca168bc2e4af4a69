use Rattle.std.proofs.Common.{refl, rules}
use Rattle.files.specs.Rows.{mark_form}
use Rattle.files.proofs.Forms.{no_columns, no_end}
use Rattle.files.proofs.rows.MarkRowRow.take.Goals as goal

pub returns-in_err-node : goal.returns-in_err-node
returns-in_err-node c = no_columns mark_form (λ _. refl) c.from_residual.result c.in_err-node.field-0.0 c.from_residual.ensures.1 c.in_err-node.ensures

pub returns-in_err-rest : goal.returns-in_err-rest
returns-in_err-rest c = no_end mark_form (λ _. refl) c.in_ok-node.field-0-0 c.from_residual-in_err-rest.result c.in_err-rest.field-0.0 c.from_residual-in_err-rest.ensures.1 (search rules) c.in_ok-node.ensures (λ _. c.in_err-rest.ensures.0, c.in_err-rest.ensures.1)
