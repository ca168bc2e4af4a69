use Rattle.surveys.proofs.promise.rows_select.Goals as goal
use Rattle.surveys.proofs.RowsByKind.{selects_settled, solves_by_stage, selects_by_stage, reads_by_stage}

pub returns : goal.returns
returns c = record { yes_no = selects_settled; solved = solves_by_stage; selected = selects_by_stage; read = reads_by_stage }
