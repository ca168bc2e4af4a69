use Rattle.meaning.proofs.theorems.meaning_by_stage.Goals as goal
use Rattle.meaning.proofs.Stages.{solved_by_stage, selected_by_stage}

pub returns : goal.returns
returns c = record { solved = solved_by_stage; selected = selected_by_stage }
