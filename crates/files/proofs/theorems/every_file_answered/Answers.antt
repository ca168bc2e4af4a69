use Rattle.files.proofs.EveryAnswered.{every_file_answered_lem}
use Rattle.files.proofs.theorems.every_file_answered.Goals as goal

pub returns : goal.returns
returns c = every_file_answered_lem
