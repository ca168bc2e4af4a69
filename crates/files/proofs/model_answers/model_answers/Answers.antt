use Rattle.files.proofs.ModelAnswers.{model_answers_lem}
use Rattle.files.proofs.model_answers.model_answers.Goals as goal

pub returns : goal.returns
returns c = model_answers_lem
