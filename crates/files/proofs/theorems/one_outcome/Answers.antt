use Rattle.files.proofs.OneOutcomes.{one_outcome_lem}
use Rattle.files.proofs.theorems.one_outcome.Goals as goal

pub returns : goal.returns
returns c = one_outcome_lem
