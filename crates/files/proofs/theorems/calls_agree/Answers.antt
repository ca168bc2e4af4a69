use Rattle.files.proofs.CallsAgree.{calls_agree_lem}
use Rattle.files.proofs.theorems.calls_agree.Goals as goal

pub returns : goal.returns
returns c = calls_agree_lem
