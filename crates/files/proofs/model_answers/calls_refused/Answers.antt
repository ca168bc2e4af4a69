use Rattle.files.proofs.RefusedCalls.{calls_refused_lem}
use Rattle.files.proofs.model_answers.calls_refused.Goals as goal

pub returns : goal.returns
returns g c = calls_refused_lem g.G.Grade.kind g.met.G.Grade.laws
