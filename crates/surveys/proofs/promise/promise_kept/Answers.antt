use Rattle.surveys.proofs.promise.promise_kept.Goals as goal
use Rattle.surveys.proofs.Promises.{promise_kept_lem}

pub returns : goal.returns
returns g c = promise_kept_lem g.G.Grade.kind g.met.G.Grade.laws
