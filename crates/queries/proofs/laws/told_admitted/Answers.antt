use Rattle.queries.proofs.Directions.{told_admitted_lem}
use Rattle.queries.proofs.laws.told_admitted.Goals as goal

pub returns : goal.returns
returns c = told_admitted_lem
