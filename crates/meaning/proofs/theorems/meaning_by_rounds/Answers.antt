use Rattle.std.proofs.Common.{T}
use Rattle.meaning.proofs.theorems.meaning_by_rounds.Goals as goal
use Rattle.meaning.proofs.Reached.{best_reached, best_induction}

pub returns : goal.returns
returns g c = record {
  reached = λ t q nodes admitted marks b v best. best_reached (record { kind = g.met.G.Grade.laws; tree = nodes; admitted = admitted }) marks b v best;
  kept = λ t q nodes admitted marks b v best test first next. best_induction (record { kind = g.met.G.Grade.laws; tree = nodes; admitted = admitted }) marks b v (λ i x y. T (test i x y)) first next best;
}
