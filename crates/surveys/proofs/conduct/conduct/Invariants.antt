use Rattle.std.proofs.Common.{take, vec_items}
use Rattle.surveys.specs.Standing.{lent}
use Rattle.surveys.specs.Queried.{tree_in, table_in}
use Rattle.surveys.proofs.Conducts.{SoFar}
use Rattle.surveys.proofs.conduct.conduct.Given as goal

abbrev pub invariant-loop-call : goal.invariant-loop-call
invariant-loop-call g l = SoFar g.G.Grade.kind (tree_in g.S.Shape l.queried) (table_in l.queried) (lent l.initial.marks l.initial.values l.initial.waiting) (take l.call-index l.calls) (vec_items l.given) l.survey (lent l.marks l.values l.waiting)
