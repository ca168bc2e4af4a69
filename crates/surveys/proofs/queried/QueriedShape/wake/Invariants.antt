use Rattle.surveys.specs.Queried.{tree_in, table_in}
use Rattle.surveys.proofs.Wakes.{WokenSoFar}
use Rattle.surveys.proofs.queried.QueriedShape.wake.Given as goal

abbrev pub invariant-loop-reader : goal.invariant-loop-reader
invariant-loop-reader g l = WokenSoFar (tree_in g.S.Shape l.self) (table_in l.self) l.first l.node l.readers l.initial.waiting l.initial.queue l.waiting l.queue l.reader-index
