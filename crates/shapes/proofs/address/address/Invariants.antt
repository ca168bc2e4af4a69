use Rattle.std.proofs.Common.{vec_items}
use Rattle.shapes.specs.Shapes.{tree_of}
use Rattle.shapes.proofs.Spelling.{Spelled}
use Rattle.shapes.proofs.address.address.Given as goal

abbrev pub invariant-loop-left : goal.invariant-loop-left
invariant-loop-left g l = Spelled (tree_of g.S.Shape l.shape) (g.met.S.Shape.laws l.shape) l.node (vec_items l.word) l.position l.here

abbrev pub decreases-loop-left : goal.decreases-loop-left
decreases-loop-left g l = (g.met.S.Shape.laws l.shape).level l.here
