use Rattle.shapes.specs.Tree.{along}
use Rattle.shapes.specs.Shapes.{tree_of}
use Rattle.shapes.specs.Mirrors.{Leads}
use Rattle.shapes.specs.Trees.{to_go}
use Rattle.shapes.proofs.mirrored.end_along.Given as goal

abbrev pub invariant-loop-further : goal.invariant-loop-further
invariant-loop-further g l = Leads (along (tree_of g.S.Shape l.shape) l.axis) l.node l.end

abbrev pub decreases-loop-further : goal.decreases-loop-further
decreases-loop-further g l = to_go (tree_of g.S.Shape l.shape) (g.met.S.Shape.laws l.shape) l.axis l.end
