-- The tree that a value of a shape stands for, by the ghost members of its Shape.
use Rattle.shapes.specs.declared.shape.Shape.{Ghosts}
use Rattle.shapes.specs.Tree.{Tree, tree}

abbrev pub tree_of : {S : Type 0} → Ghosts S → S → Tree
tree_of g s = tree (g.count s) (g.first s) (g.next s) (g.owner s) (g.previous s)
