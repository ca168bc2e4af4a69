-- The tree of the mirrored shape.
use Rattle.shapes.specs.declared.mirrored.Mirrored.{Mirrored}
use Rattle.shapes.specs.declared.shape.Shape.{Ghosts}
use Rattle.shapes.specs.Mirrors.{mirror}
use Rattle.shapes.specs.Shapes.{tree_of}

-- what the mirrored shape means, by what the shape in it means
abbrev pub mirrored : {S : Type 0} → Ghosts S → Ghosts (Mirrored S)
mirrored g = record {
  count = λ s. (mirror (tree_of g s.shape)).count;
  first = λ s. (mirror (tree_of g s.shape)).first;
  next = λ s. (mirror (tree_of g s.shape)).next;
  owner = λ s. (mirror (tree_of g s.shape)).owner;
  previous = λ s. (mirror (tree_of g s.shape)).previous;
}
