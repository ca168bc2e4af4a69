-- What a term reads at a node.
use Rattle.std.specs.Prelude.{◌≡◌, ℕ, Some}
use Rattle.shapes.specs.declared.axis.Axis.{Axis}
use Rattle.shapes.specs.Tree.{Tree, along}
use Rattle.queries.specs.declared.term.Term.{Term}
use Rattle.queries.specs.declared.term.Term.TheVariants.{Turn, Meet, Join, SomeNeighbour, EveryNeighbour}

-- a term at node x reads term j at node y: at x itself, or at the neighbour of x
pub data Reading (t : Tree) : Term → ℕ → ℕ → ℕ → Type 0 where
  turned : (a x : ℕ) → Reading t (Turn a) x a x
  met_left : (a b x : ℕ) → Reading t (Meet a b) x a x
  met_right : (a b x : ℕ) → Reading t (Meet a b) x b x
  joined_left : (a b x : ℕ) → Reading t (Join a b) x a x
  joined_right : (a b x : ℕ) → Reading t (Join a b) x b x
  some_there : (axis : Axis) (a x y : ℕ) → along t axis x ≡ Some y → Reading t (SomeNeighbour axis a) x a y
  every_there : (axis : Axis) (a x y : ℕ) → along t axis x ≡ Some y → Reading t (EveryNeighbour axis a) x a y
