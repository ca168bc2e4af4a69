-- How far values can still move, and what the operands of a term have of that.
use Rattle.std.proofs.Common.{◌≡◌, ℕ, ◌+◌, ◌*◌, ◌<◌, ◌≤◌, ◌⊎◌, Some, None, Option, refl, arith}
use Rattle.grades.specs.Kind.{Kind, Laws}
use Rattle.shapes.specs.Tree.{Tree, along}
use Rattle.queries.specs.declared.block.Solution.{Solution}
use Rattle.queries.specs.declared.block.Solution.TheVariants.{Least, Greatest}
use Rattle.queries.specs.declared.term.Term.{Term}
use Rattle.queries.specs.declared.term.Term.TheVariants.{Mark, Turn, Meet, Join, SomeNeighbour, EveryNeighbour, Lowest, Highest}
use Rattle.queries.specs.Table.{opposite}
use Rattle.meaning.specs.Readings.{Reading}
use Rattle.meaning.specs.Readings.Reading.{turned, met_left, met_right, joined_left, joined_right, some_there, every_there}
use Rattle.meaning.specs.Solutions.{Grades, Better, at_or}
use Rattle.meaning.proofs.Better.{distance, distance_bounded, further}

-- how far a value can still move: its distance from the other end
abbrev pub room : {G : Type 0} → Kind G → Solution → G → ℕ
room k d x = distance k (opposite d) x

module _ {G : Type 0} {k : Kind G} (laws : Laws k) where
  pub room_bounded : (d : Solution) (x : G) → room k d x ≤ k.height
  room_bounded d x = distance_bounded laws (opposite d) x

  turned_round : (d : Solution) (x y : G) → Better k d x y → Better k (opposite d) y x
  turned_round Least x y h = h
  turned_round Greatest x y h = h

  pub room_falls : (d : Solution) (x y : G) → Better k d x y → ((y ≡ x) × (room k d y ≤ room k d x)) ⊎ (room k d y < room k d x)
  room_falls d x y h = further laws (opposite d) y x (turned_round d x y h)

-- what the operands of a term have of r, added up
abbrev pub operands_sum : Tree → Grades ℕ → Term → ℕ → ℕ
operands_sum t r (Mark a) x = 0
operands_sum t r (Turn a) x = r a x
operands_sum t r (Meet a b) x = r a x + r b x
operands_sum t r (Join a b) x = r a x + r b x
operands_sum t r (SomeNeighbour axis a) x = at_or 0 (r a) (along t axis x)
operands_sum t r (EveryNeighbour axis a) x = at_or 0 (r a) (along t axis x)
operands_sum t r Lowest x = 0
operands_sum t r Highest x = 0

at_bounded : (f : ℕ → ℕ) (n : ℕ) (o : Option ℕ) → ((z : ℕ) → f z ≤ n) → at_or 0 f o ≤ n
at_bounded f n None h = omega arith
at_bounded f n (Some z) h = h z

-- a term has two operands at most
pub operands_bounded : (t : Tree) (r : Grades ℕ) (n : ℕ) → ((j z : ℕ) → r j z ≤ n) → (m : Term) (x : ℕ) → operands_sum t r m x ≤ 2 * n
operands_bounded t r n h (Mark a) x = omega arith
operands_bounded t r n h (Turn a) x = omega (arith, h a x)
operands_bounded t r n h (Meet a b) x = omega (arith, h a x, h b x)
operands_bounded t r n h (Join a b) x = omega (arith, h a x, h b x)
operands_bounded t r n h (SomeNeighbour axis a) x = omega (arith, at_bounded (r a) n (along t axis x) (h a))
operands_bounded t r n h (EveryNeighbour axis a) x = omega (arith, at_bounded (r a) n (along t axis x) (h a))
operands_bounded t r n h Lowest x = omega arith
operands_bounded t r n h Highest x = omega arith

at_mono : (f g : ℕ → ℕ) (o : Option ℕ) → ((z : ℕ) → o ≡ Some z → f z ≤ g z) → at_or 0 f o ≤ at_or 0 g o
at_mono f g None h = omega arith
at_mono f g (Some z) h = h z refl

-- the sum falls where what each operand has falls
pub operands_mono : (t : Tree) (r s : Grades ℕ) (m : Term) (x : ℕ) → ((j z : ℕ) → Reading t m x j z → r j z ≤ s j z) → operands_sum t r m x ≤ operands_sum t s m x
operands_mono t r s (Mark a) x h = omega arith
operands_mono t r s (Turn a) x h = h a x (turned a x)
operands_mono t r s (Meet a b) x h = omega (arith, h a x (met_left a b x), h b x (met_right a b x))
operands_mono t r s (Join a b) x h = omega (arith, h a x (joined_left a b x), h b x (joined_right a b x))
operands_mono t r s (SomeNeighbour axis a) x h = at_mono (r a) (s a) (along t axis x) (λ z e. h a z (some_there axis a x z e))
operands_mono t r s (EveryNeighbour axis a) x h = at_mono (r a) (s a) (along t axis x) (λ z e. h a z (every_there axis a x z e))
operands_mono t r s Lowest x h = omega arith
operands_mono t r s Highest x h = omega arith

-- and strictly where what one has falls strictly
pub operands_fall : (t : Tree) (r s : Grades ℕ) {m : Term} {y j z : ℕ} → ((i x : ℕ) → Reading t m y i x → r i x ≤ s i x) → Reading t m y j z → r j z < s j z → operands_sum t r m y < operands_sum t s m y
operands_fall t r s le (turned a x) l = l
operands_fall t r s le (met_left a b x) l = omega (arith, le b x (met_right a b x))
operands_fall t r s le (met_right a b x) l = omega (arith, le a x (met_left a b x))
operands_fall t r s le (joined_left a b x) l = omega (arith, le b x (joined_right a b x))
operands_fall t r s le (joined_right a b x) l = omega (arith, le a x (joined_left a b x))
operands_fall t r s le (some_there axis a x y e) l = rw e l
operands_fall t r s le (every_there axis a x y e) l = rw e l
