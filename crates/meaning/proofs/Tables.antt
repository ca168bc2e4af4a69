-- What a term needs of the tables, by its form.
use Rattle.std.proofs.Common.{◌≡◌, ℕ, ◌<◌, List, length, Some, None, Option, sym, refl, subst, subst₂, arith}
use Rattle.std.specs.Option.{SomeIff}
use Rattle.grades.specs.Kind.{Kind}
use Rattle.shapes.specs.Tree.{Tree, along}
use Rattle.queries.specs.declared.term.Term.{Term}
use Rattle.queries.specs.declared.term.Term.TheVariants.{Mark, Turn, Meet, Join, SomeNeighbour, EveryNeighbour, Lowest, Highest}
use Rattle.meaning.specs.Solutions.{grade_of_lem, at_or}
use Rattle.meaning.specs.Readings.{Reading}
use Rattle.meaning.specs.Readings.Reading.{turned, met_left, met_right, joined_left, joined_right, some_there, every_there}
use Rattle.meaning.specs.Tables.{place, grades_in, Readable}

checked_as : {A : Type 0} {P Q : Type 0} (r : Option A) (v : A) → (P → Q) → (Q → P) → SomeIff r P v → SomeIff r Q v
checked_as None v to from h = λ q. h (from q)
checked_as (Some x) v to from h = (to h.0, h.1)

-- what a term needs of tables over n nodes, by its form
abbrev Needs : {G : Type 0} → Tree → ℕ → List G → List G → Term → ℕ → Type 0
Needs t n marks values (Mark a) x = place n a x < length marks
Needs t n marks values (Turn a) x = place n a x < length values
Needs t n marks values (Meet a b) x = (place n a x < length values) × (place n b x < length values)
Needs t n marks values (Join a b) x = (place n a x < length values) × (place n b x < length values)
Needs t n marks values (SomeNeighbour axis a) x = (y : ℕ) → along t axis x ≡ Some y → place n a y < length values
Needs t n marks values (EveryNeighbour axis a) x = (y : ℕ) → along t axis x ≡ Some y → place n a y < length values
Needs t n marks values Lowest x = Unit {0}
Needs t n marks values Highest x = Unit {0}

module _ {G : Type 0} (t : Tree) (marks values : List G) where
  needs_mark : (m : Term) (x a : ℕ) → Needs t t.count marks values m x → m ≡ Mark a → place t.count a x < length marks
  needs_mark m x a p e = subst (λ m. Needs t t.count marks values m x) e p

  needs_operand : {m : Term} {x j y : ℕ} → Reading t m x j y → Needs t t.count marks values m x → place t.count j y < length values
  needs_operand (turned a x) p = p
  needs_operand (met_left a b x) p = p.0
  needs_operand (met_right a b x) p = p.1
  needs_operand (joined_left a b x) p = p.0
  needs_operand (joined_right a b x) p = p.1
  needs_operand (some_there axis a x y e) p = p y e
  needs_operand (every_there axis a x y e) p = p y e

  readable_needs : (m : Term) (x : ℕ) → Readable t marks values m x → Needs t t.count marks values m x
  readable_needs (Mark a) x r = r.mark a refl
  readable_needs (Turn a) x r = r.operands a x (turned a x)
  readable_needs (Meet a b) x r = (r.operands a x (met_left a b x), r.operands b x (met_right a b x))
  readable_needs (Join a b) x r = (r.operands a x (joined_left a b x), r.operands b x (joined_right a b x))
  readable_needs (SomeNeighbour axis a) x r = λ y e. r.operands a y (some_there axis a x y e)
  readable_needs (EveryNeighbour axis a) x r = λ y e. r.operands a y (every_there axis a x y e)
  readable_needs Lowest x r = tt
  readable_needs Highest x r = tt

-- an answer that is right by what its term needs is right by what is readable
pub answered : {G : Type 0} (k : Kind G) (t : Tree) (marks values : List G) {n : ℕ} → n ≡ t.count → {m m' : Term} → m ≡ m' → {x : ℕ} → x < n → {r : Option G} (r' : Option G) → r ≡ r' →
    SomeIff r' (Needs t n marks values m' x) (grade_of_lem k t (grades_in k n marks) (grades_in k n values) m' x) →
    SomeIff r (Readable t marks values m x) (grade_of_lem k t (grades_in k t.count marks) (grades_in k t.count values) m x)
answered {G} k t marks values {n} count {m} {m'} e {x} node {r} r' same h =
    subst₂ (λ m r. SomeIff r (Readable t marks values m x) (grade m)) (sym e) (sym same)
    (checked_as r' (grade m')
    (λ p. record { node = omega (arith, count, node); mark = λ a e. needs_mark t marks values m' x a p e; operands = λ j y read. needs_operand t marks values read p })
    (readable_needs t marks values m' x)
    (subst (λ n. SomeIff r' (Needs t n marks values m' x) (grade_of_lem k t (grades_in k n marks) (grades_in k n values) m' x)) count h))
  where
    grade : Term → G
    grade m = grade_of_lem k t (grades_in k t.count marks) (grades_in k t.count values) m x

-- the same at a neighbour that is told by an equation
pub there_as : {G : Type 0} (r : Option G) {o o' : Option ℕ} {other other' : G} (P : ℕ → Type 0) (row : ℕ → G) → o ≡ o' → other ≡ other' → SomeIff r ((y : ℕ) → o ≡ Some y → P y) (at_or other row o) → SomeIff r ((y : ℕ) → o' ≡ Some y → P y) (at_or other' row o')
there_as r P row e e' h = subst₂ (λ o other. SomeIff r ((y : ℕ) → o ≡ Some y → P y) (at_or other row o)) e e' h
