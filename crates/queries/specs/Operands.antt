-- The terms that a term reads, by place.
use Rattle.std.specs.Prelude.{ℕ, Bool, false, ◌||◌, Some, None, Option, ◌==◌}
use Rattle.queries.specs.declared.term.Operands.{Operands}
use Rattle.queries.specs.declared.term.Term.{Term}
use Rattle.queries.specs.declared.term.Term.TheVariants.{Mark, Turn, Meet, Join, SomeNeighbour, EveryNeighbour, Lowest, Highest}

abbrev pub both : ℕ → ℕ → Option Operands
both a b = Some (record { left = a; right = b })

-- a single operand stands on both sides
abbrev pub operands_of : Term → Option Operands
operands_of (Mark a) = None
operands_of (Turn a) = both a a
operands_of (Meet a b) = both a b
operands_of (Join a b) = both a b
operands_of (SomeNeighbour x a) = both a a
operands_of (EveryNeighbour x a) = both a a
operands_of Lowest = None
operands_of Highest = None

abbrev pub either_is : Option Operands → ℕ → Bool
either_is None j = false
either_is (Some o) j = o.left == j || o.right == j

-- whether a term is the mark of a tag
abbrev pub marks : Term → ℕ → Bool
marks (Mark a) tag = a == tag
marks (Turn a) tag = false
marks (Meet a b) tag = false
marks (Join a b) tag = false
marks (SomeNeighbour x a) tag = false
marks (EveryNeighbour x a) tag = false
marks Lowest tag = false
marks Highest tag = false
