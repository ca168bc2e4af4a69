-- What the parts of admission find.
use Rattle.std.specs.Prelude.{◌≡◌, ℕ, ◌<◌, Bool, true, ◌&&◌, ltb, length, Some, None, Option, nat_le, nat_lt}
use Rattle.queries.specs.declared.block.Span.{Span}
use Rattle.queries.specs.declared.refusal.QueryRefusal.{QueryRefusal}
use Rattle.queries.specs.declared.refusal.QueryRefusal.TheVariants.{Sizes, BadBlock, BlockSum, BadTerm, LaterBlock, OwnTurn, NoMemory}
use Rattle.queries.specs.declared.term.Operands.{Operands}
use Rattle.queries.specs.declared.term.Term.{Term}
use Rattle.queries.specs.declared.term.Term.TheVariants.{Mark, Turn, Meet, Join, SomeNeighbour, EveryNeighbour, Lowest, Highest}
use Rattle.queries.specs.Admission.{Stands, Fits}
use Rattle.queries.specs.Operands.{operands_of}
use Rattle.queries.specs.Rows.{Rows, told}
use Rattle.queries.specs.Table.{Table, NoLaterBlock, TurnEarlier}
use Rattle.queries.specs.Workings.{span_of}

-- a test of both operands, or another where there are none
abbrev pub both_in : Option Operands → Bool → (ℕ → Bool) → Bool
both_in None other test = other
both_in (Some o) other test = test o.left && test o.right

-- whether a term's tag and operands are there
abbrev pub tag_below : Term → ℕ → Bool
tag_below (Mark a) tags = nat_lt a tags
tag_below (Turn a) tags = true
tag_below (Meet a b) tags = true
tag_below (Join a b) tags = true
tag_below (SomeNeighbour x a) tags = true
tag_below (EveryNeighbour x a) tags = true
tag_below Lowest tags = true
tag_below Highest tags = true

abbrev pub standing : ℕ → ℕ → Term → Bool
standing tags count term = both_in (operands_of term) (tag_below term tags) (λ j. ltb j count)

-- below, blocks tells the block of each term

-- whether a term reads no block past this one
abbrev pub reading_up_to : (ℕ → ℕ) → ℕ → Term → Bool
reading_up_to blocks block term = both_in (operands_of term) true (λ j. nat_le (blocks j) block)

-- a turn reads a block before this one
abbrev pub TurnsBefore : (ℕ → ℕ) → ℕ → Term → Type 0
TurnsBefore blocks block term = (a : ℕ) → term ≡ Turn a → blocks a < block

-- a span is that of the terms of a block
pub record SpanOf (q : Table) (block : ℕ) (s : Span) : Type 0 where
  pub stands : block < length q.blocks
  pub is : s ≡ span_of q block

-- the first rule that term i breaks
abbrev pub Faulty : Rows → ℕ → QueryRefusal → Type 0
Faulty r i Sizes = ⊥
Faulty r i (BadBlock block) = ⊥
Faulty r i BlockSum = ⊥
Faulty r i (BadTerm term) = (term ≡ i) × (Stands r i → ⊥)
Faulty r i (LaterBlock term) = (term ≡ i) × Stands r i × (NoLaterBlock (told r) i → ⊥)
Faulty r i (OwnTurn term) = (term ≡ i) × Stands r i × NoLaterBlock (told r) i × (TurnEarlier (told r) i → ⊥)
Faulty r i NoMemory = ⊥

-- the first rule that the first faulty term breaks
pub record FirstFaulty (r : Rows) (e : QueryRefusal) : Type 0 where
  pub term : ℕ
  pub there : term < length r.terms
  pub before : (k : ℕ) → k < term → Fits r k
  pub faulty : Faulty r term e
