-- A query as a table of definitions, and the rules that an admitted one keeps.
use Rattle.std.specs.Prelude.{◌≡◌, ℕ, suc, ◌+◌, ◌-◌, ◌<◌, ◌≤◌, Bool, cond, T, List, [], ◌∷◌, length, get_or, ◌≢◌, nat_lt, slice_index_or}
use Rattle.shapes.specs.declared.axis.Axis.{Axis}
use Rattle.queries.specs.declared.block.Block.{Block}
use Rattle.queries.specs.declared.block.Solution.{Solution}
use Rattle.queries.specs.declared.block.Solution.TheVariants.{Least, Greatest}
use Rattle.queries.specs.declared.term.Term.{Term}
use Rattle.queries.specs.declared.term.Term.TheVariants.{Mark, Turn, Meet, Join, SomeNeighbour, EveryNeighbour, Lowest}

pub record Table : Type 0 where
  pub tags : ℕ
  pub blocks : List Block
  pub terms : List Term

abbrev pub table : ℕ → List Block → List Term → Table
table tags blocks terms = record { tags = tags; blocks = blocks; terms = terms }

abbrev pub term_at : Table → ℕ → Term
term_at q i = slice_index_or q.terms i Lowest

abbrev pub no_block : Block
no_block = record { solution = Least; terms = 0 }

-- the block that a term is dealt into, with blocks dealt in order
abbrev pub dealt : List Block → ℕ → ℕ
dealt [] i = 0
dealt (b ∷ bs) i = cond (nat_lt i b.terms) 0 (suc (dealt bs (i - b.terms)))

abbrev pub block_of : Table → ℕ → ℕ
block_of q i = dealt q.blocks i

abbrev pub total : List Block → ℕ
total [] = 0
total (b ∷ bs) = b.terms + total bs

-- whether a block is read as its least or its greatest solution
abbrev pub solution_at : Table → ℕ → Solution
solution_at q b = (get_or q.blocks b no_block).solution

abbrev pub blocks_terms : Table → ℕ → ℕ
blocks_terms q b = (get_or q.blocks b no_block).terms

-- the end from which a term's grades set out and the side on which its solution is best
abbrev pub direction : Table → ℕ → Solution
direction q i = solution_at q (block_of q i)

-- a term reads term j
pub data Reads : Term → ℕ → Type 0 where
  by_turn : (a : ℕ) → Reads (Turn a) a
  by_meet_left : (a b : ℕ) → Reads (Meet a b) a
  by_meet_right : (a b : ℕ) → Reads (Meet a b) b
  by_join_left : (a b : ℕ) → Reads (Join a b) a
  by_join_right : (a b : ℕ) → Reads (Join a b) b
  by_some : (x : Axis) (a : ℕ) → Reads (SomeNeighbour x a) a
  by_every : (x : Axis) (a : ℕ) → Reads (EveryNeighbour x a) a

-- the rules for the numbers of tags, terms and blocks
pub record Sized (q : Table) : Type 0 where
  pub few_tags : q.tags ≤ 16
  pub some_term : 1 ≤ length q.terms
  pub few_terms : length q.terms ≤ 64
  pub no_empty_block : (b : ℕ) → b < length q.blocks → 1 ≤ blocks_terms q b
  pub all_dealt : total q.blocks ≡ length q.terms

-- the rules for one term: its tag and its operands stand, it reads no later block, and a turn reads an earlier one
abbrev pub TagStands : Table → ℕ → Type 0
TagStands q i = (a : ℕ) → term_at q i ≡ Mark a → a < q.tags

abbrev pub OperandsStand : Table → ℕ → Type 0
OperandsStand q i = (j : ℕ) → Reads (term_at q i) j → j < length q.terms

abbrev pub NoLaterBlock : Table → ℕ → Type 0
NoLaterBlock q i = (j : ℕ) → Reads (term_at q i) j → block_of q j ≤ block_of q i

abbrev pub TurnEarlier : Table → ℕ → Type 0
TurnEarlier q i = (a : ℕ) → term_at q i ≡ Turn a → block_of q a < block_of q i

-- what every admitted query keeps
pub record Admitted (q : Table) : Type 0 where
  pub sized : Sized q
  pub tag_stands : (i : ℕ) → i < length q.terms → TagStands q i
  pub operands_stand : (i : ℕ) → i < length q.terms → OperandsStand q i
  pub no_later_block : (i : ℕ) → i < length q.terms → NoLaterBlock q i
  pub turn_earlier : (i : ℕ) → i < length q.terms → TurnEarlier q i

abbrev pub opposite : Solution → Solution
opposite Least = Greatest
opposite Greatest = Least

-- within a block a turn joins terms of opposite directions, and every other reading terms of like direction
pub record Directed (q : Table) : Type 0 where
  pub turn_unlike : (i a : ℕ) → i < length q.terms → term_at q i ≡ Turn a → block_of q a ≡ block_of q i → direction q a ≡ opposite (direction q i)
  pub others_like : (i j : ℕ) → i < length q.terms → Reads (term_at q i) j → ((a : ℕ) → term_at q i ≢ Turn a) → block_of q j ≡ block_of q i → direction q j ≡ direction q i

-- a changed mark of a tag reaches each block that reads the tag, or that reads a reached block
pub data Reaches (q : Table) (tag : ℕ) : ℕ → Type 0 where
  by_mark : (i : ℕ) → i < length q.terms → term_at q i ≡ Mark tag → Reaches q tag (block_of q i)
  by_reading : (i j : ℕ) → i < length q.terms → Reads (term_at q i) j → Reaches q tag (block_of q j) → Reaches q tag (block_of q i)

-- a test answers yes exactly where P holds; grades has the same word, and neither crate stands on the other
abbrev pub Says : Bool → Type 0 → Type 0
Says b P = (T b → P) × (P → T b)
