-- What admission answers for every table.
use Rattle.std.specs.Prelude.{◌≡◌, ℕ, ◌<◌, ◌≤◌, true, length, is_some, slice_index_or}
use Rattle.queries.specs.declared.refusal.QueryRefusal.{QueryRefusal}
use Rattle.queries.specs.declared.refusal.QueryRefusal.TheVariants.{Sizes, BadBlock, BlockSum, BadTerm, LaterBlock, OwnTurn, NoMemory}
use Rattle.queries.specs.Rows.{Rows, RowFits, no_row, term_in, told}
use Rattle.queries.specs.Table.{total, TagStands, OperandsStand, NoLaterBlock, TurnEarlier}

-- at most 16 tags, and 1 to 64 terms
pub record SizesFit (r : Rows) : Type 0 where
  pub few_tags : r.tags ≤ 16
  pub some_term : 1 ≤ length r.terms
  pub few_terms : length r.terms ≤ 64

abbrev pub BlockFits : Rows → ℕ → Type 0
BlockFits r b = RowFits (slice_index_or r.blocks b no_row)

abbrev pub BlocksAddUp : Rows → Type 0
BlocksAddUp r = total (told r).blocks ≡ length r.terms

-- a term of a known kind, with its tag and its operands there and its unused operands 0
pub record Stands (r : Rows) (i : ℕ) : Type 0 where
  pub known : is_some (term_in (slice_index_or r.terms i (record { kind = 12; a = 0; b = 0 }))) ≡ true
  pub tag : TagStands (told r) i
  pub operands : OperandsStand (told r) i

-- a term that keeps every rule
pub record Fits (r : Rows) (i : ℕ) : Type 0 where
  pub stands : Stands r i
  pub no_later_block : NoLaterBlock (told r) i
  pub turn_earlier : TurnEarlier (told r) i

-- sizes and blocks are as they should be
pub record Framed (r : Rows) : Type 0 where
  pub sizes : SizesFit r
  pub blocks : (b : ℕ) → b < length r.blocks → BlockFits r b
  pub sum : BlocksAddUp r

-- the frame is right, and every term before i keeps every rule
pub record FineBefore (r : Rows) (i : ℕ) : Type 0 where
  pub framed : Framed r
  pub term : i < length r.terms
  pub before : (k : ℕ) → k < i → Fits r k

-- the table keeps every rule
pub record Admissible (r : Rows) : Type 0 where
  pub framed : Framed r
  pub terms : (i : ℕ) → i < length r.terms → Fits r i

-- the first rule, in order, that a table breaks
abbrev pub Breaks : Rows → QueryRefusal → Type 0
Breaks r Sizes = SizesFit r → ⊥
Breaks r (BadBlock b) = SizesFit r × (b < length r.blocks) × (BlockFits r b → ⊥) × ((k : ℕ) → k < b → BlockFits r k)
Breaks r BlockSum = SizesFit r × ((b : ℕ) → b < length r.blocks → BlockFits r b) × (BlocksAddUp r → ⊥)
Breaks r (BadTerm i) = FineBefore r i × (Stands r i → ⊥)
Breaks r (LaterBlock i) = FineBefore r i × Stands r i × (NoLaterBlock (told r) i → ⊥)
Breaks r (OwnTurn i) = FineBefore r i × Stands r i × NoLaterBlock (told r) i × (TurnEarlier (told r) i → ⊥)
Breaks r NoMemory = ⊥

-- why a table is refused: the first rule that it breaks, or want of memory where it breaks none
abbrev pub RefusedFor : Rows → QueryRefusal → Type 0
RefusedFor r NoMemory = Admissible r
RefusedFor r why = Breaks r why
