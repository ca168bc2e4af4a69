-- What the rows of a query table stand for.
use Rattle.std.specs.Prelude.{◌≡◌, ℕ, ◌≤◌, cond, List, [], ◌∷◌, map, Some, None, Option, Result, MatchResult, ◌==◌}
use Rattle.std.specs.List.{slice_get}
use Rattle.std.specs.Option.{unwrap_or}
use Rattle.shapes.specs.declared.axis.Axis.TheVariants.{First, Next, Owner, Previous}
use Rattle.queries.specs.declared.block.Block.{Block}
use Rattle.queries.specs.declared.block.Solution.{Solution}
use Rattle.queries.specs.declared.block.Solution.TheVariants.{Least, Greatest}
use Rattle.queries.specs.declared.rows.BadBlockRow.{BadBlockRow}
use Rattle.queries.specs.declared.rows.BadTermRow.{BadTermRow}
use Rattle.queries.specs.declared.rows.BlockRow.{BlockRow}
use Rattle.queries.specs.declared.rows.QueryTable.{QueryTable}
use Rattle.queries.specs.declared.rows.TermRow.{TermRow}
use Rattle.queries.specs.declared.term.Term.{Term}
use Rattle.queries.specs.declared.term.Term.TheVariants.{Mark, Turn, Meet, Join, SomeNeighbour, EveryNeighbour, Lowest, Highest}
use Rattle.queries.specs.Table.{Table}

-- a table as it comes
pub record Rows : Type 0 where
  pub tags : ℕ
  pub blocks : List BlockRow
  pub terms : List TermRow

abbrev pub no_row : BlockRow
no_row = record { kind = 0; terms = 0 }

abbrev pub rows : ℕ → List BlockRow → List TermRow → Rows
rows tags blocks terms = record { tags = tags; blocks = blocks; terms = terms }

abbrev pub rows_of : QueryTable → Rows
rows_of table = rows table.tags table.blocks.now table.terms.now

-- a kind by the operands that it uses
pub data Form : Type 0 where
  uses_none : Term → Form
  uses_a : (ℕ → Term) → Form
  uses_both : (ℕ → ℕ → Term) → Form

-- the kinds of terms, numbered from 0 in this order
abbrev pub kinds : List Form
kinds =
    uses_a Mark ∷ (uses_a Turn ∷ (uses_both Meet ∷ (uses_both Join ∷
    (uses_a (SomeNeighbour First) ∷ (uses_a (SomeNeighbour Next) ∷ (uses_a (SomeNeighbour Owner) ∷ (uses_a (SomeNeighbour Previous) ∷
    (uses_a (EveryNeighbour First) ∷ (uses_a (EveryNeighbour Next) ∷ (uses_a (EveryNeighbour Owner) ∷ (uses_a (EveryNeighbour Previous) ∷
    (uses_none Lowest ∷ (uses_none Highest ∷ [])))))))))))))

-- the term of a kind with its operands; none where an unused operand is not 0
abbrev pub made_of : Form → ℕ → ℕ → Option Term
made_of (uses_none t) a b = cond (a == 0) (cond (b == 0) (Some t) None) None
made_of (uses_a t) a b = cond (b == 0) (Some (t a)) None
made_of (uses_both t) a b = Some (t a b)

abbrev pub made_of_kind : Option Form → ℕ → ℕ → Option Term
made_of_kind None a b = None
made_of_kind (Some form) a b = made_of form a b

-- the term that a row stands for; none where the kind is unknown or an unused operand is not 0
abbrev pub term_in : TermRow → Option Term
term_in row = made_of_kind (slice_get kinds row.kind) row.a row.b

-- the kinds of blocks: least 0, greatest 1
abbrev pub solutions : List Solution
solutions = Least ∷ (Greatest ∷ [])

abbrev pub block_in : BlockRow → Block
block_in row = record { solution = unwrap_or (slice_get solutions row.kind) Least; terms = row.terms }

-- a block has a term, and its kind is 0 or 1
abbrev pub RowFits : BlockRow → Type 0
RowFits row = (1 ≤ row.terms) × (row.kind ≤ 1)

-- the block of a row that fits, and an error for another
abbrev pub TellsBlock : BlockRow → Result Block BadBlockRow → Type 0
TellsBlock row r = MatchResult r (λ block. RowFits row × (block ≡ block_in row)) (λ _. RowFits row → ⊥)

-- the term of a row, and an error where it stands for none
abbrev pub TellsTerm : TermRow → Result Term BadTermRow → Type 0
TellsTerm row r = MatchResult r (λ term. term_in row ≡ Some term) (λ _. term_in row ≡ None)

-- the query that a table tells, with the lowest term in place of one that a row does not tell
abbrev pub told : Rows → Table
told r = record { tags = r.tags; blocks = map block_in r.blocks; terms = map (λ row. unwrap_or (term_in row) Lowest) r.terms }
