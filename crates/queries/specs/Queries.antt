-- An admitted query as its table, and what its questions answer.
use Rattle.std.specs.Prelude.{◌≡◌, ℕ, ◌<◌, ◌≤◌, List, [], ◌∷◌, length, vec_items, slice_index}
use Rattle.std.specs.List.{ContainsAt as Has}
use Rattle.queries.specs.declared.block.Solution.TheVariants.{Least}
use Rattle.queries.specs.declared.block.Span.{Span}
use Rattle.queries.specs.declared.query.Query.{Query}
use Rattle.queries.specs.declared.term.Term.TheVariants.{Lowest}
use Rattle.queries.specs.Entries.{kept}
use Rattle.queries.specs.Table.{Table, table, Reads, block_of, term_at}

abbrev pub table_of : Query → Table
table_of q = kept q.tags (vec_items q.blocks) (vec_items q.terms)

-- one least block of one lowest term, and no tag
abbrev pub lowest_alone : Table
lowest_alone = table 0 (record { solution = Least; terms = 1 } ∷ []) (Lowest ∷ [])

-- from the first up to the end stand the terms of a block, and no others
pub record Spans (q : Table) (block : ℕ) (s : Span) : Type 0 where
  pub stands : block < length q.blocks
  pub inside : (i : ℕ) → s.first ≤ i → i < s.end → (i < length q.terms) × (block_of q i ≡ block)
  pub all : (i : ℕ) → i < length q.terms → block_of q i ≡ block → (s.first ≤ i) × (i < s.end)

-- term j is of the block of term t, and reads it
pub record Reader (q : Table) (t j : ℕ) : Type 0 where
  pub stands : j < length q.terms
  pub same_block : block_of q j ≡ block_of q t
  pub reads : Reads (term_at q j) t

-- the readers of a term, each once, in rising order
pub record ListsReaders (q : Table) (t : ℕ) (l : List ℕ) : Type 0 where
  pub rising : (a b : ℕ) → a < b → b < length l → slice_index l a < slice_index l b
  pub only : (j : ℕ) → Has l j → Reader q t j
  pub all : (j : ℕ) → Reader q t j → Has l j
