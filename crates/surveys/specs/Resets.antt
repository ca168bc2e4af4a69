-- What setting blocks back to their start leaves in the tables and flags, and what it leaves alone.
use Rattle.std.specs.Prelude.{◌≡◌, ℕ, ◌*◌, ◌<◌, ◌≤◌, Bool, false, ◌⊎◌, List, length, Some, None, Option, ◌≢◌, slice_index, slice_index_or}
use Rattle.grades.specs.Kind.{Kind}
use Rattle.queries.specs.Table.{Table, Reaches, block_of, direction}
use Rattle.meaning.specs.Rounds.{start}
use Rattle.meaning.specs.Tables.{place, grades_in}
use Rattle.queues.specs.Within.{Within}
use Rattle.surveys.specs.declared.survey.Survey.{Survey}
use Rattle.surveys.specs.declared.survey.Work.{Work}

-- the table has a place for each term at each of n nodes; functions require it, since the table is lent, so that no type can hold it
abbrev pub HasRows : {A : Type 0} → Table → ℕ → List A → Type 0
HasRows q n table = length q.terms * n ≤ length table

-- in a table over n nodes the terms of the blocks of which P holds are at their start values, and every other place is as it was
pub record Resets {G : Type 0} (k : Kind G) (q : Table) (n : ℕ) (P : ℕ → Type 0) (before after : List G) : Type 0 where
  pub same_length : length after ≡ length before
  pub inside : (i x : ℕ) → i < length q.terms → x < n → P (block_of q i) → grades_in k n after i x ≡ start k (direction q i)
  pub others : (p : ℕ) (d : G) → ((i x : ℕ) → i < length q.terms → x < n → P (block_of q i) → place n i x ≢ p) → slice_index_or after p d ≡ slice_index_or before p d

-- of the first n flags those of the blocks that the tag reaches say stale, and every other flag is as it was
pub record Unsettles (q : Table) (tag n : ℕ) (before after : List Bool) : Type 0 where
  pub same_length : length after ≡ length before
  pub reached : (b : ℕ) → b < n → Reaches q tag b → slice_index_or after b false ≡ false
  pub unreached : (b : ℕ) → (Reaches q tag b → ⊥) → slice_index_or after b false ≡ slice_index_or before b false
  pub beyond : (b : ℕ) → n ≤ b → slice_index_or after b false ≡ slice_index_or before b false

-- the survey with these flags
abbrev pub with_flags : Survey → List Bool → Survey
with_flags v flags = record { nodes = v.nodes; tags = v.tags; terms = v.terms; blocks = v.blocks; settled = flags; current = v.current }

-- of the first n places those below the size are 0, and every other place is as it was
pub record Clears (size n : ℕ) (before after : List ℕ) : Type 0 where
  pub within : Within n before after
  pub below : (p : ℕ) → p < size → p < n → slice_index after p ≡ 0
  pub above : (p : ℕ) → size ≤ p → slice_index after p ≡ slice_index before p

-- a current block that the tag reaches is given up, with its queue; any other stays, with its queue
abbrev pub Releases : Table → ℕ → ℕ → Option Work → Option Work → List ℕ → List ℕ → Type 0
Releases q tag n None after waiting waiting' = (after ≡ None) × (waiting' ≡ waiting)
Releases q tag n (Some work) after waiting waiting' =
    (Reaches q tag work.block × (after ≡ None) × Clears work.queue.size n waiting waiting')
    ⊎ ((Reaches q tag work.block → ⊥) × (after ≡ Some work) × (waiting' ≡ waiting))

-- the blocks that the tag reaches are stale, at their start values and not current; all else of the survey is as it was
pub record Restarts {G : Type 0} (k : Kind G) (q : Table) (tag : ℕ) (v v' : Survey) (table table' : List G) (waiting waiting' : List ℕ) : Type 0 where
  pub counts : v' ≡ record { nodes = v.nodes; tags = v.tags; terms = v.terms; blocks = v.blocks; settled = v'.settled; current = v'.current }
  pub settled : Unsettles q tag v.blocks v.settled v'.settled
  pub values : Resets k q v.nodes (λ b. (b < v.blocks) × Reaches q tag b) table table'
  pub current : Releases q tag (v.terms * v.nodes) v.current v'.current waiting waiting'
