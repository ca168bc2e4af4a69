-- Marks and values as tables: row after row, each with a grade for every node.
use Rattle.std.specs.Prelude.{◌≡◌, ℕ, ◌+◌, ◌*◌, ◌<◌, List, length, slice_index_or}
use Rattle.grades.specs.Kind.{Kind}
use Rattle.shapes.specs.Tree.{Tree}
use Rattle.queries.specs.declared.term.Term.{Term}
use Rattle.queries.specs.declared.term.Term.TheVariants.{Mark}
use Rattle.meaning.specs.Solutions.{Grades}
use Rattle.meaning.specs.Readings.{Reading}

-- where a table over n nodes has row i at node x
abbrev pub place : ℕ → ℕ → ℕ → ℕ
place n i x = i * n + x

-- the grades of a table, with lowest outside it
abbrev pub grades_in : {G : Type 0} → Kind G → ℕ → List G → Grades G
grades_in k n table i x = slice_index_or table (place n i x) k.lowest

-- x is a node, and all that the term reads there lies in the tables
pub record Readable {G : Type 0} (t : Tree) (marks values : List G) (m : Term) (x : ℕ) : Type 0 where
  pub node : x < t.count
  pub mark : (a : ℕ) → m ≡ Mark a → place t.count a x < length marks
  pub operands : (j y : ℕ) → Reading t m x j y → place t.count j y < length values
