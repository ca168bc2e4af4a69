-- Settling a query over a tree on the marks of a file.
use Rattle.std.specs.Prelude.{◌≡◌, ℕ, ◌*◌, ◌<◌, ◌≤◌, cond, ◌&&◌, List, [], ◌∷◌, length, replicate, ◌==◌, slice_index_or}
use Rattle.shapes.specs.Tree.{Tree}
use Rattle.queries.specs.Table.{Table}
use Rattle.meaning.specs.Solutions.{Grades, Blockwise}
use Rattle.meaning.specs.Tables.{grades_in}
use Rattle.surveys.specs.Promise.{opening}
use Rattle.surveys.specs.Rules.{Opening, State, EveryBlockSettled, Makes, opened}
use Rattle.surveys.specs.Standing.{Lent}
use Rattle.files.specs.declared.rows.MarkRow.{MarkRow}
use Rattle.files.specs.Listings.{Filed, ListsRow}

-- the number of the last mark of a tag at a node; another where there is none
abbrev pub last_mark : ℕ → List MarkRow → ℕ → ℕ → ℕ
last_mark other [] a x = other
last_mark other (m ∷ ms) a x = last_mark (cond (m.tag == a && m.node == x) m.grade other) ms a x

-- the marks that rows set: later ones win, and an unmentioned mark is lowest
abbrev pub MarksOf : {G : Type 0} → Filed G → List MarkRow → Grades G → Type 0
MarksOf k rows m = (a x : ℕ) → k.number (m a x) ≡ last_mark (k.number k.kind.lowest) rows a x

-- the most steps that a file may need
abbrev pub most_steps : ℕ
most_steps = 10000

-- a survey opened on the tree, the query and the marks settles in so many steps, and is then in a state
pub record Settles {G : Type 0} (o : Opening G) (steps : ℕ) (s : State G) : Type 0 where
  pub few : steps ≤ most_steps
  pub made : Makes o steps (opened o) s
  pub all : EveryBlockSettled o s

-- it has made the most steps, and is not settled
pub record RunsOut {G : Type 0} (o : Opening G) : Type 0 where
  pub state : State G
  pub made : Makes o most_steps (opened o) state
  pub stale_left : EveryBlockSettled o state → ⊥

-- a survey that is opened on the tree, the query and the marks of the rows does not settle in the most steps
pub record NeedsMore {G : Type 0} (k : Filed G) (t : Tree) (q : Table) (rows : List MarkRow) : Type 0 where
  pub marks : Grades G
  pub marked : MarksOf k rows marks
  pub runs_out : RunsOut (opening k.kind t q marks)

-- the tables hold the marks and the values of a state
pub record HoldsGrades {G : Type 0} (o : Opening G) (s : State G) (l : Lent G) : Type 0 where
  pub marks : (a x : ℕ) → a < o.query.tags → x < o.tree.count → grades_in o.kind o.tree.count l.marks a x ≡ s.marks a x
  pub values : (i x : ℕ) → i < length o.query.terms → x < o.tree.count → grades_in o.kind o.tree.count l.values i x ≡ s.values i x

-- .. with lowest behind them, and nothing waits
pub record HoldsState {G : Type 0} (o : Opening G) (s : State G) (l : Lent G) : Type 0 where
  pub grades : HoldsGrades o s l
  pub marks_behind : (p : ℕ) → o.query.tags * o.tree.count ≤ p → slice_index_or l.marks p o.kind.lowest ≡ o.kind.lowest
  pub values_behind : (p : ℕ) → length o.query.terms * o.tree.count ≤ p → slice_index_or l.values p o.kind.lowest ≡ o.kind.lowest
  pub waiting : l.waiting ≡ replicate (length l.waiting) 0

-- a survey that is opened on the tree, the query and the marks of the rows, and settled; its values are the blockwise solution
pub record Solved {G : Type 0} (k : Filed G) (t : Tree) (q : Table) (rows : List MarkRow) : Type 0 where
  pub marks : Grades G
  pub marked : MarksOf k rows marks
  pub steps : ℕ
  pub state : State G
  pub settles : Settles (opening k.kind t q marks) steps state
  pub solution : (v : Grades G) → Blockwise k.kind t q marks v → (i x : ℕ) → i < length q.terms → x < t.count → state.values i x ≡ v i x

-- the text lists the row of a term
abbrev pub ListsTerm : {G : Type 0} → (k : Filed G) (t : Tree) (q : Table) (rows : List MarkRow) → Solved k t q rows → ℕ → List ℕ → Type 0
ListsTerm k t q rows s asked text = ListsRow k t.count s.steps (s.state.values asked) text

-- and the tables hold the state
pub record Settled {G : Type 0} (k : Filed G) (t : Tree) (q : Table) (rows : List MarkRow) (asked : ℕ) (l : Lent G) (text : List ℕ) : Type 0 where
  pub solved : Solved k t q rows
  pub lists : ListsTerm k t q rows solved asked text
  pub holds : HoldsState (opening k.kind t q solved.marks) solved.state l
