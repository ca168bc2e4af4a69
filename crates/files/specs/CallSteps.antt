-- What the steps of the call ask for and leave: the model, the marks set in tables, the run of a survey, and the row listed.
use Rattle.std.specs.Prelude.{◌≡◌, ℕ, [], Some, ◌*◌, ◌<◌, ◌≤◌, List, length, slice_index_or, Ok, Err, Result}
use Rattle.shapes.specs.DepthShapes.{HasDepths}
use Rattle.shapes.specs.Tree.{Tree}
use Rattle.queries.specs.Queries.{table_of}
use Rattle.queries.specs.Rows.{told}
use Rattle.queries.specs.Table.{Table}
use Rattle.meaning.specs.Tables.{place, grades_in}
use Rattle.surveys.specs.Rules.{Opening, State}
use Rattle.surveys.specs.Standing.{Lent, Blank}
use Rattle.files.specs.Causes.{NoCause, IsGradeNumber, depths_in, rows_in, no_mark}
use Rattle.files.specs.Contents.{Contents, InOrder, NoHead}
use Rattle.files.specs.Faults.{number_of_file, line_of_file}
use Rattle.files.specs.Files.{Listed, Refuses, most_bytes}
use Rattle.files.specs.Listings.{Filed, ListsRow, WritesSome}
use Rattle.files.specs.Settling.{HoldsGrades, Settles, last_mark}
use Rattle.files.specs.Tables.{SameRooms, room_in}
use Rattle.files.specs.declared.fault.FileRefusal.{FileRefusal}
use Rattle.files.specs.declared.fault.FileRefusal.TheVariants.{NoRoom, Fault, NoMemory}
use Rattle.files.specs.declared.head.GradeKind.{GradeKind}
use Rattle.files.specs.declared.model.Model.{Model}
use Rattle.files.specs.declared.rows.AskedRow.{AskedRow}
use Rattle.files.specs.declared.rows.MarkRow.{MarkRow}
use Rattle.files.specs.declared.tables.FileTables.{FileTables}
use Rattle.files.specs.declared.tables.Room.{Room}

-- the lines stand in order to the last, nothing is wrong with them, and they ask for a row
pub record Sound (room : Room) (c : Contents) (asked : AskedRow) : Type 0 where
  pub in_order : InOrder c
  pub no_cause : NoCause room c []
  pub asks : c.asked ≡ Some asked

pub record ModelOf (c : Contents) (m : Model) : Type 0 where
  pub shape : HasDepths (depths_in c) m.shape
  pub query : table_of m.query ≡ told (rows_in c)

-- each number of a grade of the kind is that of a grade
abbrev pub GradesFor : {G : Type 0} → (G → ℕ) → GradeKind → Type 0
GradesFor {G} number kind = (n : ℕ) → IsGradeNumber kind n → (g : G) × (number g ≡ n)

-- a row stands for a mark of the survey
pub record MarkInSurvey {G : Type 0} (number : G → ℕ) (t : Tree) (q : Table) (m : MarkRow) : Type 0 where
  pub node : m.node < t.count
  pub tag : m.tag < q.tags
  pub grade : G
  pub numbered : number grade ≡ m.grade

abbrev pub MarksInSurvey : {G : Type 0} → (G → ℕ) → Tree → Table → List MarkRow → Type 0
MarksInSurvey number t q rows = (j : ℕ) → j < length rows → MarkInSurvey number t q (slice_index_or rows j no_mark)

-- a row stands for a place in a table of that size over n nodes
pub record MarkInTable {G : Type 0} (number : G → ℕ) (n size : ℕ) (m : MarkRow) : Type 0 where
  pub node : m.node < n
  pub inside : place n m.tag m.node < size
  pub grade : G
  pub numbered : number grade ≡ m.grade

abbrev pub MarksInTable : {G : Type 0} → (G → ℕ) → ℕ → ℕ → List MarkRow → Type 0
MarksInTable number n size rows = (j : ℕ) → j < length rows → MarkInTable number n size (slice_index_or rows j no_mark)

-- a table over n nodes before and after the marks of rows are set in it
abbrev pub SetsMarks : {G : Type 0} → Filed G → ℕ → List MarkRow → List G → List G → Type 0
SetsMarks k n rows before after = (a x : ℕ) → x < n → place n a x < length before →
    k.number (grades_in k.kind n after a x) ≡ last_mark (k.number (grades_in k.kind n before a x)) rows a x

-- the fronts of the tables hold the marks and the values of a state, and nothing waits there
pub record FrontHolds {G : Type 0} (o : Opening G) (s : State G) (l : Lent G) : Type 0 where
  pub grades : HoldsGrades o s l
  pub waiting : Blank l.waiting 0 (length o.query.terms * o.tree.count)

-- a survey that has settled, in a state that the tables hold, and a text that lists the row of a term
pub record RunLists {G : Type 0} (k : Filed G) (o : Opening G) (asked : ℕ) (l : Lent G) (output output' : List ℕ) (size : ℕ) : Type 0 where
  pub steps : ℕ
  pub state : State G
  pub settles : Settles o steps state
  pub holds : FrontHolds o state l
  pub written : WritesSome (ListsRow k o.tree.count steps (state.values asked)) output output' size

-- of a file that is refused the output says nothing yet
abbrev pub RowRefused : List ℕ → FileTables → FileTables → FileRefusal → Type 0
RowRefused file before after NoRoom = ⊥
RowRefused file before after (Fault fault) = SameRooms before after × Refuses (room_in before) file (number_of_file fault) (line_of_file fault)
RowRefused file before after NoMemory = (after ≡ before) × (length file ≤ most_bytes) × (NoHead file → ⊥)

abbrev pub RowListed : List ℕ → FileTables → FileTables → List ℕ → List ℕ → Result ℕ FileRefusal → Type 0
RowListed file before after output output' (Ok size) = Listed file before after output output' size
RowListed file before after output output' (Err why) = RowRefused file before after why × (output' ≡ output)
