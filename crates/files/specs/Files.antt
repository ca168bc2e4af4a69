-- What the call on a survey file answers, and what it leaves.
use Rattle.std.specs.Prelude.{◌≡◌, ℕ, ◌<◌, ◌≤◌, Bool, List, [], length, Some, Ok, Err, Result}
use Rattle.grades.specs.Filed.{yes_no_number, stage_set_number}
use Rattle.grades.specs.StageSets.{stage_sets}
use Rattle.grades.specs.YesNo.{yes_no}
use Rattle.shapes.specs.Depths.{DepthTree}
use Rattle.shapes.specs.Mirrors.{MirrorOf}
use Rattle.shapes.specs.Tree.{Tree}
use Rattle.queries.specs.Rows.{told}
use Rattle.surveys.specs.Standing.{Lent}
use Rattle.grades.specs.declared.stage_set.StageSet.{StageSet}
use Rattle.files.specs.declared.fault.FileRefusal.{FileRefusal}
use Rattle.files.specs.declared.fault.FileRefusal.TheVariants.{NoRoom, Fault, NoMemory}
use Rattle.files.specs.declared.head.GradeKind.{GradeKind}
use Rattle.files.specs.declared.head.GradeKind.TheVariants.{YesNo, StageSets}
use Rattle.files.specs.declared.head.Hand.{Hand}
use Rattle.files.specs.declared.head.Hand.TheVariants.{AsListed, Mirrored}
use Rattle.files.specs.declared.rows.AskedRow.{AskedRow}
use Rattle.files.specs.declared.tables.FileTables.{FileTables}
use Rattle.files.specs.declared.tables.Room.{Room}
use Rattle.files.specs.Causes.{FirstCause, NoCause, depths_in, rows_in}
use Rattle.files.specs.Contents.{Contents, NoHead, Reads, lines_of}
use Rattle.files.specs.Faults.{number_of_file, line_of_file}
use Rattle.files.specs.Listings.{Filed, Writes, WritesSome, fault_line, filed}
use Rattle.files.specs.Settling.{ListsTerm, NeedsMore, Settled, Solved}
use Rattle.files.specs.Tables.{IsCleared, SameRoom, AllCleared, lists_of, room_in}

-- no file may be longer
abbrev pub most_bytes : ℕ
most_bytes = 65536

-- the room that the longest listing takes
abbrev pub output_room : ℕ
output_room = 34840

abbrev pub filed_yes_no : Filed Bool
filed_yes_no = filed yes_no yes_no_number

abbrev pub filed_stage_sets : Filed StageSet
filed_stage_sets = filed stage_sets stage_set_number

-- the tree of a model: that of its depths, or its mirror
abbrev pub TreeOf : Contents → Hand → Tree → Type 0
TreeOf c AsListed t = DepthTree (depths_in c) t
TreeOf c Mirrored t = (s : Tree) × (DepthTree (depths_in c) s × MirrorOf s t)

-- a file that can be settled: it is read to its end, and has no cause to be refused; the rooms are those of the tables for each kind
pub record Lawful (rooms : GradeKind → Room) (file : List ℕ) (c : Contents) (asked : ℕ) : Type 0 where
  pub short : length file ≤ most_bytes
  pub reads : Reads file c []
  pub no_cause : NoCause (rooms c.head.grades) c []
  pub row : AskedRow
  pub asks : c.asked ≡ Some row
  pub term : asked ≡ row.term

abbrev pub NeedsMoreFor : {G : Type 0} → Filed G → Contents → Type 0
NeedsMoreFor k c = (t : Tree) × (TreeOf c c.head.hand t × NeedsMore k t (told (rows_in c)) c.marks)

abbrev pub NeedsMoreSteps : GradeKind → Contents → Type 0
NeedsMoreSteps YesNo c = NeedsMoreFor filed_yes_no c
NeedsMoreSteps StageSets c = NeedsMoreFor filed_stage_sets c

-- why a file is refused, by number and line
pub data Refuses (rooms : GradeKind → Room) (file : List ℕ) : ℕ → ℕ → Type 0 where
  too_long : most_bytes < length file → Refuses rooms file 13 0
  no_head : length file ≤ most_bytes → NoHead file → Refuses rooms file 12 1
  first_cause : (c : Contents) (rest : List ℕ) (number line : ℕ) → length file ≤ most_bytes → Reads file c rest → FirstCause (rooms c.head.grades) c rest number line → Refuses rooms file number line
  too_many_steps : (c : Contents) (asked : ℕ) → Lawful rooms file c asked → NeedsMoreSteps c.head.grades c → Refuses rooms file 14 (lines_of c)

-- the text is the listing of a file: that of the row asked for in the blockwise solution of its query, over its tree and on its marks
abbrev pub ListsFor : {G : Type 0} → Filed G → Contents → ℕ → List ℕ → Type 0
ListsFor k c asked text = (t : Tree) × (TreeOf c c.head.hand t × ((s : Solved k t (told (rows_in c)) c.marks) × ListsTerm k t (told (rows_in c)) c.marks s asked text))

abbrev pub ListsByKind : GradeKind → Contents → ℕ → List ℕ → Type 0
ListsByKind YesNo c asked text = ListsFor filed_yes_no c asked text
ListsByKind StageSets c asked text = ListsFor filed_stage_sets c asked text

pub record Lists (rooms : GradeKind → Room) (file text : List ℕ) : Type 0 where
  pub contents : Contents
  pub asked : ℕ
  pub lawful : Lawful rooms file contents asked
  pub lists : ListsByKind contents.head.grades contents asked text

-- and the tables of the kind hold the state in which the survey settled, while those of the other are cleared
pub record SettledFor {G : Type 0} (k : Filed G) (c : Contents) (asked : ℕ) (before after : Lent G) (text : List ℕ) : Type 0 where
  pub tree : Tree
  pub tree_of : TreeOf c c.head.hand tree
  pub settled : Settled k tree (told (rows_in c)) c.marks asked after text
  pub room : SameRoom before after

abbrev pub SettledByKind : GradeKind → Contents → ℕ → FileTables → FileTables → List ℕ → Type 0
SettledByKind YesNo c asked before after text =
    SettledFor filed_yes_no c asked (lists_of before.yes_no) (lists_of after.yes_no) text × IsCleared stage_sets (lists_of before.stage_sets) (lists_of after.stage_sets)
SettledByKind StageSets c asked before after text =
    SettledFor filed_stage_sets c asked (lists_of before.stage_sets) (lists_of after.stage_sets) text × IsCleared yes_no (lists_of before.yes_no) (lists_of after.yes_no)

-- a listing, so many bytes long
pub record Listed (file : List ℕ) (before after : FileTables) (output output' : List ℕ) (size : ℕ) : Type 0 where
  pub roomy : output_room ≤ length output
  pub contents : Contents
  pub asked : ℕ
  pub lawful : Lawful (room_in before) file contents asked
  pub written : WritesSome (SettledByKind contents.head.grades contents asked before after) output output' size

-- with too little room nothing is altered; else the tables are cleared, and of a refused file the output tells number and line
abbrev pub NotListed : List ℕ → FileTables → FileTables → List ℕ → List ℕ → FileRefusal → Type 0
NotListed file before after output output' NoRoom = (length output < output_room) × (after ≡ before) × (output' ≡ output)
NotListed file before after output output' (Fault fault) =
    (output_room ≤ length output) × Refuses (room_in before) file (number_of_file fault) (line_of_file fault) × AllCleared before after
    × Writes output output' (fault_line (number_of_file fault) (line_of_file fault))
NotListed file before after output output' NoMemory =
    (output_room ≤ length output) × (length file ≤ most_bytes) × (NoHead file → ⊥) × AllCleared before after × (output' ≡ output)

abbrev pub FileAnswers : List ℕ → FileTables → FileTables → List ℕ → List ℕ → Result ℕ FileRefusal → Type 0
FileAnswers file before after output output' (Ok size) = Listed file before after output output' size
FileAnswers file before after output output' (Err why) = NotListed file before after output output' why
