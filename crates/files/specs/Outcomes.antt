-- A file has one outcome, and calls on it tell that.
use Rattle.std.specs.Prelude.{◌≡◌, ℕ, ◌⊎◌, List, Ok, Err, Result}
use Rattle.files.specs.declared.fault.FileRefusal.{FileRefusal}
use Rattle.files.specs.declared.fault.FileRefusal.TheVariants.{Fault}
use Rattle.files.specs.declared.head.GradeKind.{GradeKind}
use Rattle.files.specs.declared.tables.FileTables.{FileTables}
use Rattle.files.specs.declared.tables.Room.{Room}
use Rattle.files.specs.Faults.{number_of_file, line_of_file}
use Rattle.files.specs.Files.{FileAnswers, Lists, Refuses}
use Rattle.files.specs.Listings.{Writes}
use Rattle.files.specs.Tables.{room_in}

-- a file is refused for one cause, or lists one text, and not both
pub record OneOutcomeOf (rooms : GradeKind → Room) (file : List ℕ) : Type 0 where
  pub refused_once : (n n' l l' : ℕ) → Refuses rooms file n l → Refuses rooms file n' l' → (n ≡ n') × (l ≡ l')
  pub not_both : (n l : ℕ) (text : List ℕ) → Refuses rooms file n l → Lists rooms file text → ⊥
  pub listed_once : (text text' : List ℕ) → Lists rooms file text → Lists rooms file text' → text ≡ text'

-- so whatever the room in the tables for each kind of grade
abbrev pub OneOutcome : Type 0
OneOutcome = (rooms : GradeKind → Room) (file : List ℕ) → OneOutcomeOf rooms file

-- and every file has an outcome
abbrev pub Answered : (GradeKind → Room) → List ℕ → Type 0
Answered rooms file = ((n : ℕ) × ((l : ℕ) × Refuses rooms file n l)) ⊎ ((text : List ℕ) × Lists rooms file text)

abbrev pub EveryFileAnswered : Type 0
EveryFileAnswered = (rooms : GradeKind → Room) (file : List ℕ) → Answered rooms file

-- two calls, with outputs before and after, write the same listing, or tell the same number and line;
-- of a call that lacks room in its output, or memory, nothing is said
abbrev pub SameAnswer : (before after before' after' : List ℕ) → Result ℕ FileRefusal → Result ℕ FileRefusal → Type 0
SameAnswer before after before' after' (Ok size) (Ok size') = (size ≡ size') × ((text : List ℕ) × (Writes before after text × Writes before' after' text))
SameAnswer before after before' after' (Ok size) (Err (Fault fault)) = ⊥
SameAnswer before after before' after' (Err (Fault fault)) (Ok size) = ⊥
SameAnswer before after before' after' (Err (Fault fault)) (Err (Fault fault')) = (number_of_file fault ≡ number_of_file fault') × (line_of_file fault ≡ line_of_file fault')
SameAnswer before after before' after' _ _ = Unit {0}

-- calls on the same file agree, where their tables have the same room, whatever these and the outputs hold
abbrev pub CallsAgree : Type 0
CallsAgree = (file : List ℕ) (tables after tables' after' : FileTables) (output written output' written' : List ℕ) (answer answer' : Result ℕ FileRefusal)
    → ((g : GradeKind) → room_in tables g ≡ room_in tables' g) → FileAnswers file tables after output written answer → FileAnswers file tables' after' output' written' answer'
    → SameAnswer output written output' written' answer answer'
