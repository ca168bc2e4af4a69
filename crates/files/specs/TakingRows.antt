-- Rows taken off the front of a text, and the contents that they give.
use Rattle.std.specs.Prelude.{◌≡◌, ℕ, ◌<◌, List, [], ◌∷◌, ◌++◌, length, Some, None, Ok, Err, Result}
use Rattle.std.specs.Borrow.{Bor}
use Rattle.files.specs.declared.contents.Stop.{Stop}
use Rattle.files.specs.declared.contents.Stop.TheVariants as stop
use Rattle.files.specs.declared.fault.LineCause.{LineCause}
use Rattle.files.specs.declared.head.Head.{Head}
use Rattle.files.specs.declared.rows.MarkRow.{MarkRow}
use Rattle.files.specs.Contents.{Contents}
use Rattle.files.specs.Faults.{number_of_cause}
use Rattle.files.specs.Lines.{RowForm, RowFits, AllFit, row_text, rows_text, NoRow}
use Rattle.files.specs.Reading.{ReadTo}
use Rattle.files.specs.Rows.{head_form, mark_form, asked_form}

-- a row was taken, and added behind those before
pub record AddsRow {R : Type 0} (form : RowForm R) (before : List R) (text : List ℕ) (after : List R) (rest : List ℕ) : Type 0 where
  pub row : R
  pub fits : RowFits form row
  pub written : text ≡ row_text form row ++ rest
  pub added : after ≡ before ++ (row ∷ [])

-- no row stands there; or memory ran out
abbrev pub NoneAdded : {R : Type 0} → RowForm R → List R → List ℕ → List R → Stop → Type 0
NoneAdded form before text after (stop.Line cause) = NoRow form text × (number_of_cause cause ≡ 12) × (after ≡ before)
NoneAdded form before text after stop.NoMemory = Unit {0}

-- the text begins with the lines of rows, and goes on with the rest
pub record TakesRows {R : Type 0} (form : RowForm R) (text : List ℕ) (rows : List R) (rest : List ℕ) : Type 0 where
  pub fit : AllFit form rows
  pub written : text ≡ rows_text form rows ++ rest

-- reading stops behind rows, at a line that is none
pub record StopsBehind {R : Type 0} (form : RowForm R) (text : List ℕ) (rows : List R) (cause : LineCause) : Type 0 where
  pub rest : List ℕ
  pub takes : TakesRows form text rows rest
  pub none : NoRow form rest
  pub malformed : number_of_cause cause ≡ 12

-- as many rows as are wanted
abbrev pub TakesMany : {R : Type 0} → RowForm R → ℕ → List ℕ → List R → Result (Bor (List ℕ)) Stop → Type 0
TakesMany form most text rows (Ok rest) = TakesRows form text rows rest.now × (length rows ≡ most)
TakesMany form most text rows (Err (stop.Line cause)) = StopsBehind form text rows cause × (length rows < most)
TakesMany form most text rows (Err stop.NoMemory) = Unit {0}

-- as many marks as there are; where a line begins as a mark and is none, it is no line that asks either
abbrev pub TakesMarks : List ℕ → List MarkRow → Result (Bor (List ℕ)) Stop → Type 0
TakesMarks text rows (Ok rest) = TakesRows mark_form text rows rest.now × NoRow mark_form rest.now
TakesMarks text rows (Err (stop.Line cause)) = (s : StopsBehind mark_form text rows cause) × NoRow asked_form s.rest
TakesMarks text rows (Err stop.NoMemory) = Unit {0}

-- a head alone
abbrev pub headed : Head → Contents
headed head = record { head = head; nodes = []; blocks = []; terms = []; marks = []; asked = None }

-- the lines behind a head were read into the contents
abbrev pub ReadBehind : Head → List ℕ → Contents → Result (Unit {0}) Stop → Type 0
ReadBehind head text c (Ok _) = ReadTo (row_text head_form head ++ text) c None
ReadBehind head text c (Err (stop.Line cause)) = ReadTo (row_text head_form head ++ text) c (Some cause)
ReadBehind head text c (Err stop.NoMemory) = Unit {0}
