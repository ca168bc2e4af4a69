-- What is known of a file once it is checked up to a line.
use Rattle.std.specs.Prelude.{ℕ, ◌+◌, ◌^◌, ◌<◌, ◌≤◌, List, Result, MatchResult}
use Rattle.shapes.specs.Tree.{Countable}
use Rattle.files.specs.declared.fault.LineFault.{LineFault}
use Rattle.files.specs.declared.head.Head.{Head}
use Rattle.files.specs.declared.rows.MarkRow.{MarkRow}
use Rattle.files.specs.declared.tables.Room.{Room}
use Rattle.files.specs.Causes.{Cause, FirstCause, HasRoom, HeadFits, IsGradeNumber, MarkStands, Sooner}
use Rattle.files.specs.Contents.{Contents, InOrder, lines_of}
use Rattle.files.specs.Faults.{number_of_cause}

-- nothing is wrong with the first line
pub record HeadSound (room : Room) (h : Head) : Type 0 where
  pub countable : Countable h.nodes
  pub fits : HeadFits h
  pub has_room : HasRoom room h

-- nothing is wrong with the line of a mark
pub record MarkSound (h : Head) (m : MarkRow) : Type 0 where
  pub grade : IsGradeNumber h.grades m.grade
  pub stands : MarkStands h m

-- the first of the causes on a line
pub record FirstOn (P : ℕ → Type 0) (number : ℕ) : Type 0 where
  pub is : P number
  pub first : (n : ℕ) → P n → Sooner number n

-- the head stands, and every cause is on this line or on a later one
pub record CheckedTo (room : Room) (c : Contents) (line : ℕ) : Type 0 where
  pub in_order : InOrder c
  pub few : lines_of c + 1 < 2 ^ 64
  pub head : HeadSound room c.head
  pub causes : (rest : List ℕ) (n l : ℕ) → Cause room c rest n l → line ≤ l

-- the file is checked up to a line; or the first cause was found, whatever stands behind what was read
abbrev pub Checks : Room → Contents → ℕ → Result (Unit {0}) LineFault → Type 0
Checks room c line r = MatchResult r (λ _. CheckedTo room c line) (λ f. (rest : List ℕ) → FirstCause room c rest (number_of_cause f.cause) f.line)
