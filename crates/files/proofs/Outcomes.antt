-- What listing a row answers, by how far it came.
use Rattle.std.proofs.Common.{◌≡◌, ℕ, ◌+◌, ◌<◌, ◌≤◌, List, [], ◌∷◌, length, Some, Err, subst, refl}
use Rattle.files.specs.declared.fault.FileFault.{FileFault}
use Rattle.files.specs.declared.fault.FileFault.TheVariants.{TooLong, Line, TooManySteps}
use Rattle.files.specs.declared.fault.FileRefusal.{FileRefusal}
use Rattle.files.specs.declared.fault.FileRefusal.TheVariants.{NoRoom, Fault, NoMemory}
use Rattle.files.specs.declared.fault.LineFault.{LineFault}
use Rattle.files.specs.declared.head.GradeKind.{GradeKind}
use Rattle.files.specs.declared.rows.AskedRow.{AskedRow}
use Rattle.files.specs.declared.tables.FileTables.{FileTables}
use Rattle.files.specs.declared.tables.Room.{Room}
use Rattle.files.specs.Causes.{FirstCause, NoCause, malformed}
use Rattle.files.specs.Causes.Cause.{at_end}
use Rattle.files.specs.Contents.{Contents, Reads, lines_of}
use Rattle.files.specs.Faults.{number_of_cause, number_of_file, line_of_file}
use Rattle.files.specs.CallSteps.{RowListed, Sound}
use Rattle.files.specs.Files.{Lawful, NeedsMoreSteps, Refuses, most_bytes}
use Rattle.files.specs.Files.Refuses.{too_long, no_head, first_cause, too_many_steps}
use Rattle.files.specs.Reading.{ReadRefused}
use Rattle.files.specs.Tables.{SameRooms, room_in}
use Rattle.files.proofs.OneReading.{head_stands}

-- where nothing is wrong, the file ends behind the line that asks
ended : (room : Room) (c : Contents) (asked : AskedRow) (rest : List ℕ) → c.asked ≡ Some asked → NoCause room c rest → rest ≡ []
ended room c asked [] e none = refl
ended room c asked (x ∷ xs) e none = absurd (none 12 (lines_of c + 1) (at_end 12 (malformed (λ h. let more : x ∷ xs ≡ [] = h.0 in cc))))

pub sound : (room : Room) (file : List ℕ) (c : Contents) (asked : AskedRow) (rest : List ℕ) → Reads file c rest → c.asked ≡ Some asked → NoCause room c rest → Sound room c asked
sound room file c asked rest r e none = record { in_order = r.in_order; no_cause = subst (NoCause room c) (ended room c asked rest e none) none; asks = e }

pub lawful : (rooms : GradeKind → Room) (file : List ℕ) (c : Contents) (asked : AskedRow) (rest : List ℕ) → length file ≤ most_bytes → Reads file c rest → c.asked ≡ Some asked → NoCause (rooms c.head.grades) c rest → Lawful rooms file c asked.term
lawful rooms file c asked rest short r e none = record {
  short = short;
  reads = subst (Reads file c) (ended (rooms c.head.grades) c asked rest e none) r;
  no_cause = (sound (rooms c.head.grades) file c asked rest r e none).no_cause;
  row = asked;
  asks = e;
  term = refl;
}

module _ (file : List ℕ) (t : FileTables) (output : List ℕ) where
  refuses : (fault : FileFault) (t' : FileTables) → SameRooms t t' → Refuses (room_in t) file (number_of_file fault) (line_of_file fault) → RowListed file t t' output output (Err (Fault fault))
  refuses fault t' same r = ((same, r), refl)

  pub too_long_file : most_bytes < length file → RowListed file t t output output (Err (Fault TooLong))
  too_long_file l = refuses TooLong t (λ _. refl) (too_long l)

  module _ (short : length file ≤ most_bytes) where
    pub not_read : (why : FileRefusal) → ReadRefused file why → RowListed file t t output output (Err why)
    not_read NoRoom h = absurd h
    not_read (Fault fault) (none, number, line) = refuses fault t (λ _. refl) (rw (number, line) (no_head short none))
    not_read NoMemory h = ((refl, short, h), refl)

    module _ (c : Contents) (rest : List ℕ) (r : Reads file c rest) where
      pub no_memory : RowListed file t t output output (Err NoMemory)
      no_memory = ((refl, short, head_stands r), refl)

      pub refused : (fault : LineFault) → FirstCause (room_in t c.head.grades) c rest (number_of_cause fault.cause) fault.line → RowListed file t t output output (Err (Fault (Line fault)))
      refused fault first = refuses (Line fault) t (λ _. refl) (first_cause c rest (number_of_cause fault.cause) fault.line short r first)

      module _ (asked : AskedRow) (e : c.asked ≡ Some asked) (none : NoCause (room_in t c.head.grades) c rest) where
        pub too_many : (t' : FileTables) → SameRooms t t' → NeedsMoreSteps c.head.grades c → RowListed file t t' output output (Err (Fault (TooManySteps (lines_of c))))
        too_many t' same more = refuses (TooManySteps (lines_of c)) t' same (too_many_steps c asked.term (lawful (room_in t) file c asked rest short r e none) more)
