-- Tables that are cleared, settled in, and cleared again.
use Rattle.std.proofs.Common.{◌≡◌, ℕ, ◌≤◌, List, length, Ok, Err, Result, sym, ap, subst, refl, ◌∙◌}
use Rattle.std.proofs.lemmas.List.{length-replicate}
use Rattle.grades.specs.Kind.{Kind}
use Rattle.grades.specs.StageSets.{stage_sets}
use Rattle.grades.specs.YesNo.{yes_no}
use Rattle.files.specs.declared.fault.FileFault.{FileFault}
use Rattle.files.specs.declared.fault.FileRefusal.{FileRefusal}
use Rattle.files.specs.declared.fault.FileRefusal.TheVariants.{NoRoom, Fault, NoMemory}
use Rattle.files.specs.declared.head.GradeKind.{GradeKind}
use Rattle.files.specs.declared.head.GradeKind.TheVariants.{YesNo, StageSets}
use Rattle.files.specs.declared.tables.FileTables.{FileTables}
use Rattle.files.specs.declared.tables.Room.{Room}
use Rattle.files.specs.Contents.{Contents}
use Rattle.files.specs.CallSteps.{RowListed}
use Rattle.files.specs.Files.{FileAnswers, Lawful, Listed, Refuses, SettledByKind, output_room}
use Rattle.files.specs.Tables.{AllCleared, SameRooms, cleared, room_in, room_of}

cleared_room : {G : Type 0} (k : Kind G) (room : Room) → room_of (cleared k room) ≡ room
cleared_room k room = rw (length-replicate, length-replicate, length-replicate) refl

pub rooms_kept : (t t' : FileTables) → AllCleared t t' → SameRooms t t'
rooms_kept t t' h YesNo = ap room_of h.yes_no_tables ∙ cleared_room yes_no (room_in t YesNo)
rooms_kept t t' h StageSets = ap room_of h.stage_set_tables ∙ cleared_room stage_sets (room_in t StageSets)

module _ (t t1 : FileTables) (first : AllCleared t t1) where
  same : room_in t1 ≡ room_in t
  same = λ i kind. rooms_kept t t1 first kind i

  pub refuses_then : (file : List ℕ) (n l : ℕ) → Refuses (room_in t1) file n l → Refuses (room_in t) file n l
  refuses_then file n l = subst (λ rooms. Refuses rooms file n l) same

  -- tables of the rooms of the cleared ones, cleared again
  pub cleared_again : (t2 t3 : FileTables) → SameRooms t1 t2 → AllCleared t2 t3 → AllCleared t t3
  cleared_again t2 t3 rooms second = record {
    yes_no_tables = second.yes_no_tables ∙ ap (cleared yes_no) (rooms YesNo ∙ rooms_kept t t1 first YesNo);
    stage_set_tables = second.stage_set_tables ∙ ap (cleared stage_sets) (rooms StageSets ∙ rooms_kept t t1 first StageSets);
  }

  settled_then : (kind : GradeKind) (c : Contents) (asked : ℕ) (t2 : FileTables) (text : List ℕ) → SettledByKind kind c asked t1 t2 text → SettledByKind kind c asked t t2 text
  settled_then YesNo c asked t2 text (s, other) = (
    record { tree = s.tree; tree_of = s.tree_of; settled = s.settled; room = s.room ∙ rooms_kept t t1 first YesNo },
    other ∙ ap (cleared stage_sets) (rooms_kept t t1 first StageSets),
  )
  settled_then StageSets c asked t2 text (s, other) = (
    record { tree = s.tree; tree_of = s.tree_of; settled = s.settled; room = s.room ∙ rooms_kept t t1 first StageSets },
    other ∙ ap (cleared yes_no) (rooms_kept t t1 first YesNo),
  )

  pub listed_then : (file : List ℕ) (t2 : FileTables) (output output' : List ℕ) (size : ℕ) → Listed file t1 t2 output output' size → Listed file t t2 output output' size
  listed_then file t2 output output' size h = record {
    roomy = h.roomy;
    contents = h.contents;
    asked = h.asked;
    lawful = subst (λ rooms. Lawful rooms file h.contents h.asked) same h.lawful;
    written = record {
      text = h.written.text;
      holds = settled_then h.contents.head.grades h.contents h.asked t2 h.written.text h.written.holds;
      is_size = h.written.is_size;
      writes = h.written.writes;
    };
  }

  -- what was listed or not, if not for a fault, is so for the tables before they were cleared
  pub answered : (file : List ℕ) (t2 : FileTables) (output output' : List ℕ) (result : Result ℕ FileRefusal) → output_room ≤ length output →
      ((f : FileFault) → result ≡ Err (Fault f) → ⊥) → RowListed file t1 t2 output output' result → FileAnswers file t t2 output output' result
  answered file t2 output output' (Ok size) roomy other h = listed_then file t2 output output' size h
  answered file t2 output output' (Err NoRoom) roomy other h = absurd h.0
  answered file t2 output output' (Err (Fault f)) roomy other h = absurd (other f refl)
  answered file t2 output output' (Err NoMemory) roomy other ((kept, short, head), as_it_was) = (roomy, short, head, subst (AllCleared t) (sym kept) first, as_it_was)
