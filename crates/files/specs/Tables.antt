-- The tables that files are settled in.
use Rattle.std.specs.Prelude.{◌≡◌, length, replicate, vec_items}
use Rattle.grades.specs.Kind.{Kind}
use Rattle.grades.specs.StageSets.{stage_sets}
use Rattle.grades.specs.YesNo.{yes_no}
use Rattle.surveys.specs.Standing.{Lent, lent}
use Rattle.files.specs.declared.head.GradeKind.{GradeKind}
use Rattle.files.specs.declared.head.GradeKind.TheVariants.{YesNo, StageSets}
use Rattle.files.specs.declared.tables.FileTables.{FileTables}
use Rattle.files.specs.declared.tables.Room.{Room}
use Rattle.files.specs.declared.tables.Tables.{Tables}

abbrev pub lists_of : {G : Type 0} → Tables G → Lent G
lists_of t = lent (vec_items t.marks) (vec_items t.values) (vec_items t.waiting)

abbrev pub room_of : {G : Type 0} → Lent G → Room
room_of l = record { marks = length l.marks; values = length l.values; waiting = length l.waiting }

-- the room of the tables for a kind of grade
abbrev pub room_in : FileTables → GradeKind → Room
room_in tables YesNo = room_of (lists_of tables.yes_no)
room_in tables StageSets = room_of (lists_of tables.stage_sets)

abbrev pub SameRoom : {G : Type 0} → Lent G → Lent G → Type 0
SameRoom before after = room_of after ≡ room_of before

-- every grade is the lowest, and nothing waits
abbrev pub cleared : {G : Type 0} → Kind G → Room → Lent G
cleared k room = lent (replicate room.marks k.lowest) (replicate room.values k.lowest) (replicate room.waiting 0)

abbrev pub IsCleared : {G : Type 0} → Kind G → Lent G → Lent G → Type 0
IsCleared k before after = after ≡ cleared k (room_of before)

pub record AllCleared (before after : FileTables) : Type 0 where
  pub yes_no_tables : IsCleared yes_no (lists_of before.yes_no) (lists_of after.yes_no)
  pub stage_set_tables : IsCleared stage_sets (lists_of before.stage_sets) (lists_of after.stage_sets)

abbrev pub SameRooms : FileTables → FileTables → Type 0
SameRooms before after = (kind : GradeKind) → room_in after kind ≡ room_in before kind
