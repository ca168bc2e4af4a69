-- Cleared tables, once the marks of a file are set in them and a survey has run on them.
use Rattle.std.proofs.Common.{◌≡◌, ℕ, ◌*◌, ◌≤◌, List, length, get_or, drop, None, Some, Option, ap, zero-le}
use Rattle.std.specs.Option.{MatchOption}
use Rattle.shapes.specs.Tree.{Tree}
use Rattle.queries.specs.Table.{Table}
use Rattle.meaning.specs.Solutions.{Grades}
use Rattle.surveys.specs.Promise.{opening}
use Rattle.surveys.specs.Rules.{Opening, State}
use Rattle.surveys.specs.Standing.{Lent}
use Rattle.surveys.proofs.Readings.{Accepted}
use Rattle.files.specs.declared.rows.MarkRow.{MarkRow}
use Rattle.files.specs.CallSteps.{FrontHolds, RunLists}
use Rattle.files.specs.Listings.{Filed, WritesSome}
use Rattle.files.specs.Settling.{HoldsState, MarksOf, NeedsMore, RunsOut, Settled}
use Rattle.files.specs.Tables.{cleared, room_of}
use Rattle.files.proofs.Throughout.{behind, still_throughout}
use Rattle.files.proofs.Settled.{solved}

-- what lies behind the fronts of the tables was cleared, and is still so
pub record BehindCleared {G : Type 0} (o : Opening G) (before after : Lent G) : Type 0 where
  pub clear : before ≡ cleared o.kind (room_of before)
  pub marks : (p : ℕ) → o.query.tags * o.tree.count ≤ p → get_or after.marks p o.kind.lowest ≡ o.kind.lowest
  pub values : drop (length o.query.terms * o.tree.count) after.values ≡ drop (length o.query.terms * o.tree.count) before.values
  pub waiting : drop (length o.query.terms * o.tree.count) after.waiting ≡ drop (length o.query.terms * o.tree.count) before.waiting

holds_state : {G : Type 0} {o : Opening G} {s : State G} {before after : Lent G} → FrontHolds o s after → BehindCleared o before after → HoldsState o s after
holds_state {o = o} {before = before} {after = after} front rest = record {
  grades = front.grades;
  marks_behind = rest.marks;
  values_behind = behind (length before.values) o.kind.lowest before.values after.values rest.values (ap (λ l. l.values) rest.clear);
  waiting = still_throughout (length before.waiting) 0 before.waiting after.waiting rest.waiting (ap (λ l. l.waiting) rest.clear) (λ p h. front.waiting p zero-le h);
}

module _ {G : Type 0} (k : Filed G) {t : Tree} {q : Table} (rows : List MarkRow) (asked : ℕ) {before after : Lent G} where
  lists_settled : {size : ℕ} {output output' : List ℕ} (m : Grades G) → MarksOf k rows m → Accepted (opening k.kind t q m) → BehindCleared (opening k.kind t q m) before after → RunLists k (opening k.kind t q m) asked after output output' size → WritesSome (Settled k t q rows asked after) output output' size
  lists_settled m marked accepted rest run = record {
    text = run.written.text;
    holds = record {
      solved = solved k m marked accepted run.steps run.state run.settles;
      lists = run.written.holds;
      holds = holds_state run.holds rest;
    };
    is_size = run.written.is_size;
    writes = run.written.writes;
  }

  -- what a run comes to is what settling comes to
  pub settled : (output output' : List ℕ) (r : Option ℕ) (m : Grades G) → MarksOf k rows m → Accepted (opening k.kind t q m) → BehindCleared (opening k.kind t q m) before after →
      MatchOption r (RunsOut (opening k.kind t q m) × (output' ≡ output)) (RunLists k (opening k.kind t q m) asked after output output') →
      MatchOption r (NeedsMore k t q rows × (output' ≡ output)) (WritesSome (Settled k t q rows asked after) output output')
  settled output output' None m marked accepted rest (run, same) = (record { marks = m; marked = marked; runs_out = run }, same)
  settled output output' (Some size) m marked accepted rest run = lists_settled m marked accepted rest run
