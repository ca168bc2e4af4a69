-- Every file is refused for a cause or lists a text.
use Rattle.std.proofs.Common.{◌≡◌, ℕ, ◌<◌, ◌≤◌, ◌⊎◌, List, length, Some, None, Option, ◌≢◌, refl, subst, inl, inr}
use Rattle.std.proofs.ByRecursion.{All-from_get_or}
use Rattle.std.proofs.lemmas.Bool.{cases_lt}
use Rattle.grades.specs.Kind.{Laws as KindLaws}
use Rattle.grades.specs.Stages.{stage_set_laws}
use Rattle.grades.specs.YesNo.{yes_no_laws}
use Rattle.queries.specs.Rows.{told}
use Rattle.files.specs.declared.head.GradeKind.{GradeKind}
use Rattle.files.specs.declared.head.GradeKind.TheVariants.{YesNo, StageSets}
use Rattle.files.specs.declared.rows.AskedRow.{AskedRow}
use Rattle.files.specs.declared.tables.Room.{Room}
use Rattle.files.specs.Causes.{IsGradeNumber, NoCause, mark_at, no_mark, rows_in}
use Rattle.files.specs.Causes.{malformed, no_grade}
use Rattle.files.specs.Causes.Cause.{at_end, at_mark}
use Rattle.files.specs.Contents.{Contents, Ended, Reads, TermsThere, lines_of}
use Rattle.files.specs.Files.{Lawful, ListsByKind, ListsFor, NeedsMoreFor, NeedsMoreSteps, most_bytes}
use Rattle.files.specs.Listings.{Filed}
use Rattle.files.specs.Files.Refuses.{too_long, no_head, first_cause, too_many_steps}
use Rattle.files.specs.Outcomes.{Answered, EveryFileAnswered}
use Rattle.files.proofs.CauseFound.{first_cause?}
use Rattle.files.proofs.LawfulContents.{admitted, tree_laws}
use Rattle.files.proofs.Models.{yes_no_grades, stage_set_grades}
use Rattle.files.proofs.OneOutcomes.{terms_there}
use Rattle.files.proofs.RowsDecided.{head?}
use Rattle.files.proofs.RulesDecided.{ended?, grade_number?}
use Rattle.files.proofs.Decided.{sure}
use Rattle.files.proofs.SomeReading.{reading}
use Rattle.files.proofs.SomeSettling.{AllGraded, settled_or_needs_more, some_listing}
use Rattle.files.proofs.SomeTree.{some_tree}

some_asked : (a : Option AskedRow) → a ≢ None → (r : AskedRow) × (a ≡ Some r)
some_asked None some = absurd (some refl)
some_asked (Some r) some = (r, refl)

module _ {rooms : GradeKind → Room} {file : List ℕ} {c : Contents} {asked : ℕ} (w : Lawful rooms file c asked) where
  there : TermsThere c
  there = terms_there w

  graded : (j : ℕ) → j < length c.marks → IsGradeNumber c.head.grades (mark_at c j).grade
  graded j l = sure (grade_number? c.head.grades (mark_at c j).grade) (λ why. w.no_cause _ _ (at_mark j 12 l (no_grade why)))

  settled_for : {G : Type 0} (k : Filed G) → KindLaws k.kind → AllGraded k.number c.marks → NeedsMoreFor k c ⊎ ((text : List ℕ) × ListsFor k c asked text)
  settled_for k laws all =
      let t = some_tree w.no_cause there c.head.hand in
      elim (settled_or_needs_more k laws t.0 (told (rows_in c)) c.marks (tree_laws w.no_cause there c.head.hand t.0 t.1) (admitted w.no_cause there) all) [
        | inl s ↦ let l = some_listing k laws t.0.count s.steps (s.state.values asked) in inr (l.0, (t.0, (t.1, (s, l.1))))
        | inr more ↦ inl (t.0, (t.1, more))
      ]

  settled_by_kind : (g : GradeKind) → ((j : ℕ) → j < length c.marks → IsGradeNumber g (mark_at c j).grade) → NeedsMoreSteps g c ⊎ ((text : List ℕ) × ListsByKind g c asked text)
  settled_by_kind YesNo is = settled_for _ yes_no_laws (All-from_get_or _ c.marks no_mark (λ j l. yes_no_grades _ (is j l)))
  settled_by_kind StageSets is = settled_for _ stage_set_laws (All-from_get_or _ c.marks no_mark (λ j l. stage_set_grades _ (is j l)))

module _ (rooms : GradeKind → Room) (file : List ℕ) where
  lawful_answered : (c : Contents) (asked : ℕ) → Lawful rooms file c asked → Answered rooms file
  lawful_answered c asked w = elim (settled_by_kind w c.head.grades (graded w)) [
    | inl more ↦ inl (14, (lines_of c, too_many_steps c asked w more))
    | inr l ↦ inr (l.0, record { contents = c; asked = asked; lawful = w; lists = l.1 })
  ]

  module _ (short : length file ≤ most_bytes) where
    ended_answered : (c : Contents) (rest : List ℕ) → Reads file c rest → NoCause (rooms c.head.grades) c rest → Ended c rest → Answered rooms file
    ended_answered c rest r none (end, asks) =
        let row = some_asked c.asked asks in
        lawful_answered c row.0.term (record {
          short = short;
          reads = subst (Reads file c) end r;
          no_cause = subst (NoCause (rooms c.head.grades) c) end none;
          row = row.0;
          asks = row.1;
          term = refl;
        })

    reading_answered : (c : Contents) (rest : List ℕ) → Reads file c rest → Answered rooms file
    reading_answered c rest r = elim (first_cause? (rooms c.head.grades) c rest) [
      | inl f ↦ inl (f.0, (f.1.0, first_cause c rest f.0 f.1.0 short r f.1.1))
      | inr none ↦ ended_answered c rest r none (sure (ended? c rest) (λ why. none _ _ (at_end 12 (malformed why))))
    ]

    short_answered : Answered rooms file
    short_answered = elim (head? file) [
      | yes h ↦ let r = reading file h in reading_answered r.0 r.1.0 r.1.1
      | no none ↦ inl (12, (1, no_head short (λ h more fits e. none (record { row = h; more = more; fits = fits; written = e }))))
    ]

  answered : Answered rooms file
  answered = elim (cases_lt most_bytes (length file)) [ inl long ↦ inl (13, (0, too_long long)) | inr short ↦ short_answered short ]

pub every_file_answered_lem : EveryFileAnswered
every_file_answered_lem = answered
