-- A query settles over a tree on the marks of rows, or needs more steps; and a row of it has a listing.
use Rattle.std.proofs.Common.{◌≡◌, ℕ, Bool, true, false, Decides, cond, ◌&&◌, ◌==◌, ◌⊎◌, ◌≢◌, List, [], ◌∷◌, filter, refl, inl, inr}
use Rattle.std.specs.List.{AllByRecursion, range_with_len}
use Rattle.grades.specs.Kind.{Laws as KindLaws}
use Rattle.shapes.specs.Tree.{Tree, Laws as TreeLaws}
use Rattle.queries.specs.Table.{Table, Admitted}
use Rattle.meaning.specs.Solutions.{Grades}
use Rattle.surveys.specs.Calls.{Answer, Does, Course}
use Rattle.surveys.specs.Calls.Call.{run}
use Rattle.surveys.specs.Promise.{opening}
use Rattle.surveys.specs.Rules.{Opening, State, opened}
use Rattle.surveys.proofs.Decisions.{grade?}
use Rattle.surveys.proofs.Promises.{promised}
use Rattle.surveys.proofs.Readings.{Accepted}
use Rattle.files.specs.declared.rows.MarkRow.{MarkRow}
use Rattle.files.specs.Listings.{Filed, ListsRow, listing}
use Rattle.files.specs.Settling.{MarksOf, NeedsMore, RunsOut, Settles, Solved, last_mark, most_steps}
use Rattle.files.proofs.Selecting.{lists_filtered}
use Rattle.files.proofs.Settled.{runs_out, settles, solved}

-- every row has the number of a grade
abbrev pub AllGraded : {G : Type 0} → (G → ℕ) → List MarkRow → Type 0
AllGraded {G} number rows = AllByRecursion (λ m. (g : G) × (number g ≡ m.grade)) rows

last_grade : {G : Type 0} (number : G → ℕ) (rows : List MarkRow) (other : ℕ) → (g : G) × (number g ≡ other) → AllGraded number rows → (a x : ℕ) → (g : G) × (number g ≡ last_mark other rows a x)
last_grade number [] other g all a x = g
last_grade {G} number (m ∷ rows) other g all a x = last_grade number rows (cond (m.tag == a && m.node == x) m.grade other) (which (m.tag == a && m.node == x)) all.1 a x
  where
    which : (b : Bool) → (h : G) × (number h ≡ cond b m.grade other)
    which true = all.0
    which false = g

some_marks : {G : Type 0} (k : Filed G) (rows : List MarkRow) → AllGraded k.number rows → (m : Grades G) × MarksOf k rows m
some_marks k rows all =
    let g = last_grade k.number rows (k.number k.kind.lowest) (k.kind.lowest, refl) all in
    ((λ a x. (g a x).0), (λ a x. (g a x).1))

module _ {G : Type 0} (o : Opening G) where
  -- what a run of the most steps tells
  run_tells : {v : Answer G} {s : State G} → Does o (opened o) (run most_steps) v s → ((n : ℕ) × Settles o n s) ⊎ RunsOut o
  run_tells {s = s} (Does.runs _ n true _ few makes says end) = inl (n, settles refl refl (Does.runs most_steps n true s few makes says end))
  run_tells {s = s} (Does.runs _ n false _ few makes says end) = inr (runs_out refl refl (Does.runs most_steps n false s few makes says end))

module _ {G : Type 0} (k : Filed G) (laws : KindLaws k.kind) (t : Tree) (q : Table) (rows : List MarkRow) (nodes : TreeLaws t) (admitted : Admitted q) where
  solved_or_more : (marks : Grades G) → MarksOf k rows marks → Solved k t q rows ⊎ NeedsMore k t q rows
  solved_or_more marks marked =
      let o = opening k.kind t q marks in
      let accepted : Accepted o = record { kind = laws; tree = nodes; admitted = admitted } in
      let (v, (s, does)) = (promised o accepted).answered [] (opened o) (Course.empty (opened o)) (run most_steps) in
      elim (run_tells o does) [
        | inl h ↦ inl (solved k marks marked accepted h.0 s h.1)
        | inr h ↦ inr (record { marks = marks; marked = marked; runs_out = h })
      ]

  pub settled_or_needs_more : AllGraded k.number rows → Solved k t q rows ⊎ NeedsMore k t q rows
  settled_or_needs_more all = let m = some_marks k rows all in solved_or_more m.0 m.1

-- whether a statement does not hold, as a test
fails : {P : Type 0} → Dec P → Bool
fails (yes p) = false
fails (no n) = true

fails_decides : {P : Type 0} (d : Dec P) → Decides (fails d) (P → ⊥)
unfolding fails
fails_decides (yes p) = ((λ e _. cc), (λ n. absurd (n p)))
fails_decides (no n) = ((λ e. n), (λ m. refl))

pub some_listing : {G : Type 0} (k : Filed G) → KindLaws k.kind → (nodes steps : ℕ) (row : ℕ → G) → (text : List ℕ) × ListsRow k nodes steps row text
some_listing k laws nodes steps row = (
  listing nodes steps (λ x. k.number (row x)) selected,
  record {
    selected = selected;
    lists = lists_filtered (λ x. row x ≢ k.kind.lowest) test (λ x. fails_decides (lowest? x)) nodes;
    written = refl;
  },
)
  where
    lowest? : (x : ℕ) → Dec (row x ≡ k.kind.lowest)
    lowest? x = grade? laws (row x) k.kind.lowest

    test : ℕ → Bool
    test x = fails (lowest? x)

    selected : List ℕ
    selected = filter test (range_with_len 0 nodes)
