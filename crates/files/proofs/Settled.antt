-- What a run from the opening on comes to: the survey settles, or needs more steps.
use Rattle.std.proofs.Common.{◌≡◌, ℕ, ◌*◌, ◌<◌, ◌≤◌, Bool, true, false, T, List, [], ◌∷◌, length, take, drop, sym, refl, ap, ◌∙◌, subst, ⊎_elim, arith}
use Rattle.std.proofs.lemmas.Bool.{cases_lt}
use Rattle.std.proofs.lemmas.List.{length-take-le, length-drop}
use Rattle.shapes.specs.Tree.{Tree}
use Rattle.queries.specs.Table.{Admitted, Table, block_of}
use Rattle.meaning.specs.Solutions.{Grades, Blockwise}
use Rattle.meaning.proofs.Admitted.{block_stands}
use Rattle.surveys.specs.declared.refusal.SurveyRefusal.{SurveyRefusal}
use Rattle.surveys.specs.Calls.{Does, Course}
use Rattle.surveys.specs.Calls.Answer.{ran, row, refused}
use Rattle.surveys.specs.Calls.Call.{read, run}
use Rattle.surveys.specs.Promise.{opening}
use Rattle.surveys.specs.Rules.{Opening, State, EveryBlockSettled, opened}
use Rattle.surveys.proofs.Decisions.{fails_not}
use Rattle.surveys.proofs.Promises.{promised}
use Rattle.surveys.proofs.Readings.{Accepted}
use Rattle.surveys.proofs.Rows.{row_end}
use Rattle.files.specs.declared.rows.MarkRow.{MarkRow}
use Rattle.files.specs.Listings.{Filed}
use Rattle.files.specs.Settling.{MarksOf, RunsOut, Settles, Solved, most_steps}

module _ {G : Type 0} {o : Opening G} where
  pub settles : {most n : ℕ} {all : Bool} {s : State G} → most ≡ most_steps → all ≡ true → Does o (opened o) (run most) (ran n all) s → Settles o n s
  settles e all (Does.runs k n b s few makes says ends) = record { few = omega arith; made = makes; all = says.0 (subst T (sym all) tt) }

  pub runs_out : {most n : ℕ} {all : Bool} {s : State G} → most ≡ most_steps → all ≡ false → Does o (opened o) (run most) (ran n all) s → RunsOut o
  runs_out e not_all (Does.runs k n b s few makes says ends) =
      let stale_left : EveryBlockSettled o s → ⊥ = λ h. fails_not not_all (says.1 h) in
      let full : n ≡ most_steps = ⊎_elim (λ h. absurd (stale_left (ends h))) (λ h. omega arith) (cases_lt n k) in
      record { state = s; made = rw full at makes; stale_left = stale_left }

  -- and a survey that settles, settles in a run of the most steps
  pub settles_runs : {n : ℕ} {s : State G} → Settles o n s → Does o (opened o) (run most_steps) (ran n true) s
  settles_runs {n = n} {s = s} e = Does.runs most_steps n true s e.few e.made ((λ _. e.all), (λ _. tt)) (λ _. e.all)

  -- the row that is read
  pub row_read : {i : ℕ} {vs : ℕ → G} {s s' : State G} → Does o s (read i) (row vs) s' → (x : ℕ) → x < o.tree.count → vs x ≡ s.values i x
  row_read (Does.reads r vs there settled rows) = rows

  -- once all is settled, a reading of a term of the query is not refused
  pub never_refused : {i : ℕ} {why : SurveyRefusal} {s s' : State G} → Admitted o.query → i < length o.query.terms → EveryBlockSettled o s → Does o s (read i) (refused why) s' → ⊥
  never_refused admitted there all (Does.no_such_term r past) = omega arith
  never_refused admitted there all (Does.not_settled r h stale) = fails_not stale (all (block_of o.query r) (block_stands admitted r h))

-- once all is settled, the values are the blockwise solution
pub solution : {G : Type 0} {o : Opening G} {n : ℕ} {s : State G} → Accepted o → Settles o n s → (v : Grades G) → Blockwise o.kind o.tree o.query o.marks v → (i x : ℕ) → i < length o.query.terms → x < o.tree.count → s.values i x ≡ v i x
solution {o = o} {n = n} {s = s} accepted settles v solves i x there node =
    let kept = (promised o accepted).kept ((run most_steps, ran n true) ∷ []) s (Course.then (opened o) s s (run most_steps) (ran n true) [] (settles_runs settles) (Course.empty s)) in
    let b = block_of o.query i in
    kept.key v (kept.told v solves) b i x (settles.all b (block_stands accepted.admitted i there)) (record { term = there; dealt_here = refl; node = node })

abbrev pub solved : {G : Type 0} (k : Filed G) {t : Tree} {q : Table} {rows : List MarkRow} (m : Grades G) → MarksOf k rows m → Accepted (opening k.kind t q m) → (n : ℕ) (s : State G) → Settles (opening k.kind t q m) n s → Solved k t q rows
solved k m marked accepted n s settles = record { marks = m; marked = marked; steps = n; state = s; settles = settles; solution = solution accepted settles }

-- the row that is read has a grade for each node
pub row_length : {G : Type 0} (i n terms : ℕ) (table part : List G) → i < terms → terms * n ≤ length table → part ≡ take n (drop (i * n) table) → length part ≡ n
row_length i n terms table part there room is = ap length is ∙ length-take-le n (drop (i * n) table) (omega (arith, length-drop (i * n) table, row_end i n terms (length table) there room))
