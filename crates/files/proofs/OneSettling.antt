-- A query is settled over a tree on the marks of rows in one way, so a row of it has one listing.
use Rattle.std.proofs.Common.{◌≡◌, ℕ, ◌<◌, Bool, true, false, List, length, refl, subst, arith}
use Rattle.grades.specs.Filed.{Numbered}
use Rattle.grades.specs.Kind.{Laws as KindLaws}
use Rattle.shapes.specs.Tree.{Tree, Laws as TreeLaws}
use Rattle.queries.specs.Table.{Table, Admitted, block_of}
use Rattle.meaning.specs.Solutions.{Grades}
use Rattle.surveys.specs.Calls.{Answer, Does, Course, made}
use Rattle.surveys.specs.Calls.Answer.{altered, stepped, ran, row, refused}
use Rattle.surveys.specs.Calls.Call.{run}
use Rattle.surveys.specs.Promise.{Promised, SameAnswer, SameState, opening}
use Rattle.surveys.specs.Promise.SameAnswer.{itself, rows}
use Rattle.surveys.specs.Rules.{Opening, State, opened}
use Rattle.surveys.proofs.Promises.{promise_kept_lem}
use Rattle.files.specs.declared.rows.MarkRow.{MarkRow}
use Rattle.files.specs.Listings.{Filed}
use Rattle.files.specs.Settling.{ListsTerm, NeedsMore, RunsOut, Settles, Solved, most_steps}
use Rattle.files.proofs.ListsOnce.{row_listed_once}
use Rattle.files.proofs.OneTree.{one_marking}
use Rattle.files.proofs.Settled.{settles_runs}

-- whether an answer tells that all blocks are settled
abbrev tells_settled : {G : Type 0} → Answer G → Bool
tells_settled (altered b) = false
tells_settled (stepped all) = all
tells_settled (ran n all) = all
tells_settled (row vs) = false
tells_settled (refused why) = false

module _ {G : Type 0} (o : Opening G) where
  same_made : {v w : Answer G} → SameAnswer o v w → made v ≡ made w
  same_made (itself v) = refl
  same_made (rows vs ws h) = refl

  same_settled : {v w : Answer G} → SameAnswer o v w → tells_settled v ≡ tells_settled w
  same_settled (itself v) = refl
  same_settled (rows vs ws h) = refl

  stops_runs : (r : RunsOut o) → Does o (opened o) (run most_steps) (ran most_steps false) r.state
  stops_runs r = Does.runs most_steps most_steps false r.state (omega arith) r.made (absurd, r.stale_left) (λ l. absurd (omega arith))

  module _ (promise : Promised o) where
    one_run : {v w : Answer G} {s t : State G} → Does o (opened o) (run most_steps) v s → Does o (opened o) (run most_steps) w t → SameAnswer o v w × SameState o s t
    one_run {v = v} {w = w} {s = s} {t = t} d e = promise.one_outcome _ (opened o) (Course.empty (opened o)) (run most_steps) v w s t d e

    settled_once : {n m : ℕ} {s t : State G} → Settles o n s → Settles o m t → (n ≡ m) × SameState o s t
    settled_once d e = let same = one_run (settles_runs d) (settles_runs e) in (same_made same.0, same.1)

    settled_or_more : {n : ℕ} {s : State G} → Settles o n s → RunsOut o → ⊥
    settled_or_more d r = let same : true ≡ false = same_settled (one_run (settles_runs d) (stops_runs r)).0 in cc

module _ {G : Type 0} (k : Filed G) (laws : KindLaws k.kind) (numbered : Numbered k.number) (t : Tree) (q : Table) (marks : List MarkRow) (nodes : TreeLaws t) (admitted : Admitted q) where
  promised : (m : Grades G) → Promised (opening k.kind t q m)
  promised m = promise_kept_lem k.kind laws t q m nodes admitted

  pub not_both_settled : Solved k t q marks → NeedsMore k t q marks → ⊥
  not_both_settled s n =
      let e : n.marks ≡ s.marks = one_marking k numbered marks n.marks s.marks n.marked s.marked in
      settled_or_more (opening k.kind t q s.marks) (promised s.marks) s.settles (subst (λ m. RunsOut (opening k.kind t q m)) e n.runs_out)

  pub term_listed_once : (s s' : Solved k t q marks) (asked : ℕ) → asked < length q.terms → (text text' : List ℕ) → ListsTerm k t q marks s asked text → ListsTerm k t q marks s' asked text' → text ≡ text'
  term_listed_once s s' asked stands text text' l l' = row_listed_once k t.count (s.state.values asked) (s'.state.values asked) same s.steps s'.steps text text' once.0 l l'
    where
      e : s'.marks ≡ s.marks
      e = one_marking k numbered marks s'.marks s.marks s'.marked s.marked

      once : (s.steps ≡ s'.steps) × SameState (opening k.kind t q s.marks) s.state s'.state
      once = settled_once (opening k.kind t q s.marks) (promised s.marks) s.settles (subst (λ m. Settles (opening k.kind t q m) s'.steps s'.state) e s'.settles)

      same : (x : ℕ) → x < t.count → s.state.values asked x ≡ s'.state.values asked x
      same x l = once.1.values (block_of q asked) asked x (record { term = stands; dealt_here = refl; node = l })
