-- A survey that was lent the fronts of tables: the whole tables hold its state too.
use Rattle.std.proofs.Common.{◌≡◌, ℕ, ◌*◌, ◌≤◌, List, ◌++◌, length, take, drop, Some, None, Option, ◌∙◌, arith}
use Rattle.std.proofs.lemmas.List.{length-take-le}
use Rattle.meaning.specs.Tables.{place}
use Rattle.surveys.specs.declared.survey.Survey.{Survey}
use Rattle.surveys.specs.declared.survey.Work.{Work}
use Rattle.surveys.specs.Rules.{Opening, State, EveryBlockSettled}
use Rattle.surveys.specs.Standing.{Blank, Lent, Stands, Working, lent}
use Rattle.surveys.proofs.Decisions.{fails_not}
use Rattle.surveys.proofs.Fronts.{front, within}
use Rattle.surveys.proofs.Placed.{place_inside}
use Rattle.files.specs.CallSteps.{FrontHolds}

module _ {G : Type 0} {o : Opening G} {s : State G} {v : Survey} {l : Lent G} (stands : Stands o s v l) where
  -- once all is settled, nothing waits
  idle : EveryBlockSettled o s → Blank l.waiting 0 (length o.query.terms * o.tree.count)
  idle all = go _ stands.working
    where
      go : (w : Option Work) → Working o s w l.waiting → Blank l.waiting 0 (length o.query.terms * o.tree.count)
      go None idle = idle.blank
      go (Some w) works = absurd (fails_not works.stale (all w.block works.stands))

  module _ {n : ℕ} (size : n ≡ length o.query.terms * o.tree.count) where
    -- the values behind the front are no part of the state
    pub stands_longer : (values : List G) → length o.query.terms * o.tree.count ≤ length values → length l.values ≡ length (take n values) → Stands o s v (lent l.marks (l.values ++ drop n values) l.waiting)
    stands_longer values room same =
        let below : n ≤ length values = omega arith in
        let len : length l.values ≡ n = same ∙ length-take-le n values below in
        record {
          counted = stands.counted;
          roomy = record { marks = stands.roomy.marks; values = omega (arith, stands.roomy.values, len, (within values l.values n below len).same_length); waiting = stands.roomy.waiting };
          marks = stands.marks;
          values = λ i x term node. front values l.values n below len (place o.tree.count i x) o.kind.lowest (omega (arith, place_inside o.tree.count (length o.query.terms) i x term node)) ∙ stands.values i x term node;
          flags = stands.flags;
          settled = stands.settled;
          working = stands.working;
        }

    pub front_holds : EveryBlockSettled o s → (waiting : List ℕ) → length o.query.terms * o.tree.count ≤ length waiting → length l.waiting ≡ length (take n waiting) → FrontHolds o s (lent l.marks l.values (l.waiting ++ drop n waiting))
    front_holds all waiting room same =
        let below : n ≤ length waiting = omega arith in
        record {
          grades = record { marks = stands.marks; values = stands.values };
          waiting = λ p from to. front waiting l.waiting n below (same ∙ length-take-le n waiting below) p 0 (omega arith) ∙ idle all p from to;
        }
