-- What becomes of the list of those that wait when an entry takes its grade.
use Rattle.std.proofs.Common.{◌≡◌, ℕ, ◌≤◌, Bool, true, false, not, List, [], ◌++◌, length, is_some, Some, None, Option, sym, refl, ap, subst, MatchOption}
use Rattle.std.proofs.lemmas.List.{append-nil, set_past}
use Rattle.grades.specs.Kind.{Says}
use Rattle.shapes.specs.Tree.{Tree}
use Rattle.queries.specs.Queries.{ListsReaders}
use Rattle.queries.specs.Table.{Table}
use Rattle.queues.specs.declared.queue.Queue.{Queue}
use Rattle.queues.specs.Threads.{Threads}
use Rattle.surveys.specs.declared.survey.Survey.{Survey}
use Rattle.surveys.specs.declared.survey.Work.{Work}
use Rattle.surveys.specs.declared.survey.upcoming.HeadEntry.{HeadEntry}
use Rattle.surveys.specs.StepParts.{Requeued}
use Rattle.surveys.specs.Stepping.{AllFlagged, FirstStale, Stored, closed}
use Rattle.surveys.specs.Waking.{woken, added_by}

module _ {G : Type 0} (t : Tree) (q : Table) (h : HeadEntry) (old new : G) (rest waiting : List ℕ) (queue : Queue) where
  pub requeued_none : new ≡ old → Threads waiting queue rest → Requeued t q h old new rest waiting queue
  requeued_none same threads = record { added = []; threads = subst (Threads waiting queue) (sym (append-nil rest)) threads; unchanged = λ _. refl; changed = λ other. absurd (other same) }

  pub requeued_some : (new ≡ old → ⊥) → (readers : List ℕ) → ListsReaders q h.term readers → Threads waiting queue (rest ++ added_by rest (woken t q h.first h.node readers)) → Requeued t q h old new rest waiting queue
  requeued_some other readers lists threads = record { added = added_by rest (woken t q h.first h.node readers); threads = threads; unchanged = λ same. absurd (other same); changed = λ _. (readers, (lists, refl)) }

-- a flag past the others is not written
pub closed_past : (v : Survey) (b : ℕ) → length v.settled ≤ b → record { nodes = v.nodes; tags = v.tags; terms = v.terms; blocks = v.blocks; settled = v.settled; current = None } ≡ closed v b
closed_past v b h = ap (λ flags. record { nodes = v.nodes; tags = v.tags; terms = v.terms; blocks = v.blocks; settled = flags; current = None }) (sym (set_past v.settled b true h))

-- what is stored, by the test of the queue
pub stored_none : (o : Option ℕ) (v : Survey) (w : Work) (v' : Survey) (all empty : Bool) → empty ≡ not (is_some o) → empty ≡ true → v' ≡ closed v w.block → Says all (AllFlagged v') → Stored o v w v' all
stored_none None v w v' all empty is none e f = (e, f)
stored_none (Some x) v w v' all empty is none e f = cc

-- whether a stale block was found
pub found_says : (v : Survey) (o : Option ℕ) (all : Bool) → is_some o ≡ not all → MatchOption o (AllFlagged v) (FirstStale v) → Says all (AllFlagged v)
found_says v None true is h = (λ _. h, λ _. tt)
found_says v None false is h = cc
found_says v (Some b) true is h = cc
found_says v (Some b) false is h = ((λ n. absurd n), λ all. let e = all b h.stands in let stale = h.stale in cc)
