-- The answers of a step: each as the rules say, with its cause.
use Rattle.std.proofs.Common.{◌≡◌, ℕ, ◌*◌, ◌<◌, Bool, T, List, [], ◌∷◌, length, get_or, set, Some, sym, refl, ap, ◌∙◌, subst, ap₂, inl, inr, arith}
use Rattle.std.proofs.lemmas.List.{length-set, get_or-set_other}
use Rattle.std.proofs.lemmas.Bool.{cases_order}
use Rattle.grades.specs.Kind.{Kind}
use Rattle.shapes.specs.Tree.{Tree, Laws as TreeLaws}
use Rattle.queries.specs.Table.{Table, Admitted, blocks_terms}
use Rattle.meaning.specs.Solutions.{Grades}
use Rattle.meaning.specs.Tables.{place}
use Rattle.queues.specs.declared.queue.Queue.{Queue}
use Rattle.queues.specs.Threads.{first, In as Waits}
use Rattle.queues.specs.Within.{Within}
use Rattle.queues.proofs.Lists.{head_first}
use Rattle.queues.proofs.Uses.{threads_below}
use Rattle.surveys.specs.declared.refusal.SurveyRefusal.TheVariants.{TableOrCounts, AllSettled, ForeignEntry}
use Rattle.surveys.specs.declared.survey.Survey.{Survey}
use Rattle.surveys.specs.declared.survey.Work.{Work}
use Rattle.surveys.specs.declared.survey.upcoming.HeadEntry.{HeadEntry}
use Rattle.surveys.specs.Calls.Answer.{refused, stepped}
use Rattle.surveys.specs.Calls.Call.{step}
use Rattle.surveys.specs.Calls.Does.{nothing_left}
use Rattle.surveys.specs.Held.{ByRules, AlteredAtMost}
use Rattle.surveys.specs.Promise.{opening}
use Rattle.surveys.specs.Rules.{Opening, State}
use Rattle.surveys.specs.Standing.{Lent, lent, Fits, Stands}
use Rattle.surveys.specs.StepParts.{Evaluated}
use Rattle.surveys.specs.Stepping.{FirstStale, NothingLeft, TakesUp, begun, term_of, node_of, Evaluates, gives, WorksOff}
use Rattle.surveys.specs.Stepping.TakesUp.{goes_on, begins}
use Rattle.surveys.proofs.Advances.{WorkedOff, advances}
use Rattle.surveys.proofs.Engine.{TakenUp, taken_up, readable}
use Rattle.surveys.proofs.Placed.{place_inside}
use Rattle.surveys.proofs.Numbering.{entry_of_number}
use Rattle.surveys.proofs.Remarks.{stands_fits}
use Rattle.surveys.proofs.Spanning.{term_stands}

-- tables with at most one place altered
pub altered_none : {G : Type 0} (values : List G) → AlteredAtMost 1 values values
altered_none values = record { same_length = refl; places = 0 ∷ []; few = refl; others = λ k d _. refl }

pub altered_one : {G : Type 0} (before after : List G) (at : ℕ) (g : G) → after ≡ set before at g → AlteredAtMost 1 before after
altered_one before after at g is = record {
  same_length = ap length is ∙ length-set before at g;
  places = at ∷ [];
  few = refl;
  others = λ k d apart. ap (λ l. get_or l k d) is ∙ get_or-set_other before at k g d (λ same. apart 0 (omega arith) (sym same));
}

-- and with none altered from n on
pub within_one : {G : Type 0} (n : ℕ) (before after : List G) (at : ℕ) (g : G) → at < n → after ≡ set before at g → Within n before after
within_one n before after at g below is = record {
  same_length = ap length is ∙ length-set before at g;
  beyond = λ k d past. ap (λ l. get_or l k d) is ∙ get_or-set_other before at k g d (λ same. omega arith);
}

-- a step takes up one work only, and none where nothing is left
stale_once : (v : Survey) (b c : ℕ) → FirstStale v b → FirstStale v c → b ≡ c
stale_once v b c h k = elim (cases_order b c) [
  | inl same ↦ same
  | inr other ↦ elim other [
    | inl less ↦ let e = k.before b less in let f = h.stale in cc
    | inr more ↦ let e = h.before c more in let f = k.stale in cc
  ]
]

pub takes_up_once : {q : Table} {n : ℕ} {v : Survey} {w w' : Work} → TakesUp q n v w → TakesUp q n v w' → w ≡ w'
takes_up_once (goes_on w e) (goes_on w' e') = cc
takes_up_once (goes_on w e) (begins b e' h) = cc
takes_up_once (begins b e h) (goes_on w' e') = cc
takes_up_once {q} {n} {v} (begins b e h) (begins c e' k) = ap (begun q n) (stale_once v b c h k)

pub takes_up_some : {q : Table} {n : ℕ} {v : Survey} {w : Work} → TakesUp q n v w → NothingLeft v → ⊥
takes_up_some (goes_on w e) none = let f = none.none_current in cc
takes_up_some (begins b e h) none = let f = none.all_flagged b h.stands in let g = h.stale in cc

pub works_off_not : {G : Type 0} (t : Tree) (q : Table) (v : Survey) (l : Lent G) (w : Work) → TakesUp q t.count v w → ((e : ℕ) → Evaluates t q l.marks l.values w e → ⊥) → WorksOff t q v l → ⊥
works_off_not t q v l w up none works =
    none works.entry (subst (λ w. Evaluates t q l.marks l.values w works.entry) (takes_up_once works.takes_up up) works.evaluates)

-- an entry of the block has its place among the entries, and so in the values
pub entry_inside : {G : Type 0} (k : Kind G) (t : Tree) (q : Table) → Admitted q → (v : Survey) (l : Lent G) (w : Work) (h : HeadEntry) (grade : G) → Fits v t.count (length q.terms) l → Evaluated k t q l.marks l.values w h grade → (h.node < t.count) × (place t.count h.term h.node < length q.terms * t.count) × (place t.count h.term h.node < length l.values)
entry_inside k t q a v l w h grade fits ev =
    let node : h.node < t.count = omega (arith, ap (λ (h : HeadEntry). h.node) ev.is, ev.evaluates.readable.node) in
    let term : h.term < length q.terms = omega (arith, ap (λ (h : HeadEntry). h.term) ev.is, term_stands a w.block t.count ev.entry ev.evaluates.heads.inside) in
    let inside : place t.count h.term h.node < length q.terms * t.count = place_inside t.count (length q.terms) h.term h.node term node in
    (node, inside, omega (arith, fits.roomy.values, ap₂ (λ a b. a * b) fits.same_terms fits.same_nodes))

-- what is written there is what the entry takes
pub takes_so : {G : Type 0} (k : Kind G) (t : Tree) (q : Table) (l : Lent G) (w : Work) (h : HeadEntry) (grade : G) (values : List G) (ev : Evaluated k t q l.marks l.values w h grade) → values ≡ set l.values (place t.count h.term h.node) grade →
    values ≡ set l.values (place t.count (term_of q t.count w.block ev.entry) (node_of t.count ev.entry)) (gives k t q l.marks l.values w.block ev.entry)
takes_so k t q l w h grade values ev is = is ∙ ap₂ (λ (h : HeadEntry) g. set l.values (place t.count h.term h.node) g) ev.is ev.graded

-- a survey that holds a state fits
stand_fits : {G : Type 0} (o : Opening G) (s : State G) (v : Survey) (l : Lent G) → Stands o s v l → Fits v o.tree.count (length o.query.terms) l
stand_fits = stands_fits

-- some entry waits, and can be worked off
some_first : (m : List ℕ) → (m ≡ [] → ⊥) → (e : ℕ) × (first m ≡ Some e)
some_first [] h = absurd (h refl)
some_first (x ∷ m) h = (x, refl)

first_in : (m : List ℕ) (e : ℕ) → first m ≡ Some e → Waits e m
first_in [] e h = cc
first_in (x ∷ m) e h = inl (cc)

module _ {G : Type 0} (k : Kind G) (t : Tree) (q : Table) (a : Admitted q) (laws : TreeLaws t) (v : Survey) (l : Lent G) (m : Grades G) where
  pub other_counts : (Fits v t.count (length q.terms) l → ⊥) → ByRules (opening k t q m) step (refused TableOrCounts) v l v l
  other_counts fits s stands = absurd (fits (stand_fits (opening k t q m) s v l stands))

  pub all_settled : NothingLeft v → ByRules (opening k t q m) step (refused AllSettled) v l v l
  all_settled none s stands = (s, (nothing_left (λ b h. subst T (sym (none.all_flagged b (omega (arith, stands.counted.blocks))) ∙ stands.settled b h) tt), stands))

  pub no_foreign_entry : (w : Work) → TakesUp q t.count v w → ((e : ℕ) → Evaluates t q l.marks l.values w e → ⊥) → ByRules (opening k t q m) step (refused ForeignEntry) v l v l
  no_foreign_entry w up none s stands =
      let o = opening k t q m in
      let taken : TakenUp o s w l.waiting = taken_up o a laws s v l stands up in
      let head = some_first taken.entries taken.some_wait in
      let below = threads_below l.waiting w.queue taken.entries head.0 taken.threads (first_in taken.entries head.0 head.1) in
      let inside : head.0 < blocks_terms q w.block * t.count = omega (arith, taken.size) in
      absurd (none head.0 (record {
        heads = record { head = head_first l.waiting w.queue taken.entries taken.threads ∙ head.1; inside = inside };
        readable = readable o a laws s v l stands w.block _ _ (entry_of_number o a laws.countable.0 w.block taken.stands head.0 inside);
      }))

  pub works_off : (w : Work) (h : HeadEntry) (grade : G) (v' : Survey) (queue : Queue) (values : List G) (waiting : List ℕ) (all : Bool) → TakesUp q t.count v w → Evaluated k t q l.marks l.values w h grade → WorkedOff k t q v w l h grade v' queue values waiting all →
      ByRules (opening k t q m) step (stepped all) v l v' (lent l.marks values waiting)
  works_off w h grade v' queue values waiting all up ev worked s stands =
      let o = opening k t q m in
      advances o a laws s v l stands w (taken_up o a laws s v l stands up) ev.entry ev.evaluates.heads grade ev.graded v' queue values waiting all
      (subst (λ h. WorkedOff k t q v w l h grade v' queue values waiting all) ev.is worked)
