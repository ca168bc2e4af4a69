-- From one state to the next: what the code leaves holds the state that a step of the rules leads to.
use Rattle.std.proofs.Common.{◌≡◌, ℕ, suc, ◌*◌, ◌<◌, ◌≤◌, Bool, true, false, ◌&&◌, ◌||◌, T, eqb, List, [], ◌∷◌, ◌++◌, map, length, get_or, set, Some, None, Option, sym, refl, ap, ◌∙◌, subst, ap₂, inl, inr, arith}
use Rattle.std.specs.List.{AllByRecursion}
use Rattle.std.proofs.lemmas.List.{map-append, length-set, get_or-set_same, get_or-set_other}
use Rattle.std.proofs.lemmas.Bool.{cases_eq, cases_lt, eq-eqb, ne_eqb, and_from, and_left, and_right, cond-true, cond-false}
use Rattle.grades.specs.Kind.{Kind, Says}
use Rattle.shapes.specs.Tree.{Tree, Laws as TreeLaws}
use Rattle.queries.specs.declared.block.Block.{Block}
use Rattle.queries.specs.Table.{Table, Admitted, total, no_block}
use Rattle.meaning.specs.Solutions.{Grades}
use Rattle.meaning.specs.Tables.{place, grades_in}
use Rattle.queues.specs.declared.queue.Queue.{Queue}
use Rattle.queues.specs.Calls.{StaysWithin, head_of}
use Rattle.queues.specs.Threads.{Threads, first, rest}
use Rattle.queues.proofs.Lists.{head_first}
use Rattle.queues.proofs.Uses.{threads_done, first_some}
use Rattle.surveys.specs.declared.survey.Survey.{Survey}
use Rattle.surveys.specs.declared.survey.Work.{Work}
use Rattle.surveys.specs.declared.survey.upcoming.HeadEntry.{HeadEntry}
use Rattle.surveys.specs.Places.{Place, Lists}
use Rattle.surveys.specs.Rules.{Opening, State, EntryOf, WorksOn, Queued, Steps, given}
use Rattle.surveys.specs.Calls.{Does, with_mark}
use Rattle.surveys.specs.Calls.Answer.{stepped}
use Rattle.surveys.specs.Calls.Call.{step}
use Rattle.surveys.specs.Calls.Does.{steps}
use Rattle.surveys.specs.Standing.{Lent, lent, Roomy, Stands, Blank, place_in}
use Rattle.surveys.specs.StepParts.{head_entry_lem, Requeued, WokenInside}
use Rattle.surveys.specs.Stepping.{flag, AllFlagged, first_of, term_of, node_of, Heads, gives, Stored, closed, working_on}
use Rattle.surveys.specs.Waking.{woken}
use Rattle.surveys.proofs.Engine.{TakenUp, given_is, room_values}
use Rattle.surveys.proofs.Placed.{place_apart, place_inside}
use Rattle.surveys.proofs.Numbering.{entry_of_number}
use Rattle.surveys.proofs.Queueing.{readers_inside, queued_listed}
use Rattle.surveys.proofs.Runs.{true_of}

-- what the code leaves, after it has worked off the entry h
pub record WorkedOff {G : Type 0} (k : Kind G) (t : Tree) (q : Table) (v : Survey) (w : Work) (l : Lent G) (h : HeadEntry) (grade : G) (v' : Survey) (queue : Queue) (values : List G) (waiting : List ℕ) (all : Bool) : Type 0 where
  pub values_set : values ≡ set l.values (place t.count h.term h.node) grade
  pub lists : (m : List ℕ) → Threads l.waiting w.queue m → WokenInside t q h w.queue.size → Requeued t q h (grades_in k t.count l.values h.term h.node) grade (rest m) waiting queue
  pub stays : StaysWithin w.queue l.waiting queue waiting
  pub stored : Stored (head_of queue) v (record { block = w.block; queue = queue }) v' all

-- one value set
pub marked_here : {G : Type 0} (m : Grades G) (i x : ℕ) (g : G) → with_mark m i x g i x ≡ g
marked_here m i x g = cond-true (eqb i i && eqb x x) g (m i x) (and_from (eqb i i) (eqb x x) (eq-eqb i i refl) (eq-eqb x x refl))

pub marked_other : {G : Type 0} (m : Grades G) (i x : ℕ) (g : G) (j y : ℕ) → ((j ≡ i) × (y ≡ x) → ⊥) → with_mark m i x g j y ≡ m j y
marked_other m i x g j y apart = cond-false (eqb j i && eqb y x) g (m j y) (elim (cases_eq j i) [
  | inl same ↦ and_right (eqb j i) (eqb y x) (ne_eqb y x (λ e. apart (same, e)))
  | inr other ↦ and_left (eqb j i) (eqb y x) (ne_eqb j i other)
])

-- in a table too
pub set_marked : {G : Type 0} (k : Kind G) (n : ℕ) (values : List G) (v : Grades G) (i x : ℕ) (g : G) (j y : ℕ) → x < n → y < n → place n i x < length values → grades_in k n values j y ≡ v j y → grades_in k n (set values (place n i x) g) j y ≡ with_mark v i x g j y
set_marked k n values v i x g j y hx hy inside was = elim (cases_eq (place n j y) (place n i x)) [
  | inl same ↦
      let apart = place_apart n j i y x hy hx same in
      ap (λ p. get_or (set values (place n i x) g) p k.lowest) same ∙ (get_or-set_same values (place n i x) g k.lowest inside ∙ (sym (marked_here v i x g) ∙ ap₂ (λ a b. with_mark v i x g a b) (sym apart.0) (sym apart.1)))
  | inr other ↦
      get_or-set_other values (place n i x) (place n j y) g k.lowest other ∙ (was ∙ sym (marked_other v i x g j y (λ e. other (ap₂ (place n) e.0 e.1))))
]

-- a flag set
pub set_flag : (flags : List Bool) (b c : ℕ) (old : Bool) → b < length flags → get_or flags c false ≡ old → get_or (set flags b true) c false ≡ (eqb c b || old)
set_flag flags b c old inside was = elim (cases_eq c b) [
  | inl same ↦ ap (λ k. get_or (set flags b true) k false) same ∙ (get_or-set_same flags b true false inside ∙ sym (ap (λ z. z || old) (eq-eqb c b same)))
  | inr other ↦ get_or-set_other flags b c true false other ∙ (was ∙ sym (ap (λ z. z || old) (ne_eqb c b other)))
]

-- a query has no more blocks than terms
pub few_blocks : (bs : List Block) → ((b : ℕ) → b < length bs → 1 ≤ (get_or bs b no_block).terms) → length bs ≤ total bs
few_blocks [] h = omega arith
few_blocks (b ∷ bs) h = omega (arith, h 0 (omega arith), few_blocks bs (λ c less. h (suc c) (omega arith)))

true_T : (x : Bool) → x ≡ true → T x
true_T x e = subst T (sym e) tt

map_none : (f : ℕ → Place) (l : List ℕ) → map f l ≡ [] → l ≡ []
map_none f [] e = refl
map_none f (x ∷ l) e = let clash : ◌≡◌ {A = ℕ} 0 1 = omega (arith, ap length e) in absurd (omega arith)

module _ {G : Type 0} (o : Opening G) (a : Admitted o.query) (laws : TreeLaws o.tree) (s : State G) (v : Survey) (l : Lent G) (stands : Stands o s v l)
    (w : Work) (up : TakenUp o s w l.waiting) (e : ℕ) (heads : Heads o.query o.tree.count w e)
    (grade : G) (graded : grade ≡ gives o.kind o.tree o.query l.marks l.values w.block e)
    (v' : Survey) (queue : Queue) (values : List G) (waiting : List ℕ) (all : Bool)
    (worked : WorkedOff o.kind o.tree o.query v w l (head_entry_lem o.query o.tree.count w.block e) grade v' queue values waiting all) where
  abbrev n : ℕ
  n = o.tree.count

  abbrev b : ℕ
  b = w.block

  abbrev term : ℕ
  term = term_of o.query n b e

  abbrev node : ℕ
  node = node_of n e

  entry : EntryOf o b term node
  entry = entry_of_number o a laws.countable.0 b up.stands e heads.inside

  waited : up.entries ≡ e ∷ rest up.entries
  waited = first_some up.entries e (sym heads.head ∙ head_first l.waiting w.queue up.entries up.threads)

  inside : WokenInside o.tree o.query (head_entry_lem o.query n b e) w.queue.size
  inside readers lists = subst (λ size. AllByRecursion (λ e. e < size) (woken o.tree o.query (first_of o.query b) node readers)) (sym up.size) (readers_inside o a laws b term node entry.dealt_here up.stands entry.node readers lists)

  requeued : Requeued o.tree o.query (head_entry_lem o.query n b e) (grades_in o.kind n l.values term node) grade (rest up.entries) waiting queue
  requeued = worked.lists up.entries up.threads inside

  abbrev left : List ℕ
  left = rest up.entries ++ requeued.added

  old_is : grades_in o.kind n l.values term node ≡ s.values term node
  old_is = stands.values term node entry.term entry.node

  new_is : grade ≡ given o s.marks s.values term node
  new_is = graded ∙ given_is o a laws s v l stands b term node entry

  added_listed : (with_mark s.values term node grade term node ≡ s.values term node → ⊥) → Lists (Queued o b term node (map (place_in o b) (rest up.entries))) (map (place_in o b) requeued.added)
  added_listed other =
      let r = requeued.changed (λ same. other (marked_here s.values term node grade ∙ (same ∙ old_is))) in
      subst (λ added. Lists (Queued o b term node (map (place_in o b) (rest up.entries))) (map (place_in o b) added)) (sym r.1.1)
      (queued_listed o a laws b term node entry.dealt_here up.stands entry.node r.0 r.1.0 (rest up.entries))

  stepped_so : (settled : ℕ → Bool) (current : Option ℕ) →
      (map (place_in o b) left ≡ [] → (current ≡ None) × ((c : ℕ) → settled c ≡ (eqb c b || s.settled c))) →
      ((map (place_in o b) left ≡ [] → ⊥) → (current ≡ Some b) × ((c : ℕ) → settled c ≡ s.settled c)) →
      Steps o s (record { marks = s.marks; values = with_mark s.values term node grade; settled = settled; current = current; queue = map (place_in o b) left })
  stepped_so settled current settles stays = record {
    block = b;
    term = term;
    node = node;
    rest = map (place_in o b) (rest up.entries);
    added = map (place_in o b) requeued.added;
    works_on = subst (λ m. WorksOn o s b (map (place_in o b) m)) waited up.works_on;
    takes = marked_here s.values term node grade ∙ new_is;
    others_stay = λ c i x _ other. marked_other s.values term node grade i x other;
    marks_stay = refl;
    unchanged = λ same. ap (map (place_in o b)) (requeued.unchanged (sym (marked_here s.values term node grade) ∙ (same ∙ sym old_is)));
    changed = added_listed;
    queue = map-append (place_in o b) (rest up.entries) requeued.added;
    settles = settles;
    stays_current = stays;
  }

  -- what holds of the tables, whatever becomes of the block
  values_stand : (i x : ℕ) → i < length o.query.terms → x < n → grades_in o.kind n values i x ≡ with_mark s.values term node grade i x
  values_stand i x hi hx =
      ap (λ table. grades_in o.kind n table i x) worked.values_set ∙
      set_marked o.kind n l.values s.values term node grade i x entry.node hx (omega (arith, place_inside n (length o.query.terms) term node entry.term entry.node, room_values o a laws s v l stands)) (stands.values i x hi hx)

  roomy : Roomy v (lent l.marks values waiting)
  roomy = record {
    marks = stands.roomy.marks;
    values = omega (arith, stands.roomy.values, ap length worked.values_set, length-set l.values (place n term node) grade);
    waiting = omega (arith, stands.roomy.waiting, worked.stays.table.same_length);
  }

  flag_inside : b < length v.settled
  flag_inside = omega (arith, stands.flags, up.stands, few_blocks o.query.blocks a.sized.no_empty_block, a.sized.all_dealt, a.sized.few_terms)

  -- no entry is left: the block is settled
  module _ (none : left ≡ []) (v_is : v' ≡ closed v b) (says : Says all (AllFlagged v')) where
    abbrev settled : ℕ → Bool
    settled c = eqb c b || s.settled c

    abbrev next : State G
    next = record { marks = s.marks; values = with_mark s.values term node grade; settled = settled; current = None; queue = map (place_in o b) left }

    flags_stand : (c : ℕ) → c < length o.query.blocks → flag v' c ≡ settled c
    flags_stand c h = ap (λ v. flag v c) v_is ∙ set_flag v.settled b c (s.settled c) flag_inside (stands.settled c h)

    done : (k : ℕ) → k < queue.size → get_or waiting k 0 ≡ 0
    done = threads_done waiting queue (subst (Threads waiting queue) none requeued.threads)

    nothing_waits : Blank waiting 0 (length o.query.terms * n)
    nothing_waits k from to = elim (cases_lt k queue.size) [
      | inl less ↦ done k less
      | inr more ↦ worked.stays.table.beyond k 0 (omega (arith, worked.stays.size)) ∙ up.blank k (omega (arith, worked.stays.size)) to
    ]

    settled_stands : Stands o next (closed v b) (lent l.marks values waiting)
    settled_stands = record {
      counted = record { nodes = stands.counted.nodes; tags = stands.counted.tags; terms = stands.counted.terms; blocks = stands.counted.blocks };
      roomy = record { marks = roomy.marks; values = roomy.values; waiting = roomy.waiting };
      marks = stands.marks;
      values = values_stand;
      flags = length-set v.settled b true ∙ stands.flags;
      settled = λ c h. ap (λ v. flag v c) (sym v_is) ∙ flags_stand c h;
      working = record { none_current = refl; queue = ap (map (place_in o b)) none; blank = nothing_waits };
    }

    same_blocks : v'.blocks ≡ length o.query.blocks
    same_blocks = ap (λ v. v.blocks) v_is ∙ stands.counted.blocks

    settles : (s' : State G) × (Does o s step (stepped all) s' × Stands o s' v' (lent l.marks values waiting))
    settles = (
      next,
      (
        steps all next (stepped_so settled None (λ _. (refl, λ c. refl)) (λ some. absurd (some (ap (map (place_in o b)) none))))
            (λ h c less. true_T (settled c) (sym (flags_stand c less) ∙ says.0 h c (omega (arith, same_blocks))), λ h. says.1 (λ c less. let below : c < length o.query.blocks = omega (arith, same_blocks) in flags_stand c below ∙ true_of (settled c) (h c below))),
        subst (λ v. Stands o next v (lent l.marks values waiting)) (sym v_is) settled_stands,
      ),
    )

  -- some entry is left: the block stays current
  module _ (some : left ≡ [] → ⊥) (v_is : v' ≡ working_on v (record { block = b; queue = queue })) (no_end : all ≡ false) where
    abbrev later : State G
    later = record { marks = s.marks; values = with_mark s.values term node grade; settled = s.settled; current = Some b; queue = map (place_in o b) left }

    later_stands : Stands o later (working_on v (record { block = b; queue = queue })) (lent l.marks values waiting)
    later_stands = record {
      counted = record { nodes = stands.counted.nodes; tags = stands.counted.tags; terms = stands.counted.terms; blocks = stands.counted.blocks };
      roomy = record { marks = roomy.marks; values = roomy.values; waiting = roomy.waiting };
      marks = stands.marks;
      values = values_stand;
      flags = stands.flags;
      settled = stands.settled;
      working = record {
        current = refl;
        stands = up.stands;
        stale = up.stale;
        size = worked.stays.size ∙ up.size;
        entries = left;
        some_wait = some;
        threads = requeued.threads;
        queue = refl;
        blank = λ k from to. worked.stays.table.beyond k 0 (omega (arith, worked.stays.size)) ∙ up.blank k (omega (arith, worked.stays.size)) to;
      };
    }

    goes_on : (s' : State G) × (Does o s step (stepped all) s' × Stands o s' v' (lent l.marks values waiting))
    goes_on = (
      later,
      (
        steps all later (stepped_so s.settled (Some b) (λ none. absurd (some (map_none (place_in o b) left none))) (λ _. (refl, λ c. refl)))
            (λ h. absurd (subst T no_end h), λ h. absurd (subst T up.stale (h b up.stands))),
        subst (λ v. Stands o later v (lent l.marks values waiting)) (sym v_is) later_stands,
      ),
    )

  by_left : (m : List ℕ) → left ≡ m → Stored (first m) v (record { block = b; queue = queue }) v' all → (s' : State G) × (Does o s step (stepped all) s' × Stands o s' v' (lent l.marks values waiting))
  by_left [] is stored = settles is stored.0 stored.1
  by_left (x ∷ m) is stored = goes_on (λ none. let clash : ◌≡◌ {A = ℕ} 0 1 = omega (arith, ap length (sym is ∙ none)) in omega arith) stored.0 stored.1

  -- the code's step is one of the rules
  pub advances : (s' : State G) × (Does o s step (stepped all) s' × Stands o s' v' (lent l.marks values waiting))
  advances = by_left left refl (subst (λ h. Stored h v (record { block = b; queue = queue }) v' all) (head_first waiting queue left requeued.threads) worked.stored)
