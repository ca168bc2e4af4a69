-- From states that are the same, steps lead to states that are the same.
use Rattle.std.proofs.Common.{◌≡◌, ℕ, suc, ◌<◌, ◌||◌, eqb, [], ◌∷◌, ◌++◌, Some, sym, refl, ap, ◌∙◌, ap₂, subst₂, arith}
use Rattle.queries.specs.Table.{term_at, block_of}
use Rattle.meaning.proofs.Readings.{read_stands, grade_same}
use Rattle.surveys.specs.Places.{Place, In, Lists}
use Rattle.surveys.specs.Promise.{SameState}
use Rattle.surveys.specs.Rules.{Opening, State, EntryOf, Queued, Steps, Makes, EveryBlockSettled, given}
use Rattle.surveys.proofs.Decisions.{place?, grade?, empty?, fails_not}
use Rattle.surveys.proofs.Order.{listed_once}
use Rattle.surveys.proofs.Readings.{Accepted}
use Rattle.surveys.proofs.Sameness.{same_back, all_same, works_same}
use Rattle.surveys.proofs.Sound.{Sound}
use Rattle.surveys.proofs.Stepped.{sound_steps, works_ready, works_stale}

module _ {G : Type 0} (o : Opening G) (f : Accepted o) (s t s' t' : State G) (same : SameState o s t) (sound : Sound o s) (st : Steps o s s') (st' : Steps o t t') where
  works : (st.block ≡ st'.block) × (((st.term, st.node) ∷ st.rest) ≡ ((st'.term, st'.node) ∷ st'.rest))
  works = works_same o s t same st.works_on st'.works_on

  same_head : ◌≡◌ {A = Place} (st.term, st.node) (st'.term, st'.node)
  same_head = let e = works.1 in cc

  same_term : st.term ≡ st'.term
  same_term = ap (λ (p : Place). p.0) same_head

  same_node : st.node ≡ st'.node
  same_node = ap (λ (p : Place). p.1) same_head

  same_rest : st.rest ≡ st'.rest
  same_rest = let e = works.1 in cc

  head_entry : EntryOf o st.block st.term st.node
  head_entry = (works_ready o f s sound st.works_on).within (st.term, st.node) (In.first st.rest)

  -- the entry at the head takes the same grade
  same_takes : s'.values st.term st.node ≡ t'.values st.term st.node
  same_takes =
      let here : t'.values st.term st.node ≡ given o t.marks t.values st.term st.node = subst₂ (λ i x. t'.values i x ≡ given o t.marks t.values i x) (sym same_term) (sym same_node) st'.takes in
      let next : given o s.marks s.values st.term st.node ≡ given o t.marks t.values st.term st.node =
      grade_same o.kind o.tree s.marks t.marks s.values t.values (term_at o.query st.term) st.node
      (λ a is. same.marks a st.node (f.admitted.tag_stands st.term head_entry.term a is) head_entry.node)
      (λ j y r. same.values (block_of o.query j) j y (read_stands f.tree f.admitted head_entry r)) in
      st.takes ∙ next ∙ sym here

  same_values : (b i x : ℕ) → EntryOf o b i x → s'.values i x ≡ t'.values i x
  same_values b i x e = elim (place? i x st.term st.node) [
    | yes h ↦ subst₂ (λ i x. s'.values i x ≡ t'.values i x) (sym h.0) (sym h.1) same_takes
    | no n ↦ st.others_stay b i x e n ∙ same.values b i x e ∙ sym (st'.others_stay b i x e (λ h. n (h.0 ∙ sym same_term, h.1 ∙ sym same_node)))
  ]

  -- where the one changes the entry so does the other
  same_before : s.values st.term st.node ≡ t.values st.term st.node
  same_before = same.values st.block st.term st.node head_entry

  unchanged' : t'.values st.term st.node ≡ t.values st.term st.node → st'.added ≡ []
  unchanged' = subst₂ (λ i x. t'.values i x ≡ t.values i x → st'.added ≡ []) (sym same_term) (sym same_node) st'.unchanged

  changed' : (t'.values st.term st.node ≡ t.values st.term st.node → ⊥) → Lists (Queued o st.block st.term st.node st.rest) st'.added
  changed' n =
      let m : t'.values st'.term st'.node ≡ t.values st'.term st'.node → ⊥ = subst₂ (λ i x. t'.values i x ≡ t.values i x → ⊥) same_term same_node n in
      let one : Lists (Queued o st.block st'.term st'.node st.rest) st'.added = subst₂ (λ b r. Lists (Queued o b st'.term st'.node r) st'.added) (sym works.0) (sym same_rest) (st'.changed m) in
      subst₂ (λ i x. Lists (Queued o st.block i x st.rest) st'.added) (sym same_term) (sym same_node) one

  same_added : st.added ≡ st'.added
  same_added = elim (grade? f.kind (s'.values st.term st.node) (s.values st.term st.node)) [
    | yes e ↦ st.unchanged e ∙ sym (unchanged' (sym same_takes ∙ e ∙ same_before))
    | no n ↦ listed_once (st.changed n) (changed' (λ e. n (same_takes ∙ e ∙ sym same_before)))
  ]

  same_queue : s'.queue ≡ t'.queue
  same_queue = st.queue ∙ ap₂ ◌++◌ same_rest same_added ∙ sym st'.queue

  pub steps_same : SameState o s' t'
  steps_same = record {
    marks = λ a x h n. ap (λ m. m a x) st.marks_stay ∙ same.marks a x h n ∙ sym (ap (λ m. m a x) st'.marks_stay);
    values = same_values;
    settled = λ c. elim (empty? s'.queue) [
      | yes e ↦ (st.settles e).1 c ∙ ap₂ (λ b v. eqb c b || v) works.0 (same.settled c) ∙ sym ((st'.settles (sym same_queue ∙ e)).1 c)
      | no n ↦ (st.stays_current n).1 c ∙ same.settled c ∙ sym ((st'.stays_current (λ e. n (same_queue ∙ e))).1 c)
    ];
    current = elim (empty? s'.queue) [
      | yes e ↦ (st.settles e).0 ∙ sym (st'.settles (sym same_queue ∙ e)).0
      | no n ↦ (st.stays_current n).0 ∙ ap Some works.0 ∙ sym (st'.stays_current (λ e. n (same_queue ∙ e))).0
    ];
    queue = same_queue;
  }

module _ {G : Type 0} (o : Opening G) (f : Accepted o) where
  -- where all blocks are settled there is no step
  pub no_step : (s s' : State G) → Sound o s → EveryBlockSettled o s → Steps o s s' → ⊥
  no_step s s' sound all st = fails_not (works_stale o f s sound st.works_on) (all st.block (works_ready o f s sound st.works_on).stands)

  -- many steps, where the one that makes fewer has come to the end
  pub makes_same : {n m : ℕ} {s t s' t' : State G} → SameState o s t → Sound o s → Sound o t → Makes o n s s' → Makes o m t t' → (n < m → EveryBlockSettled o s') → (m < n → EveryBlockSettled o t') → (n ≡ m) × SameState o s' t'
  makes_same same sound sound' (Makes.none s) (Makes.none t) end end' = (refl, same)
  makes_same same sound sound' (Makes.none s) (Makes.one_more m t t' t'' st more) end end' = absurd (no_step t t' sound' (all_same o s t same (end (omega arith))) st)
  makes_same same sound sound' (Makes.one_more n s s' s'' st more) (Makes.none t) end end' = absurd (no_step s s' sound (all_same o t s (same_back o s t same) (end' (omega arith))) st)
  makes_same same sound sound' (Makes.one_more n s s' s'' st more) (Makes.one_more m t t' t'' st' more') end end' =
      let r = makes_same (steps_same o f s t s' t' same sound st st') (sound_steps o f s s' sound st) (sound_steps o f t t' sound' st') more more' (λ l. end (omega arith)) (λ l. end' (omega arith)) in
      (ap suc r.0, r.1)
