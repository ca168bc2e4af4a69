-- The core of a step: the entry at the head takes what its term gives, and the block stays on its way.
use Rattle.std.proofs.Common.{◌≡◌, ℕ, ◌∷◌, ◌++◌, sym, refl, ap, ◌∙◌, inl, inr}
use Rattle.queries.specs.Table.{term_at, block_of, direction}
use Rattle.meaning.specs.Readings.{Reading}
use Rattle.meaning.specs.Solutions.{Grades, Solves}
use Rattle.meaning.proofs.Better.{better_equal, better_trans, better_between}
use Rattle.meaning.proofs.Readings.{grade_same, reading_node}
use Rattle.surveys.specs.Places.{Place, In}
use Rattle.surveys.specs.Rules.{Opening, State, EntryOf, Steps, given}
use Rattle.surveys.proofs.Decisions.{place?, grade?}
use Rattle.surveys.proofs.Membership.{in_none, in_cons, in_left, in_right, in_append}
use Rattle.surveys.proofs.Readings.{Accepted, AgreeRead, BetterAt, read_entry, reads_term, given_better}
use Rattle.surveys.proofs.Ready.{Ready}

module _ {G : Type 0} (o : Opening G) (f : Accepted o) (s s' : State G) (st : Steps o s s') (r : Ready o s.marks s.values s.settled st.block ((st.term, st.node) ∷ st.rest)) where
  -- the entry that is taken is one of the block
  pub head_entry : EntryOf o st.block st.term st.node
  head_entry = r.within (st.term, st.node) (In.first st.rest)

  took : (i x : ℕ) → (i ≡ st.term) × (x ≡ st.node) → s'.values i x ≡ given o s.marks s.values i x
  took i x h = rw (h.0, h.1) st.takes

  -- no value of the block becomes better
  pub values_rise : (i x : ℕ) → EntryOf o st.block i x → BetterAt o i (s.values i x) (s'.values i x)
  values_rise i x e = elim (place? i x st.term st.node) [
    | yes h ↦ better_between f.kind (direction o.query i) (s.values i x) (s.values i x) (given o s.marks s.values i x) (s'.values i x) refl (took i x h) (r.rising i x e)
    | no n ↦ better_equal f.kind (direction o.query i) (s.values i x) (s'.values i x) (sym (st.others_stay st.block i x e n))
  ]

  -- an entry of another block stays
  pub other_block_stays : (b i x : ℕ) → EntryOf o b i x → (block_of o.query i ≡ st.block → ⊥) → s.values i x ≡ s'.values i x
  other_block_stays b i x e other = sym (st.others_stay b i x e (λ h. other (ap (block_of o.query) h.0 ∙ head_entry.dealt_here)))

  read_stays : AgreeRead o st.block s.values s'.values
  read_stays j y reads other n = other_block_stays (block_of o.query j) j y (read_entry o f st.block j y reads n) other

  -- so what no term gives becomes better
  given_rise : (i x : ℕ) → EntryOf o st.block i x → BetterAt o i (given o s.marks s.values i x) (given o s.marks s'.values i x)
  given_rise = given_better o f st.block s.marks s.values s'.values read_stays values_rise

  still_rising : (i x : ℕ) → EntryOf o st.block i x → BetterAt o i (s'.values i x) (given o s.marks s'.values i x)
  still_rising i x e = elim (place? i x st.term st.node) [
    | yes h ↦ better_between f.kind (direction o.query i) (given o s.marks s.values i x) (s'.values i x) (given o s.marks s'.values i x) (given o s.marks s'.values i x) (took i x h) refl (given_rise i x e)
    | no n ↦
        better_between f.kind (direction o.query i) (s.values i x) (s'.values i x) (given o s.marks s'.values i x) (given o s.marks s'.values i x) (st.others_stay st.block i x e n) refl
        (better_trans f.kind (direction o.query i) (s.values i x) (given o s.marks s.values i x) (given o s.marks s'.values i x) (r.rising i x e) (given_rise i x e))
  ]

  still_under : (w : Grades G) → AgreeRead o st.block s'.values w → Solves o.kind o.tree o.query s.marks st.block w → (i x : ℕ) → EntryOf o st.block i x → BetterAt o i (s'.values i x) (w i x)
  still_under w agree solves i x e =
      let before : AgreeRead o st.block s.values w = λ j y reads other n. read_stays j y reads other n ∙ agree j y reads other n in
      elim (place? i x st.term st.node) [
        | yes h ↦
            better_between f.kind (direction o.query i) (given o s.marks s.values i x) (s'.values i x) (given o s.marks w i x) (w i x) (took i x h) (solves i x e)
            (given_better o f st.block s.marks s.values w before (r.under w before solves) i x e)
        | no n ↦ better_between f.kind (direction o.query i) (s.values i x) (s'.values i x) (w i x) (w i x) (st.others_stay st.block i x e n) refl (r.under w before solves i x e)
      ]

  -- an entry that does not wait after the step reads nothing that was changed
  readings_stay : (i x : ℕ) → EntryOf o st.block i x → (In (i, x) (st.rest ++ st.added) → ⊥) → (j y : ℕ) → Reading o.tree (term_at o.query i) x j y → s.values j y ≡ s'.values j y
  readings_stay i x e out j y reading = elim (place? j y st.term st.node) [
    | yes h ↦ elim (grade? f.kind (s'.values st.term st.node) (s.values st.term st.node)) [
      | yes same ↦ rw (h.0, h.1) (sym same)
      | no changed ↦ absurd (out (in_right st.rest st.added ((st.changed changed).whole (i, x) (record { entry = e; reads = rw (h.0, h.1) at reading; waits_not = λ waits. out (in_left st.rest st.added waits) }))))
    ]
    | no n ↦ sym (st.others_stay (block_of o.query j) j y (read_entry o f st.block j y (reads_term e reading) (reading_node f.tree e.node reading)) n)
  ]

  still_quiet : (i x : ℕ) → EntryOf o st.block i x → (In (i, x) (st.rest ++ st.added) → ⊥) → s'.values i x ≡ given o s.marks s'.values i x
  still_quiet i x e out =
      let next : given o s.marks s.values i x ≡ given o s.marks s'.values i x = grade_same o.kind o.tree s.marks s.marks s.values s'.values (term_at o.query i) x (λ a is. refl) (readings_stay i x e out) in
      elim (place? i x st.term st.node) [
        | yes h ↦ took i x h ∙ next
        | no n ↦ st.others_stay st.block i x e n ∙ r.quiet i x e (λ waits. elim (in_cons waits) [ inl p ↦ n (ap (λ p. p.0) p, ap (λ p. p.1) p) | inr rest ↦ out (in_left st.rest st.added rest) ]) ∙ next
      ]

  still_within : (p : Place) → In p (st.rest ++ st.added) → EntryOf o st.block p.0 p.1
  still_within p h = elim (in_append st.rest st.added h) [
    | inl waits ↦ r.within p (In.later (st.term, st.node) st.rest waits)
    | inr added ↦ elim (grade? f.kind (s'.values st.term st.node) (s.values st.term st.node)) [
      | yes same ↦ absurd (in_none (rw (st.unchanged same) at added))
      | no changed ↦ ((st.changed changed).sound p added).entry
    ]
  ]

  -- a step keeps its block on its way
  pub ready_steps : Ready o s.marks s'.values s.settled st.block (st.rest ++ st.added)
  ready_steps = record { stands = r.stands; grounds = r.grounds; within = still_within; rising = still_rising; under = still_under; quiet = still_quiet }
