-- How many steps are left in a state, and how a step and a retag move that.
use Rattle.std.proofs.Common.{◌≡◌, ℕ, ◌<◌, ◌≤◌, Bool, true, false, cond, T, eqb, List, Some, None, Option, refl, ap, ◌∙◌, inl, inr, le_refl, arith}
use lib.Dec.{eqb_refl}
use Rattle.std.proofs.lemmas.Bool.{cond-true, cond-false, eq-eqb, ne_eqb}
use Rattle.queries.specs.Table.{Reaches}
use Rattle.surveys.specs.Places.{Place}
use Rattle.surveys.specs.Rules.{Opening, State, WorksOn, Steps, Retags, opened}
use Rattle.surveys.proofs.Decisions.{empty?, fails, left_passes, option?, passes?, none_some}
use Rattle.surveys.proofs.Left.{left_in, all_of, left_begins, left_stays, left_falls}
use Rattle.surveys.proofs.Readings.{Accepted}
use Rattle.surveys.proofs.Retagged.{current_before, unreached_own, unreached_read}
use Rattle.surveys.proofs.Sound.{Sound}
use Rattle.surveys.proofs.Stepped.{works_only, head_ready, newly_settled, current_after, step_lasts}

module _ {G : Type 0} (o : Opening G) where
  -- of a stale block b: what is left of it where it is current, and else all
  left_stale : State G → ℕ → Option ℕ → ℕ
  left_stale s b None = all_of o b
  left_stale s b (Some c) = cond (eqb c b) (left_in o s.values b s.queue) (all_of o b)

  pub steps_left : State G → ℕ → ℕ
  steps_left s b = cond (s.settled b) 0 (left_stale s b s.current)

module _ {G : Type 0} (o : Opening G) (s : State G) (b : ℕ) where
  left_settled : T (s.settled b) → steps_left o s b ≡ 0
  unfolding steps_left
  left_settled h = go (s.settled b) h
    where
      go : (d : Bool) → T d → cond d 0 (left_stale o s b s.current) ≡ 0
      go true h = refl
      go false h = elim h [ ]

  left_current : s.settled b ≡ false → s.current ≡ Some b → steps_left o s b ≡ left_in o s.values b s.queue
  unfolding steps_left left_stale
  left_current stale e = cond-false (s.settled b) _ _ stale ∙ ap (left_stale o s b) e ∙ cond-true (eqb b b) _ _ (eq-eqb b b refl)

  left_elsewhere : s.settled b ≡ false → (s.current ≡ Some b → ⊥) → steps_left o s b ≡ all_of o b
  unfolding steps_left left_stale
  left_elsewhere stale idle = cond-false (s.settled b) _ _ stale ∙ go s.current refl
    where
      go : (w : Option ℕ) → s.current ≡ w → left_stale o s b w ≡ all_of o b
      go None e = refl
      go (Some c) e = cond-false (eqb c b) _ _ (ne_eqb c b (λ same. idle (e ∙ ap Some same)))

pub left_opened : {G : Type 0} (o : Opening G) (b : ℕ) → steps_left o (opened o) b ≡ all_of o b
left_opened o b = left_elsewhere o (opened o) b refl (none_some refl)

-- the block that a step works on has at least what its queue leaves
works_left : {G : Type 0} (o : Opening G) → Accepted o → (s : State G) → Sound o s → {b : ℕ} {queue : List Place} → WorksOn o s b queue → left_in o s.values b queue ≤ steps_left o s b
works_left o f s sound (WorksOn.goes_on b e) = rw (left_current o s b (sound.current_stale b e) e) (le_refl _)
works_left o f s sound (WorksOn.begins b queue idle stands stale earlier lists) = rw (left_elsewhere o s b stale (none_some idle)) (left_begins o f s.values b queue lists)

module _ {G : Type 0} (o : Opening G) (f : Accepted o) (s s' : State G) (sound : Sound o s) (st : Steps o s s') where
  -- after the step it has at most that
  left_after : steps_left o s' st.block ≤ left_in o s'.values st.block s'.queue
  left_after = elim (passes? (s'.settled st.block)) [
    | yes h ↦ rw (left_settled o s' st.block h) (omega arith)
    | no stale ↦ elim (empty? s'.queue) [
      | yes e ↦ absurd (stale (rw ((st.settles e).1 st.block) (left_passes (eqb st.block st.block) (s.settled st.block) (eqb_refl st.block))))
      | no n ↦ rw (left_current o s' st.block (fails (s'.settled st.block) stale) (st.stays_current n).0) (le_refl _)
    ]
  ]

  pub step_lowers : steps_left o s' st.block < steps_left o s st.block
  step_lowers = omega (arith, left_after, left_falls o f s s' st (head_ready o f s s' sound st), works_left o f s sound st.works_on)

  -- any other block has no more steps left than before
  pub step_leaves : (c : ℕ) → (c ≡ st.block → ⊥) → steps_left o s' c ≤ steps_left o s c
  step_leaves c other = elim (passes? (s.settled c)) [
    | yes h ↦ rw (left_settled o s' c (step_lasts o f s s' sound st c h).settled) (omega arith)
    | no stale ↦
        let stale' : T (s'.settled c) → ⊥ = λ h. elim (newly_settled o f s s' sound st c h) [ inl new ↦ other new.0 | inr old ↦ stale old ] in
        rw (left_elsewhere o s c (fails (s.settled c) stale) (λ e. other (works_only o s st.works_on c e)), left_elsewhere o s' c (fails (s'.settled c) stale') (λ e. other (current_after o f s s' sound st c e).0)) (le_refl _)
  ]

module _ {G : Type 0} (o : Opening G) (f : Accepted o) (tag node : ℕ) (grade : G) (s s' : State G) (r : Retags o tag node grade s s') (b : ℕ) where
  -- a block that a retag reaches has all its steps left
  pub retag_renews : Reaches o.query tag b → steps_left o s' b ≤ all_of o b
  retag_renews reached = rw (left_elsewhere o s' b (r.reached_stale b reached) (λ e. (current_before o f tag node grade s s' r b e).1.0 reached)) (le_refl _)

  -- any other has no more left than before
  pub retag_leaves : (Reaches o.query tag b → ⊥) → steps_left o s' b ≤ steps_left o s b
  retag_leaves not = elim (passes? (s.settled b)) [
    | yes h ↦ rw (left_settled o s' b (rw (r.unreached_settled b not) h)) (omega arith)
    | no stale ↦
        let was : s.settled b ≡ false = fails (s.settled b) stale in
        let is : s'.settled b ≡ false = r.unreached_settled b not ∙ was in
        elim (option? s.current b) [
          | yes e ↦
              let on = r.unreached_current b not e in
              rw (left_current o s b was e, left_current o s' b is on.0, on.1) (left_stays o f s.values s'.values b s.queue (unreached_own o f tag node grade s s' r b not) (unreached_read o f tag node grade s s' r b not))
          | no idle ↦ rw (left_elsewhere o s b was idle, left_elsewhere o s' b is (λ e. idle (current_before o f tag node grade s s' r b e).0)) (le_refl _)
        ]
  ]
