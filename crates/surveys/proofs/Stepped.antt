-- A step keeps a state sound.
use Rattle.std.proofs.Common.{◌≡◌, ℕ, false, T, eqb, ◌⊎◌, List, [], ◌∷◌, ◌++◌, Some, sym, refl, ap, ◌∙◌, inl, inr, eqb→eq}
use lib.Dec.{eqb_refl}
use Rattle.queries.specs.Table.{block_of}
use Rattle.surveys.specs.Places.{Place}
use Rattle.surveys.specs.Promise.{Lasts}
use Rattle.surveys.specs.Rules.{Opening, State, WorksOn, Steps, Makes}
use Rattle.surveys.proofs.Decisions.{empty?, fails, fails_not, or_passes, left_passes, right_passes, none_some, some_some}
use Rattle.surveys.proofs.Readings.{Accepted, read_entry}
use Rattle.surveys.proofs.Ready.{Ready, ready_stays, ready_begins}
use Rattle.surveys.proofs.Taken.{ready_steps, other_block_stays}
use Rattle.surveys.proofs.Sound.{Sound}

module _ {G : Type 0} (o : Opening G) (f : Accepted o) (s : State G) (sound : Sound o s) where
  -- the block that a step works on is ready, whether it is current or begins
  pub works_ready : {b : ℕ} {queue : List Place} → WorksOn o s b queue → Ready o s.marks s.values s.settled b queue
  works_ready (WorksOn.goes_on b e) = sound.current_ready b e
  works_ready (WorksOn.begins b queue idle stands stale earlier lists) = ready_begins o f s.marks s.values s.settled b queue stands earlier (sound.untouched b stale (none_some idle)) lists

  pub works_stale : {b : ℕ} {queue : List Place} → WorksOn o s b queue → s.settled b ≡ false
  works_stale (WorksOn.goes_on b e) = sound.current_stale b e
  works_stale (WorksOn.begins b queue idle stands stale earlier lists) = stale

-- no other block is current
pub works_only : {G : Type 0} (o : Opening G) (s : State G) {b : ℕ} {queue : List Place} → WorksOn o s b queue → (c : ℕ) → s.current ≡ Some c → c ≡ b
works_only o s (WorksOn.goes_on b e) c h = some_some h e
works_only o s (WorksOn.begins b queue idle stands stale earlier lists) c h = absurd (none_some idle h)

module _ {G : Type 0} (o : Opening G) (f : Accepted o) (s s' : State G) (sound : Sound o s) (st : Steps o s s') where
  pub head_ready : Ready o s.marks s.values s.settled st.block ((st.term, st.node) ∷ st.rest)
  head_ready = works_ready o f s sound st.works_on

  -- a settled block is not the one that the step works on
  settled_other : (c : ℕ) → T (s.settled c) → c ≡ st.block → ⊥
  settled_other c h e = fails_not (works_stale o f s sound st.works_on) (rw e at h)

  -- settled blocks stay settled, with their rows
  settled_stays : (c : ℕ) → T (s.settled c) → T (s'.settled c)
  settled_stays c h = elim (empty? s'.queue) [
    | yes e ↦ rw ((st.settles e).1 c) (right_passes (eqb c st.block) (s.settled c) h)
    | no n ↦ rw ((st.stays_current n).1 c) h
  ]

  pub step_lasts : (c : ℕ) → T (s.settled c) → Lasts o c s s'
  step_lasts c h = record {
    settled = settled_stays c h;
    rows = λ i x e. sym (other_block_stays o f s s' st head_ready c i x e (λ d. settled_other c h (sym e.dealt_here ∙ d)));
  }

  pub newly_settled : (c : ℕ) → T (s'.settled c) → ((c ≡ st.block) × (s'.queue ≡ [])) ⊎ T (s.settled c)
  newly_settled c h = elim (empty? s'.queue) [
    | yes e ↦ elim (or_passes (eqb c st.block) (s.settled c) (rw ((st.settles e).1 c) at h)) [ inl same ↦ inl (eqb→eq c st.block same, e) | inr old ↦ inr old ]
    | no n ↦ inr (rw ((st.stays_current n).1 c) at h)
  ]

  pub current_after : (b : ℕ) → s'.current ≡ Some b → (b ≡ st.block) × (s'.queue ≡ [] → ⊥)
  current_after b h = elim (empty? s'.queue) [
    | yes e ↦ absurd (none_some (st.settles e).0 h)
    | no n ↦ (some_some h (st.stays_current n).0, n)
  ]

  -- a block that is then neither settled nor current is not the one of the step
  pub not_the_block : (c : ℕ) → s'.settled c ≡ false → (s'.current ≡ Some c → ⊥) → c ≡ st.block → ⊥
  not_the_block c stale idle same = elim (empty? s'.queue) [
    | yes e ↦ fails_not stale (rw ((st.settles e).1 c) (left_passes (eqb c st.block) (s.settled c) (rw same (eqb_refl st.block))))
    | no n ↦ idle (rw same (st.stays_current n).0)
  ]

  marks_same : (a x : ℕ) → s.marks a x ≡ s'.marks a x
  marks_same a x = ap (λ m. m a x) (sym st.marks_stay)

  -- the block of the step, after it
  block_after : Ready o s'.marks s'.values s'.settled st.block s'.queue
  block_after = rw st.queue (ready_stays o f s.marks s'.marks s'.values s'.values s.settled s'.settled st.block (st.rest ++ st.added) (λ a x reads n. marks_same a x) (λ i x e. refl) (λ j y reads other n. refl) (λ j reads. settled_stays (block_of o.query j)) (ready_steps o f s s' st head_ready))

  -- a settled block, after it
  settled_after : (c : ℕ) → T (s.settled c) → Ready o s'.marks s'.values s'.settled c []
  settled_after c h =
      ready_stays o f s.marks s'.marks s.values s'.values s.settled s'.settled c []
      (λ a x reads n. marks_same a x)
      (λ i x e. sym ((step_lasts c h).rows i x e))
      (λ j y reads other n. other_block_stays o f s s' st head_ready (block_of o.query j) j y (read_entry o f c j y reads n) (settled_other (block_of o.query j) ((sound.settled_ready c h).grounds j reads other)))
      (λ j reads. settled_stays (block_of o.query j))
      (sound.settled_ready c h)

  pub sound_steps : Sound o s'
  sound_steps = record {
    settled_ready = λ c h. elim (newly_settled c h) [ inl new ↦ rw new.0 (rw new.1 at block_after) | inr old ↦ settled_after c old ];
    current_ready = λ b e. rw (current_after b e).0 block_after;
    current_stale = λ b e. fails (s'.settled b) (λ h. elim (newly_settled b h) [ inl new ↦ (current_after b e).1 new.1 | inr old ↦ settled_other b old (current_after b e).0 ]);
    current_waits = λ b e. (current_after b e).1;
    untouched = λ c stale idle i x e.
        sym (other_block_stays o f s s' st head_ready c i x e (λ d. not_the_block c stale idle (sym e.dealt_here ∙ d)))
        ∙ sound.untouched c (fails (s.settled c) (λ h. fails_not stale (settled_stays c h))) (λ w. not_the_block c stale idle (works_only o s st.works_on c w)) i x e;
  }

-- so do many
pub sound_makes : {G : Type 0} (o : Opening G) → Accepted o → {n : ℕ} {s s' : State G} → Makes o n s s' → Sound o s → Sound o s'
sound_makes o f (Makes.none s) sound = sound
sound_makes o f (Makes.one_more n s s' s'' st more) sound = sound_makes o f more (sound_steps o f s s' sound st)
