-- Every call has an answer in every sound state.
use Rattle.std.proofs.Common.{◌≡◌, ℕ, zero, suc, ◌<◌, ◌≤◌, Bool, true, false, T, ◌⊎◌, List, [], ◌∷◌, length, Some, None, Option, refl, ap, inl, inr, arith}
use native.Mathlib.Decide.{ℕ_discrete, dec_lt}
use Rattle.grades.specs.Kind.{Says}
use Rattle.queries.specs.Table.{block_of}
use Rattle.surveys.specs.declared.refusal.SurveyRefusal.TheVariants.{NotInSurvey, NotSettled, AllSettled}
use Rattle.surveys.specs.Places.{Place}
use Rattle.surveys.specs.Rules.{Opening, State, WorksOn, Steps, Makes, EveryBlockSettled}
use Rattle.surveys.specs.Calls.{Call, Answer, Calls, Does, Course}
use Rattle.surveys.specs.Promise.{asked}
use Rattle.surveys.proofs.Courses.{sound_does}
use Rattle.surveys.proofs.Decisions.{grade?, fails_not}
use Rattle.surveys.proofs.Entries.{entries, queued, some_entry}
use Rattle.surveys.proofs.Possible.{some_step, some_retag}
use Rattle.surveys.proofs.Reaching.{reaches?}
use Rattle.surveys.proofs.Readings.{Accepted}
use Rattle.surveys.proofs.Sound.{Sound}
use Rattle.surveys.proofs.Stepped.{sound_steps}

-- all blocks below n are settled, or there is a first that is not
first_stale_lem : (settled : ℕ → Bool) (n : ℕ) → ((c : ℕ) → c < n → T (settled c)) ⊎ ((b : ℕ) × ((b < n) × ((settled b ≡ false) × ((c : ℕ) → c < b → T (settled c)))))
first_stale_lem settled zero = inl (λ c h. absurd (omega arith))
first_stale_lem settled (suc n) = elim (first_stale_lem settled n) [
  | inl all ↦ go (settled n) refl all
  | inr r ↦ inr (r.0, (let l = r.1.0 in omega arith, r.1.1))
]
  where
    go : (v : Bool) → settled n ≡ v → ((c : ℕ) → c < n → T (settled c)) → ((c : ℕ) → c < suc n → T (settled c)) ⊎ ((b : ℕ) × ((b < suc n) × ((settled b ≡ false) × ((c : ℕ) → c < b → T (settled c)))))
    go true e all = inl (λ c h. elim (ℕ_discrete c n) [ yes same ↦ rw (same, e) tt | no other ↦ all c (omega arith) ])
    go false e all = inr (n, (omega arith, (e, all)))

said : {P : Type 0} → Dec P → (b : Bool) × Says b P
said (yes p) = (true, (λ t. p, λ p. tt))
said (no n) = (false, (λ t. elim t [ ], n))

module _ {G : Type 0} (o : Opening G) (f : Accepted o) where
  all_settled? : (s : State G) → Dec (EveryBlockSettled o s)
  all_settled? s = elim (first_stale_lem s.settled (length o.query.blocks)) [ inl all ↦ yes all | inr r ↦ no (λ all. fails_not r.1.1.0 (all r.0 r.1.0)) ]

  head_steps : (s : State G) (b : ℕ) (queue : List Place) → WorksOn o s b queue → (queue ≡ [] → ⊥) → (s' : State G) × Steps o s s'
  head_steps s b [] works waits = absurd (waits refl)
  head_steps s b ((i, x) ∷ rest) works waits = let w = queued o b i x rest in (_, some_step o f s b i x rest w.0 works w.1)

  -- while not all blocks are settled a step can be made
  pub progress : (s : State G) → Sound o s → EveryBlockSettled o s ⊎ ((s' : State G) × Steps o s s')
  progress s sound = go s.current refl
    where
      go : (w : Option ℕ) → s.current ≡ w → EveryBlockSettled o s ⊎ ((s' : State G) × Steps o s s')
      go None e = elim (first_stale_lem s.settled (length o.query.blocks)) [
        | inl all ↦ inl all
        | inr r ↦ inr (head_steps s r.0 (entries o r.0).0 (WorksOn.begins r.0 (entries o r.0).0 e r.1.0 r.1.1.0 r.1.1.1 (entries o r.0).1) (some_entry o f r.0 r.1.0))
      ]
      go (Some b) e = inr (head_steps s b s.queue (WorksOn.goes_on b e) (sound.current_waits b e))

  -- a run makes its steps, or comes to the end before
  makes_run : (k : ℕ) (s : State G) → Sound o s → (n : ℕ) × ((s' : State G) × ((n ≤ k) × (Makes o n s s' × (n < k → EveryBlockSettled o s'))))
  makes_run zero s sound = (0, (s, (omega arith, (Makes.none s, λ h. absurd (omega arith)))))
  makes_run (suc k) s sound = elim (progress s sound) [
    | inl all ↦ (0, (s, (omega arith, (Makes.none s, λ h. all))))
    | inr st ↦
        let more = makes_run k st.0 (sound_steps o f s st.0 sound st.1) in
        let le = more.1.1.0 in
        (suc more.0, (more.1.0, (omega arith, (Makes.one_more more.0 s st.0 more.1.0 st.1 more.1.1.1.0, λ h. more.1.1.1.1 (omega arith)))))
  ]

  pub answered : (s : State G) → Sound o s → (c : Call G) → (v : Answer G) × ((s' : State G) × Does o s c v s')
  answered s sound (Call.retag x a g) = elim (dec_lt x o.tree.count) [
    | yes node ↦ elim (dec_lt a o.query.tags) [
      | yes tag ↦ elim (grade? f.kind (s.marks a x) g) [
        | yes same ↦ (Answer.altered false, (s, Does.leaves x a g node tag same))
        | no alters ↦ (Answer.altered true, (_, Does.retags x a g _ node tag (some_retag o a x g s (reaches? o.query f.admitted a) alters)))
      ]
      | no n ↦ (Answer.refused NotInSurvey, (s, Does.no_such_mark x a g (inr (omega arith))))
    ]
    | no n ↦ (Answer.refused NotInSurvey, (s, Does.no_such_mark x a g (inl (omega arith))))
  ]
  answered s sound Call.step = elim (progress s sound) [
    | inl all ↦ (Answer.refused AllSettled, (s, Does.nothing_left all))
    | inr st ↦ let d = said (all_settled? st.0) in (Answer.stepped d.0, (st.0, Does.steps d.0 st.0 st.1 d.1))
  ]
  answered s sound (Call.run k) =
      let r = makes_run k s sound in
      let d = said (all_settled? r.1.0) in
      (Answer.ran r.0 d.0, (r.1.0, Does.runs k r.0 d.0 r.1.0 r.1.1.0 r.1.1.1.0 d.1 r.1.1.1.1))
  answered s sound (Call.read r) = elim (dec_lt r (length o.query.terms)) [
    | yes h ↦ go h (s.settled (block_of o.query r)) refl
    | no n ↦ (Answer.refused NotInSurvey, (s, Does.no_such_term r (omega arith)))
  ]
    where
      go : r < length o.query.terms → (v : Bool) → s.settled (block_of o.query r) ≡ v → (v : Answer G) × ((s' : State G) × Does o s (Call.read r) v s')
      go h true e = (Answer.row (s.values r), (s, Does.reads r (s.values r) h (rw e tt) (λ x n. refl)))
      go h false e = (Answer.refused NotSettled, (s, Does.not_settled r h e))

  -- so has every list of calls
  pub course_for : (calls : List (Call G)) (s : State G) → Sound o s → (past : Calls G) × ((s' : State G) × ((asked past ≡ calls) × Course o s past s'))
  course_for [] s sound = ([], (s, (refl, Course.empty s)))
  course_for (c ∷ calls) s sound =
      let here = answered s sound c in
      let more = course_for calls here.1.0 (sound_does o f here.1.1 sound) in
      ((c, here.0) ∷ more.0, (more.1.0, (ap (λ cs. c ∷ cs) more.1.1.0, Course.then s here.1.0 more.1.0 c here.0 more.0 here.1.1 more.1.1.1)))
