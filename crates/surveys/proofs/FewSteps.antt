-- The steps of a list of calls are few: nodes × (1 + 2 × height) for each term, once for opening and once for each time that its block was reached.
use Rattle.std.proofs.Common.{◌≡◌, ℕ, zero, suc, ◌+◌, ◌*◌, ◌<◌, ◌≤◌, true, ◌∷◌, length, sym, ap, ◌∙◌, inl, inr, mul_assoc, mul-zero, mul-one, mul-suc, mul-add, arith}
use native.Mathlib.Decide.{dec_lt}
use Rattle.queries.specs.Table.{blocks_terms}
use Rattle.meaning.proofs.Sums.{sum}
use Rattle.surveys.specs.Calls.{Call, Answer, Calls, Does, Course, ReachedTimes, made, steps_of}
use Rattle.surveys.specs.Calls.Answer.{altered}
use Rattle.surveys.specs.Calls.Call.{retag}
use Rattle.surveys.specs.Promise.{weight}
use Rattle.surveys.specs.Rules.{Opening, State, Steps, Makes, Retags, opened}
use Rattle.surveys.proofs.Courses.{sound_does}
use Rattle.surveys.proofs.Left.{all_of}
use Rattle.surveys.proofs.ReachedTimes.{times_other, times_altered}
use Rattle.surveys.proofs.Readings.{Accepted}
use Rattle.surveys.proofs.Sound.{Sound, sound_opened}
use Rattle.surveys.proofs.Stepped.{head_ready, sound_steps}
use Rattle.surveys.proofs.StepsLeft.{steps_left, left_opened, step_lowers, step_leaves, retag_renews, retag_leaves}
use Rattle.surveys.proofs.Sums.{sum_mono, sum_falls}

module _ {G : Type 0} (o : Opening G) (f : Accepted o) where
  abbrev blocks : ℕ
  blocks = length o.query.blocks

  -- the calls reach each block that many times
  abbrev ReachedEach : Calls G → (ℕ → ℕ) → Type 0
  ReachedEach past times = (b : ℕ) → b < blocks → ReachedTimes o.query b past (times b)

  -- the steps left, and those that calls will add
  abbrev to_go : State G → (ℕ → ℕ) → ℕ
  to_go s times = sum blocks (λ b. steps_left o s b + all_of o b * times b)

  step_counts : (s s' : State G) → Sound o s → Steps o s s' → (times : ℕ → ℕ) → 1 + to_go s' times ≤ to_go s times
  step_counts s s' sound st times =
      let falls : to_go s' times < to_go s times =
      sum_falls blocks (λ b. steps_left o s' b + all_of o b * times b) (λ b. steps_left o s b + all_of o b * times b) st.block (head_ready o f s s' sound st).stands
      (omega (arith, step_lowers o f s s' sound st))
      (λ b l other. omega (arith, step_leaves o f s s' sound st b other)) in
      omega arith

  makes_count : {n : ℕ} {s s' : State G} → Makes o n s s' → Sound o s → (times : ℕ → ℕ) → n + to_go s' times ≤ to_go s times
  makes_count (Makes.none s) sound times = omega arith
  makes_count (Makes.one_more n s s' s'' st more) sound times = omega (arith, step_counts s s' sound st times, makes_count more (sound_steps o f s s' sound st) times)

  -- what a call makes, and what it then leaves to go
  abbrev Counts : State G → State G → Calls G → ℕ → (ℕ → ℕ) → Type 0
  Counts s s' more n times = (times' : ℕ → ℕ) × (ReachedEach more times' × (n + to_go s' times' ≤ to_go s times))

  module _ (s s' : State G) (more : Calls G) (times : ℕ → ℕ) where
    -- of one block, with n more reaches to come
    abbrev BlockCounts : ℕ → ℕ → Type 0
    BlockCounts b n = ReachedTimes o.query b more n × (steps_left o s' b + all_of o b * n ≤ steps_left o s b + all_of o b * times b)

    retag_block : (x a : ℕ) (g : G) → Retags o a x g s s' → (b : ℕ) → ReachedTimes o.query b ((retag x a g, altered true) ∷ more) (times b) → (n : ℕ) × BlockCounts b n
    retag_block x a g r b here = elim (times_altered here) [
      | inl z ↦ (z.0, (z.1.1.1, omega (arith, retag_renews o f a x g s s' r b z.1.1.0, ap (λ n. all_of o b * n) z.1.0, mul-suc (all_of o b) z.0)))
      | inr z ↦ (times b, (z.1, omega (arith, retag_leaves o f a x g s s' r b z.0)))
    ]

    retag_counts : (x a : ℕ) (g : G) → Retags o a x g s s' → ReachedEach ((retag x a g, altered true) ∷ more) times → Counts s s' more 0 times
    retag_counts x a g r each =
        let counts : (b : ℕ) → (n : ℕ) × (b < blocks → BlockCounts b n) = λ b. elim (dec_lt b blocks) [
          | yes l ↦ let here = retag_block x a g r b (each b l) in (here.0, λ _. here.1)
          | no out ↦ (0, λ l. absurd (out l))
        ] in
        ((λ b. (counts b).0), ((λ b l. ((counts b).1 l).0), omega (arith, sum_mono blocks (λ b. steps_left o s' b + all_of o b * (counts b).0) (λ b. steps_left o s b + all_of o b * times b) (λ b l. ((counts b).1 l).1))))

  does_counts : (s s' : State G) → Sound o s → (more : Calls G) (times : ℕ → ℕ) {c : Call G} {v : Answer G} → Does o s c v s' → ReachedEach ((c, v) ∷ more) times → Counts s s' more (made v) times
  does_counts s s' sound more times (Does.retags x a g _ node tag r) each = retag_counts s s' more times x a g r each
  does_counts s s' sound more times (Does.leaves x a g node tag is) each = (times, ((λ b l. times_other (λ h. h) (each b l)), omega arith))
  does_counts s s' sound more times (Does.no_such_mark x a g out) each = (times, ((λ b l. times_other (λ h. h) (each b l)), omega arith))
  does_counts s s' sound more times (Does.steps all _ st says) each = (times, ((λ b l. times_other (λ h. h) (each b l)), step_counts s s' sound st times))
  does_counts s s' sound more times (Does.nothing_left all) each = (times, ((λ b l. times_other (λ h. h) (each b l)), omega arith))
  does_counts s s' sound more times (Does.runs k n all _ le makes says end) each = (times, ((λ b l. times_other (λ h. h) (each b l)), makes_count makes sound times))
  does_counts s s' sound more times (Does.reads r vs h t rows) each = (times, ((λ b l. times_other (λ h. h) (each b l)), omega arith))
  does_counts s s' sound more times (Does.no_such_term r h) each = (times, ((λ b l. times_other (λ h. h) (each b l)), omega arith))
  does_counts s s' sound more times (Does.not_settled r h stale) each = (times, ((λ b l. times_other (λ h. h) (each b l)), omega arith))

  -- from any sound state on, the steps made are at most those to go
  course_counts : {s s'' : State G} {past : Calls G} → Course o s past s'' → Sound o s → (times : ℕ → ℕ) → ReachedEach past times → steps_of past ≤ to_go s times
  course_counts (Course.empty s) sound times each = omega arith
  course_counts (Course.then s s' s'' c v more does rest) sound times each =
      let here = does_counts s s' sound more times does each in
      omega (arith, here.1.1, course_counts rest (sound_does o f does sound) here.0 here.1.0)

  all_weighed : (n : ℕ) (times : ℕ → ℕ) → sum n (λ b. all_of o b + all_of o b * times b) ≡ o.tree.count * (1 + 2 * o.kind.height) * weight o.query times n
  all_weighed zero times = sym (mul-zero _)
  all_weighed (suc n) times =
      let c : ℕ = o.tree.count * (1 + 2 * o.kind.height) in
      let t : ℕ = blocks_terms o.query n in
      let w : ℕ = weight o.query times n in
      let here : c * (w + t * (1 + times n)) ≡ c * w + (c * t + c * t * times n) = rw (mul-add t 1 (times n), mul-one t, mul-add c w (t + t * times n), mul-add c t (t * times n), mul_assoc c t (times n)) in
      ap (λ x. x + (all_of o n + all_of o n * times n)) (all_weighed n times) ∙ sym here

  pub few_steps : {s : State G} (past : Calls G) → Course o (opened o) past s → (times : ℕ → ℕ) → ReachedEach past times → steps_of past ≤ o.tree.count * (1 + 2 * o.kind.height) * weight o.query times blocks
  few_steps past course times each =
      let at_first : to_go (opened o) times ≤ sum blocks (λ b. all_of o b + all_of o b * times b) = sum_mono blocks (λ b. steps_left o (opened o) b + all_of o b * times b) (λ b. all_of o b + all_of o b * times b) (λ b l. omega (arith, left_opened o b)) in
      omega (arith, all_weighed blocks times, course_counts course (sound_opened o) times each)
