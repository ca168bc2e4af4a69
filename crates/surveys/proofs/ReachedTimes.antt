-- How often a block was reached: every list of calls has a number of times, and one only.
use Rattle.std.proofs.Common.{◌≡◌, ℕ, suc, true, ◌⊎◌, ◌∷◌, sym, refl, ap, ◌∙◌, inl, inr, arith}
use Rattle.queries.specs.Table.{Table, Admitted, Reaches}
use Rattle.surveys.specs.Calls.{Call, Answer, Calls, Does, Course, ReachedTimes, Altered}
use Rattle.surveys.specs.Calls.Answer.{altered}
use Rattle.surveys.specs.Calls.Call.{retag}
use Rattle.surveys.specs.Calls.ReachedTimes.{empty, reached, unreached, other}
use Rattle.surveys.specs.Rules.{Opening, State}
use Rattle.surveys.proofs.Reaching.{reaches?}

module _ {G : Type 0} {q : Table} {b : ℕ} where
  -- a call that alters no mark counts nothing
  pub times_other : {c : Call G} {v : Answer G} {more : Calls G} {n : ℕ} → (Altered v → ⊥) → ReachedTimes q b ((c, v) ∷ more) n → ReachedTimes q b more n
  times_other none (reached x a n g more r h) = absurd (none tt)
  times_other none (unreached x a n g more r h) = absurd (none tt)
  times_other none (other c v n more d h) = h

  -- a retag that alters a mark reaches the block or not
  pub times_altered : {x a : ℕ} {g : G} {more : Calls G} {n : ℕ} → ReachedTimes q b ((retag x a g, altered true) ∷ more) n → ((m : ℕ) × ((n ≡ suc m) × (Reaches q a b × ReachedTimes q b more m))) ⊎ ((Reaches q a b → ⊥) × ReachedTimes q b more n)
  times_altered (reached x a n g more r h) = inl (n, (refl, (r, h)))
  times_altered (unreached x a n g more r h) = inr (r, h)
  times_altered (other c v n more d h) = absurd (d tt)

  -- where the block was never reached
  pub times_unreached : {x a : ℕ} {g : G} {more : Calls G} → ReachedTimes q b ((retag x a g, altered true) ∷ more) 0 → Reaches q a b → ⊥
  times_unreached times r = elim (times_altered times) [ inl z ↦ let e = z.1.0 in omega arith | inr z ↦ z.0 r ]

  pub times_before : {c : Call G} {v : Answer G} {more : Calls G} → ReachedTimes q b ((c, v) ∷ more) 0 → ReachedTimes q b more 0
  times_before times = rest times refl
    where
      rest : {c : Call G} {v : Answer G} {more : Calls G} {n : ℕ} → ReachedTimes q b ((c, v) ∷ more) n → n ≡ 0 → ReachedTimes q b more n
      rest (reached x a n g more r h) e = absurd (omega arith)
      rest (unreached x a n g more r h) e = h
      rest (other c v n more d h) e = h

-- one number only
pub times_once : {G : Type 0} {q : Table} {b : ℕ} {past : Calls G} {n m : ℕ} → ReachedTimes q b past n → ReachedTimes q b past m → n ≡ m
times_once empty empty = refl
times_once (reached x a n g more r h) k = elim (times_altered k) [ inl z ↦ ap suc (times_once h z.1.1.1) ∙ sym z.1.0 | inr z ↦ absurd (z.0 r) ]
times_once (unreached x a n g more d h) k = elim (times_altered k) [ inl z ↦ absurd (d z.1.1.0) | inr z ↦ times_once h z.1 ]
times_once (other c v n more d h) k = times_once h (times_other d k)

module _ {G : Type 0} (o : Opening G) (admitted : Admitted o.query) (b : ℕ) where
  times_does : {s s' : State G} {c : Call G} {v : Answer G} → Does o s c v s' → (n : ℕ) (more : Calls G) → ReachedTimes o.query b more n → (m : ℕ) × ReachedTimes o.query b ((c, v) ∷ more) m
  times_does (Does.retags x a g s' node tag r) n more times = elim (reaches? o.query admitted a b) [ yes r ↦ (suc n, reached x a n g more r times) | no not ↦ (n, unreached x a n g more not times) ]
  times_does (Does.leaves x a g node tag same) n more times = (n, other _ _ n more (λ h. h) times)
  times_does (Does.no_such_mark x a g h) n more times = (n, other _ _ n more (λ h. h) times)
  times_does (Does.steps all s' st says) n more times = (n, other _ _ n more (λ h. h) times)
  times_does (Does.nothing_left h) n more times = (n, other _ _ n more (λ h. h) times)
  times_does (Does.runs k m all s' le makes says end) n more times = (n, other _ _ n more (λ h. h) times)
  times_does (Does.reads r vs h t rows) n more times = (n, other _ _ n more (λ h. h) times)
  times_does (Does.no_such_term r h) n more times = (n, other _ _ n more (λ h. h) times)
  times_does (Does.not_settled r h e) n more times = (n, other _ _ n more (λ h. h) times)

  -- along every list of calls the times are counted
  pub times_of : {s s' : State G} {past : Calls G} → Course o s past s' → (n : ℕ) × ReachedTimes o.query b past n
  times_of (Course.empty s) = (0, empty)
  times_of (Course.then s s' s'' c v more does rest) = let h = times_of rest in times_does does h.0 more h.1
