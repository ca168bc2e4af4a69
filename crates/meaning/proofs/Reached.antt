-- A block's best solution is what enough rounds from its start values give: each round moves some entry further, or nothing.
use Rattle.std.proofs.Common.{◌≡◌, ℕ, zero, suc, ◌*◌, ◌<◌, ◌≤◌, ◌⊎◌, length, sym, ◌∙◌, subst, inl, inr, le_refl, arith}
use Rattle.std.proofs.lemmas.Bool.{cases_eq}
use Rattle.grades.specs.Kind.{Kind}
use Rattle.shapes.specs.Tree.{Tree}
use Rattle.queries.specs.Table.{Table, term_at, block_of, direction}
use Rattle.meaning.specs.Solutions.{Grades, Entry, Solves, AgreeBefore, Best, grade_of_lem}
use Rattle.meaning.specs.Rounds.{start, after, enough}
use Rattle.meaning.proofs.Agreement.{agree_sym, agree_trans}
use Rattle.meaning.proofs.Better.{distance, distance_bounded, further, better_equal, better_antisym}
use Rattle.meaning.proofs.Monotone.{Lawful}
use Rattle.meaning.proofs.Rounds.{after_agrees, after_elsewhere, started_here, advanced_here, rounds_rise, rounds_better, repeats_solves, solved_stays}
use Rattle.meaning.proofs.Sums.{sum, sum_bounded, sum_grows}

module _ {G : Type 0} {k : Kind G} {t : Tree} {q : Table} (lawful : Lawful k t q) (marks : Grades G) (b : ℕ) (v : Grades G) where
  -- block b after n rounds
  abbrev at : ℕ → Grades G
  at n = after k t q marks b v n

  -- how far an entry, and all entries together, are from the start values after n rounds
  abbrev distance_at : ℕ → ℕ → ℕ → ℕ
  distance_at n i x = distance k (direction q i) (at n i x)

  abbrev distance_of_all : ℕ → ℕ
  distance_of_all n = sum (length q.terms) (λ i. sum t.count (distance_at n i))

  all_bounded : (n : ℕ) → distance_of_all n ≤ enough k t q
  all_bounded n = sum_bounded (length q.terms) _ (t.count * k.height) λ i _. sum_bounded t.count (distance_at n i) k.height λ x _. distance_bounded lawful.kind (direction q i) (at n i x)

  Repeats : ℕ → ℕ → ℕ → Type 0
  Repeats n i x = at n i x ≡ at (suc n) i x

  -- in a round each entry repeats or moves further from its start value
  repeats_or_further : (n i x : ℕ) → i < length q.terms → x < t.count → (Repeats n i x × (distance_at n i x ≤ distance_at (suc n) i x)) ⊎ (distance_at n i x < distance_at (suc n) i x)
  unfolding Repeats
  repeats_or_further n i x hi hx =
      elim (cases_eq (block_of q i) b) [
        | inl e ↦ further lawful.kind (direction q i) (at n i x) (at (suc n) i x) (rounds_rise lawful marks b v n i x (record { term = hi; dealt_here = e; node = hx }))
        | inr ne ↦ further lawful.kind (direction q i) (at n i x) (at (suc n) i x) (better_equal lawful.kind (direction q i) (at n i x) (at (suc n) i x) (after_elsewhere k t q marks b v i x ne n ∙ sym (after_elsewhere k t q marks b v i x ne (suc n))))
      ]

  -- a round repeats all entries, or their distance grows
  round_repeats_or_grows : (n : ℕ) → (((i : ℕ) → i < length q.terms → (x : ℕ) → x < t.count → Repeats n i x) × (distance_of_all n ≤ distance_of_all (suc n))) ⊎ (distance_of_all n < distance_of_all (suc n))
  round_repeats_or_grows n = sum_grows (length q.terms) (λ i. sum t.count (distance_at n i)) (λ i. sum t.count (distance_at (suc n) i)) (λ i. (x : ℕ) → x < t.count → Repeats n i x) λ i hi. sum_grows t.count (distance_at n i) (distance_at (suc n) i) (Repeats n i) λ x hx. repeats_or_further n i x hi hx

  onwards : (n : ℕ) → n ≤ distance_of_all n → Solves k t q marks b (at n) ⊎ (n < distance_of_all (suc n))
  unfolding Repeats
  onwards n h =
      elim (round_repeats_or_grows n) [
        | inl same ↦ inl (repeats_solves lawful marks b v n (λ i x e. same.0 i e.term x e.node))
        | inr g ↦ inr (omega arith)
      ]

  -- each round solves, or the distance has passed the number of rounds
  solved_or_far : (n : ℕ) → Solves k t q marks b (at n) ⊎ (n < distance_of_all (suc n))
  solved_or_far zero = onwards zero (omega arith)
  solved_or_far (suc n) =
      elim (solved_or_far n) [
        | inl s ↦ inl (solved_stays lawful marks b v n s)
        | inr h ↦ onwards (suc n) h
      ]

  -- after enough rounds, and ever after, the block is solved
  pub rounds_solve : (n : ℕ) → enough k t q ≤ n → Solves k t q marks b (at n)
  rounds_solve n h =
      elim (solved_or_far n) [
        | inl s ↦ s
        | inr far ↦ absurd (omega (arith, all_bounded (suc n)))
      ]

  pub rounds_best : (n : ℕ) → enough k t q ≤ n → Best k t q marks b (at n)
  rounds_best n h = record {
    solves = rounds_solve n h;
    best = λ w agree solves. rounds_better lawful marks b v w (agree_trans t q b v (at n) w (after_agrees k t q marks b v n) agree) solves n;
  }

-- two best solutions of a block over the same earlier blocks are the same at its entries
pub best_unique : {G : Type 0} {k : Kind G} {t : Tree} {q : Table} → Lawful k t q → (marks : Grades G) (b : ℕ) (v w : Grades G) → AgreeBefore t q b v w → Best k t q marks b v → Best k t q marks b w → (i x : ℕ) → Entry q t b i x → v i x ≡ w i x
best_unique {t = t} {q = q} lawful marks b v w agree best best' i x e =
    better_antisym lawful.kind (direction q i) (v i x) (w i x)
    (best.best w agree best'.solves i x e)
    (best'.best v (agree_sym t q b v w agree) best.solves i x e)

-- a block's best solution is what enough rounds give
pub best_reached : {G : Type 0} {k : Kind G} {t : Tree} {q : Table} → Lawful k t q → (marks : Grades G) (b : ℕ) (v : Grades G) → Best k t q marks b v → (n : ℕ) → enough k t q ≤ n → (i x : ℕ) → Entry q t b i x → v i x ≡ after k t q marks b v n i x
best_reached {k = k} {t = t} {q = q} lawful marks b v best n h = best_unique lawful marks b v (after k t q marks b v n) (after_agrees k t q marks b v n) best (rounds_best lawful marks b v n h)

-- P holds at every entry of block b
abbrev pub AtEntries : {G : Type 0} → Tree → Table → ℕ → (ℕ → ℕ → G → Type 0) → Grades G → Type 0
AtEntries t q b P w = (i x : ℕ) → Entry q t b i x → P i x (w i x)

-- what holds of the start values, and after a round if before it, holds of a block's best solution
module _ {G : Type 0} {k : Kind G} {t : Tree} {q : Table} (lawful : Lawful k t q) (marks : Grades G) (b : ℕ) (v : Grades G) (P : ℕ → ℕ → G → Type 0) (first : (i x : ℕ) → Entry q t b i x → P i x (start k (direction q i))) (next : (w : Grades G) → AgreeBefore t q b v w → AtEntries t q b P w → (i x : ℕ) → Entry q t b i x → P i x (grade_of_lem k t marks w (term_at q i) x)) where
  rounds_keep : (n : ℕ) → AtEntries t q b P (after k t q marks b v n)
  rounds_keep zero i x e = subst (P i x) (sym (started_here k t q marks b v i x e.dealt_here)) (first i x e)
  rounds_keep (suc n) i x e =
      let before : Grades G = after k t q marks b v n in
      subst (P i x) (sym (advanced_here k t q marks b before i x e.dealt_here)) (next before (after_agrees k t q marks b v n) (rounds_keep n) i x e)

  pub best_induction : Best k t q marks b v → AtEntries t q b P v
  best_induction best i x e = subst (P i x) (sym (best_reached lawful marks b v best (enough k t q) (le_refl (enough k t q)) i x e)) (rounds_keep (enough k t q) i x e)
