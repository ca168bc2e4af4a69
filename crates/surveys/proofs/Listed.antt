-- The places of which a decided fact holds can be listed in rising order.
use Rattle.std.proofs.Common.{◌≡◌, ℕ, zero, suc, ◌+◌, ◌<◌, ◌≤◌, ◌⊎◌, List, [], ◌∷◌, sym, refl, subst, inl, inr, arith}
use native.Mathlib.Decide.{ℕ_discrete}
use Rattle.surveys.specs.Places.{Place, In, Rising, Lists}
use Rattle.surveys.proofs.Membership.{in_none, in_cons}
use Rattle.surveys.proofs.Decisions.{place?}

-- a list of the same places
lists_as : (P Q : Place → Type 0) (ps : List Place) → ((p : Place) → P p → Q p) → ((p : Place) → Q p → P p) → Lists P ps → Lists Q ps
lists_as P Q ps to from l = record { sound = λ p h. to p (l.sound p h); whole = λ p h. l.whole p (from p h); rising = l.rising }

-- from node x of term i on
abbrev After : ℕ → ℕ → Place → Type 0
After i x p = (i < p.0) ⊎ ((p.0 ≡ i) × (x ≤ p.1))

module _ (P : Place → Type 0) (decide : (p : Place) → Dec (P p)) (n m : ℕ) (bounded : (p : Place) → P p → (p.0 < n) × (p.1 < m)) where
  -- one place more in front
  one_in_front : (i x : ℕ) (ps : List Place) → P (i, x) → Lists (λ p. P p × After i (suc x) p) ps → Lists (λ p. P p × After i x p) ((i, x) ∷ ps)
  one_in_front i x ps here l = record {
    sound = λ p h. elim (in_cons h) [ inl e ↦ rw e (here, inr (refl, omega arith)) | inr g ↦ let s = l.sound p g in (s.0, elim s.1 [ inl a ↦ inl a | inr a ↦ inr (a.0, let le = a.1 in omega arith) ]) ];
    whole = λ p h. elim (place? p.0 p.1 i x) [
      | yes e ↦ subst (λ r. In r ((i, x) ∷ ps)) (λ k. (sym e.0 k, sym e.1 k)) (In.first ps)
      | no n ↦ In.later (i, x) ps (l.whole p (h.0, elim h.1 [ inl a ↦ inl a | inr a ↦ inr (a.0, let other : p.1 ≡ x → ⊥ = λ same. n (a.0, same) in let le = a.1 in omega arith) ]))
    ];
    rising = Rising.one_more (i, x) ps (λ r g. elim (l.sound r g).1 [ inl a ↦ inl a | inr a ↦ inr (sym a.0, a.1) ]) l.rising;
  }

  -- the row of term i from node x on, in front of the later rows
  row_from : (i x k : ℕ) → x + k ≡ m → (later : List Place) → Lists (λ p. P p × (i < p.0)) later → (ps : List Place) × Lists (λ p. P p × After i x p) ps
  row_from i x zero end later l = (later, lists_as (λ p. P p × (i < p.0)) (λ p. P p × After i x p) later (λ p h. (h.0, inl h.1)) (λ p h. (h.0, elim h.1 [ inl a ↦ a | inr a ↦ let b = (bounded p h.0).1 in let le = a.1 in let none : ⊥ = omega arith in absurd none ])) l)
  row_from i x (suc k) end later l =
      let next = row_from i (suc x) k (omega arith) later l in
      elim (decide (i, x)) [
        | yes here ↦ ((i, x) ∷ next.0, one_in_front i x next.0 here next.1)
        | no not ↦ (next.0, lists_as (λ p. P p × After i (suc x) p) (λ p. P p × After i x p) next.0 (λ p h. (h.0, elim h.1 [ inl a ↦ inl a | inr a ↦ inr (a.0, let le = a.1 in omega arith) ])) (λ p h. (h.0, elim h.1 [ inl a ↦ inl a | inr a ↦ inr (a.0, let other : p.1 ≡ x → ⊥ = λ same. not (subst P (λ k. (a.0 k, same k)) h.0) in let le = a.1 in omega arith) ])) next.1)
      ]

  -- the rows from term i on
  rows_from : (i k : ℕ) → i + k ≡ n → (ps : List Place) × Lists (λ p. P p × (i ≤ p.0)) ps
  rows_from i zero end = ([], record { sound = λ p h. absurd (in_none h); whole = λ p h. let b = (bounded p h.0).0 in let le = h.1 in let none : ⊥ = omega arith in absurd none; rising = Rising.none })
  rows_from i (suc k) end =
      let later = rows_from (suc i) k (omega arith) in
      let row = row_from i 0 m (omega arith) later.0 later.1 in
      (row.0, lists_as (λ p. P p × After i 0 p) (λ p. P p × (i ≤ p.0)) row.0 (λ p h. (h.0, elim h.1 [ inl a ↦ omega arith | inr a ↦ let e = a.0 in omega arith ])) (λ p h. (h.0, earlier_or_same p h.1)) row.1)
    where
      earlier_or_same : (p : Place) → i ≤ p.0 → After i 0 p
      earlier_or_same p le = elim (ℕ_discrete p.0 i) [ yes e ↦ inr (e, omega arith) | no other ↦ inl (omega arith) ]

  pub listed : (ps : List Place) × Lists P ps
  listed = let all = rows_from 0 n (omega arith) in (all.0, lists_as (λ p. P p × (0 ≤ p.0)) P all.0 (λ p h. h.0) (λ p h. (h, omega arith)) all.1)
