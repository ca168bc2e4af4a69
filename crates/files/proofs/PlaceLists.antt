-- The places that pass a test, listed in rising order.
use Rattle.std.proofs.Common.{◌≡◌, ℕ, zero, suc, ◌<◌, ◌≤◌, Bool, true, false, ◌&&◌, ◌||◌, eqb, Decides, ◌⊎◌, List, [], ◌∷◌, sym, refl, ap, ◌∙◌, subst, inl, inr, arith}
use Rattle.std.proofs.lemmas.Bool.{false≢true, and_parts, and_from, or_cases, or_left, or_right, cases_eq, eqb-true, eq-eqb}
use Rattle.surveys.specs.Places.{Place, In, Rising, Lists}
use Rattle.surveys.proofs.Membership.{in_none, in_cons}

-- whether two places are the same
abbrev pub same_place : ℕ → ℕ → Place → Bool
same_place i x p = eqb i p.0 && eqb x p.1

pub same_place_tells : (i x : ℕ) (p : Place) → same_place i x p ≡ true → (i, x) ≡ p
same_place_tells i x p e =
    let parts = and_parts (eqb i p.0) (eqb x p.1) e in
    let first : i ≡ p.0 = eqb-true i p.0 parts.0 in
    let second : x ≡ p.1 = eqb-true x p.1 parts.1 in
    λ k. (first k, second k)

pub same_place_there : (i x j y : ℕ) → i ≡ j → x ≡ y → same_place i x (j, y) ≡ true
same_place_there i x j y e f = and_from (eqb i j) (eqb x y) (eq-eqb i j e) (eq-eqb x y f)

-- whether a place stands in a list
abbrev pub waits_in : Place → List Place → Bool
waits_in p [] = false
waits_in p (r ∷ ps) = same_place p.0 p.1 r || waits_in p ps

pub waits_decides : (p : Place) (ps : List Place) → Decides (waits_in p ps) (In p ps)
waits_decides p [] = (λ e. absurd (false≢true e), λ h. absurd (in_none h))
waits_decides p (r ∷ ps) = (
  (λ e. elim (or_cases (same_place p.0 p.1 r) (waits_in p ps) e) [
    | inl same ↦ subst (λ z. In p (z ∷ ps)) (same_place_tells p.0 p.1 r same) (In.first ps)
    | inr rest ↦ In.later r ps ((waits_decides p ps).0 rest)
  ]),
  (λ h. elim (in_cons h) [
    | inl e ↦ or_left (same_place p.0 p.1 r) (waits_in p ps) (same_place_there p.0 p.1 r.0 r.1 (ap (λ (z : Place). z.0) e) (ap (λ (z : Place). z.1) e))
    | inr rest ↦ or_right (same_place p.0 p.1 r) (waits_in p ps) ((waits_decides p ps).1 rest)
  ]),
)

-- a place in front of a list, where the test passes
abbrev pub put : Bool → Place → List Place → List Place
put true p ps = p ∷ ps
put false p ps = ps

-- the nodes below m of term i that pass, in front of a list
abbrev pub row_of : (Place → Bool) → ℕ → ℕ → List Place → List Place
row_of test i zero ps = ps
row_of test i (suc m) ps = row_of test i m (put (test (i, m)) (i, m) ps)

-- the nodes below m of the terms below n that pass, in front of a list
abbrev pub rows_of : (Place → Bool) → ℕ → ℕ → List Place → List Place
rows_of test zero m ps = ps
rows_of test (suc n) m ps = rows_of test n m (row_of test n m ps)

-- from node m of term i on
abbrev From : ℕ → ℕ → Place → Type 0
From i m p = (i < p.0) ⊎ ((p.0 ≡ i) × (m ≤ p.1))

module _ (P : Place → Type 0) (test : Place → Bool) (decides : (p : Place) → Decides (test p) (P p)) where
  abbrev ListsFrom : ℕ → ℕ → List Place → Type 0
  ListsFrom i m = Lists (λ p. P p × From i m p)

  -- the node itself, or one behind it
  here_or_behind : (i m : ℕ) (p : Place) → From i m p → ((i, m) ≡ p) ⊎ From i (suc m) p
  here_or_behind i m p (inl h) = inr (inl h)
  here_or_behind i m p (inr h) = elim (cases_eq m p.1) [
    | inl e ↦ inl (λ k. (sym h.0 k, e k))
    | inr apart ↦ inr (inr (h.0, let le = h.1 in omega arith))
  ]

  one_before : (i m : ℕ) (ps : List Place) (v : Bool) → test (i, m) ≡ v → ListsFrom i (suc m) ps → ListsFrom i m (put v (i, m) ps)
  one_before i m ps true e l = record {
    sound = λ p h. elim (in_cons h) [ inl e' ↦ rw e' ((decides (i, m)).0 e, inr (refl, omega arith)) | inr g ↦ let s = l.sound p g in (s.0, grind arith) ];
    whole = λ p h. elim (here_or_behind i m p h.1) [ inl same ↦ subst (λ z. In z ((i, m) ∷ ps)) same (In.first ps) | inr behind ↦ In.later (i, m) ps (l.whole p (h.0, behind)) ];
    rising = Rising.one_more (i, m) ps (λ r g. let s = (l.sound r g).1 in grind arith) l.rising;
  }
  one_before i m ps false e l = record {
    sound = λ p h. let s = l.sound p h in (s.0, grind arith);
    whole = λ p h. elim (here_or_behind i m p h.1) [ inl same ↦ absurd (false≢true (sym e ∙ (decides (i, m)).1 (subst P (sym same) h.0))) | inr behind ↦ l.whole p (h.0, behind) ];
    rising = l.rising;
  }

  lists_row : (i m : ℕ) (ps : List Place) → ListsFrom i m ps → ListsFrom i 0 (row_of test i m ps)
  lists_row i zero ps l = l
  lists_row i (suc m) ps l = lists_row i m _ (one_before i m ps (test (i, m)) refl l)

  module _ (m : ℕ) (bounded : (p : Place) → P p → p.1 < m) where
    -- where a term ends, the next begins
    next_row : (i : ℕ) (ps : List Place) → ListsFrom (suc i) 0 ps → ListsFrom i m ps
    next_row i ps l = record {
      sound = λ p h. let s = l.sound p h in (s.0, grind arith);
      whole = λ p h. l.whole p (h.0, let b = bounded p h.0 in let f = h.1 in grind arith);
      rising = l.rising;
    }

    lists_rows : (n : ℕ) (ps : List Place) → ListsFrom n 0 ps → ListsFrom 0 0 (rows_of test n m ps)
    lists_rows zero ps l = l
    lists_rows (suc n) ps l = lists_rows n _ (lists_row n m ps (next_row n ps l))

  pub lists_passing : (n m : ℕ) → ((p : Place) → P p → (p.0 < n) × (p.1 < m)) → Lists P (rows_of test n m [])
  lists_passing n m bounded =
      let none : ListsFrom n 0 [] = record { sound = λ p h. absurd (in_none h); whole = λ p h. let b = (bounded p h.0).0 in let f = h.1 in absurd (grind arith); rising = Rising.none } in
      let all = lists_rows m (λ p h. (bounded p h).1) n [] none in
      record { sound = λ p h. (all.sound p h).0; whole = λ p h. all.whole p (h, grind arith); rising = all.rising }
