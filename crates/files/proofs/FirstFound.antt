-- Of causes that are decided, the first is found, or there is none.
use Rattle.std.proofs.Common.{◌≡◌, ℕ, zero, suc, ◌<◌, ◌⊎◌, refl, sym, ◌∙◌, subst, inl, inr, arith}
use Rattle.std.proofs.lemmas.Bool.{cases_lt, cases_eq}
use Rattle.files.specs.Causes.{Before, Sooner}

sooner_itself : (n : ℕ) → Sooner n n
sooner_itself n = elim (cases_eq n 12) [ inl e ↦ inl e | inr d ↦ inr (d, omega arith) ]

sooner_either : (n m : ℕ) → Sooner n m ⊎ Sooner m n
sooner_either n m = elim (cases_eq n 12) [
  | inl e ↦ inl (inl e)
  | inr d ↦ elim (cases_eq m 12) [
    | inl e ↦ inr (inl e)
    | inr d' ↦ elim (cases_lt m n) [ inl l ↦ inr (inr (d, omega arith)) | inr l ↦ inl (inr (d', l)) ]
  ]
]

sooner_on : (n m k : ℕ) → Sooner n m → Sooner m k → Sooner n k
sooner_on n m k (inl e) t = inl e
sooner_on n m k (inr s) (inl e) = absurd (s.0 e)
sooner_on n m k (inr s) (inr t) = inr (t.0, omega (arith, s.1, t.1))

before_either : (n l m k : ℕ) → Before n l m k ⊎ Before m k n l
before_either n l m k = elim (cases_lt l k) [
  | inl a ↦ inl (inl a)
  | inr b ↦ elim (cases_lt k l) [
    | inl a ↦ inr (inl a)
    | inr c ↦
        let e : l ≡ k = omega arith in
        elim (sooner_either n m) [ inl s ↦ inl (inr (e, s)) | inr s ↦ inr (inr (sym e, s)) ]
  ]
]

before_on : (n l m k i j : ℕ) → Before n l m k → Before m k i j → Before n l i j
before_on n l m k i j (inl a) (inl b) = inl (omega arith)
before_on n l m k i j (inl a) (inr b) = inl (omega (arith, b.0))
before_on n l m k i j (inr a) (inl b) = inl (omega (arith, a.0))
before_on n l m k i j (inr a) (inr b) = inr (a.0 ∙ b.0, sooner_on n m i a.1 b.1)

-- the first of some causes, of all those that J names; or J names none
pub record First (K J : ℕ → ℕ → Type 0) : Type 0 where
  pub number : ℕ
  pub line : ℕ
  pub has : K number line
  pub least : (m k : ℕ) → J m k → Before number line m k

abbrev pub Found : (K J : ℕ → ℕ → Type 0) → Type 0
Found K J = First K J ⊎ ((n l : ℕ) → J n l → ⊥)

-- A, with one number and one line
pub data At (A : Type 0) (n l : ℕ) : ℕ → ℕ → Type 0 where
  at : A → At A n l n l

-- one of a row of causes
abbrev pub Some : (ℕ → ℕ → ℕ → Type 0) → ℕ → ℕ → ℕ → Type 0
Some J m n l = (x : ℕ) × ((x < m) × J x n l)

module _ {K : ℕ → ℕ → Type 0} where
  pub one_found : {A : Type 0} (n l : ℕ) → (A → K n l) → Dec A → Found K (At A n l)
  one_found {A = A} n l cause (yes a) = inl (record { number = n; line = l; has = cause a; least = λ m k. alone })
    where
      alone : {m k : ℕ} → At A n l m k → Before n l m k
      alone (at b) = inr (refl, sooner_itself n)
  one_found {A = A} n l cause (no not) = inr (λ m k. none)
    where
      none : {m k : ℕ} → At A n l m k → ⊥
      none (at b) = not b

  pub named_found : {J J' : ℕ → ℕ → Type 0} → ((n l : ℕ) → J' n l → J n l) → Found K J → Found K J'
  named_found names (inl f) = inl (record { number = f.number; line = f.line; has = f.has; least = λ m k h. f.least m k (names m k h) })
  named_found names (inr none) = inr (λ n l h. none n l (names n l h))

  pub either_found : {J J' : ℕ → ℕ → Type 0} → Found K J → Found K J' → Found K (λ n l. J n l ⊎ J' n l)
  either_found (inr none) (inr none') = inr (λ n l h. elim h [ inl p ↦ none n l p | inr p ↦ none' n l p ])
  either_found (inl f) (inr none) = inl (record { number = f.number; line = f.line; has = f.has; least = λ m k h. elim h [ inl p ↦ f.least m k p | inr p ↦ absurd (none m k p) ] })
  either_found (inr none) (inl f) = inl (record { number = f.number; line = f.line; has = f.has; least = λ m k h. elim h [ inl p ↦ absurd (none m k p) | inr p ↦ f.least m k p ] })
  either_found (inl f) (inl g) = elim (before_either f.number f.line g.number g.line) [
    | inl b ↦ inl (record { number = f.number; line = f.line; has = f.has; least = λ m k h. elim h [ inl p ↦ f.least m k p | inr p ↦ before_on _ _ _ _ m k b (g.least m k p) ] })
    | inr b ↦ inl (record { number = g.number; line = g.line; has = g.has; least = λ m k h. elim h [ inl p ↦ before_on _ _ _ _ m k b (f.least m k p) | inr p ↦ g.least m k p ] })
  ]

  pub some_found : (J : ℕ → ℕ → ℕ → Type 0) (m : ℕ) → ((x : ℕ) → x < m → Found K (J x)) → Found K (Some J m)
  some_found J zero f = inr (λ n l h. let none = h.1.0 in omega arith)
  some_found J (suc m) f = named_found names (either_found (f m (omega arith)) (some_found J m (λ x l. f x (omega arith))))
    where
      names : (n l : ℕ) → Some J (suc m) n l → J m n l ⊎ Some J m n l
      names n l (x, (less, h)) = elim (cases_eq x m) [ inl e ↦ inl (subst (λ y. J y n l) e h) | inr d ↦ inr (x, (omega arith, h)) ]
