-- Decisions that the proofs make, and what tests and options tell.
use Rattle.std.proofs.Common.{◌≡◌, ℕ, Bool, true, false, ◌||◌, T, ◌⊎◌, List, [], ◌∷◌, Some, None, Option, refl, ap, subst, inl, inr}
use native.Mathlib.Decide.{ℕ_discrete}
use Rattle.grades.specs.Kind.{Kind, Below, Laws as KindLaws}

pub both : {A B : Type 0} → Dec A → (A → Dec B) → Dec (A × B)
both (yes a) d = elim (d a) [ yes b ↦ yes (a, b) | no n ↦ no (λ h. n h.1) ]
both (no n) d = no (λ h. n h.0)

pub either : {A B : Type 0} → Dec A → Dec B → Dec (A ⊎ B)
either (yes a) d = yes (inl a)
either (no n) (yes b) = yes (inr b)
either (no n) (no m) = no (λ h. elim h [ inl a ↦ n a | inr b ↦ m b ])

pub iff : {A B : Type 0} → (A → B) → (B → A) → Dec A → Dec B
iff to from (yes a) = yes (to a)
iff to from (no n) = no (λ b. n (from b))

pub not? : {A : Type 0} → Dec A → Dec (A → ⊥)
not? (yes a) = no (λ n. n a)
not? (no n) = yes n

-- whether a test passes
pub passes? : (b : Bool) → Dec (T b)
passes? true = yes tt
passes? false = no (λ h. h)

-- a test that does not pass fails, and the other way round
pub fails : (b : Bool) → (T b → ⊥) → b ≡ false
fails true h = absurd (h tt)
fails false h = refl

pub fails_not : {b : Bool} → b ≡ false → T b → ⊥
fails_not e h = subst T e h

pub or_passes : (a b : Bool) → T (a || b) → T a ⊎ T b
or_passes true b h = inl tt
or_passes false b h = inr h

pub left_passes : (a b : Bool) → T a → T (a || b)
left_passes true b h = tt
left_passes false b h = elim h [ ]

pub right_passes : (a b : Bool) → T b → T (a || b)
right_passes true b h = tt
right_passes false b h = h

-- whether an option is a number
pub option? : (w : Option ℕ) (y : ℕ) → Dec (w ≡ Some y)
option? None y = no (λ e. cc)
option? (Some x) y = iff (λ e. ap Some e) (λ e. cc) (ℕ_discrete x y)

pub none_some : {A : Type 0} {o : Option A} {a : A} → o ≡ None → o ≡ Some a → ⊥
none_some p r = cc

pub some_some : {A : Type 0} {o : Option A} {a b : A} → o ≡ Some a → o ≡ Some b → a ≡ b
some_some p r = cc

-- whether two places are the same
pub place? : (i x j y : ℕ) → Dec ((i ≡ j) × (x ≡ y))
place? i x j y = both (ℕ_discrete i j) (λ _. ℕ_discrete x y)

-- whether two grades are the same: each lies below the other
pub grade? : {G : Type 0} {k : Kind G} → KindLaws k → (x y : G) → Dec (x ≡ y)
grade? {k = k} laws x y =
    iff (λ h. laws.below_antisym x y h.0 h.1) (λ e. (subst (Below k x) e (laws.below_refl x), subst (λ z. Below k z x) e (laws.below_refl x)))
    (both (passes? (k.below x y)) (λ _. passes? (k.below y x)))

-- whether a list is empty
pub empty? : {A : Type 0} (xs : List A) → Dec (xs ≡ [])
empty? [] = yes refl
empty? (x ∷ xs) = no (λ e. cc)
