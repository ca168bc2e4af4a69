-- Membership in lists.
use Rattle.std.proofs.Common.{◌≡◌, ◌⊎◌, List, [], ◌∷◌, ◌++◌, refl, subst, inl, inr}
use Rattle.surveys.specs.Places.{In}

pub in_none : {A : Type 0} {a : A} → In a [] → ⊥
in_none h = elim h [ ]

pub in_cons : {A : Type 0} {a b : A} {rest : List A} → In a (b ∷ rest) → (a ≡ b) ⊎ In a rest
in_cons (In.first rest) = inl refl
in_cons (In.later b rest h) = inr h

pub in_left : {A : Type 0} {a : A} (xs ys : List A) → In a xs → In a (xs ++ ys)
in_left [] ys h = elim h [ ]
in_left {a = a} (x ∷ xs) ys h = elim (in_cons h) [ inl e ↦ subst (λ z. In a (z ∷ (xs ++ ys))) e (In.first (xs ++ ys)) | inr g ↦ In.later x (xs ++ ys) (in_left xs ys g) ]

pub in_right : {A : Type 0} {a : A} (xs ys : List A) → In a ys → In a (xs ++ ys)
in_right [] ys h = h
in_right (x ∷ xs) ys h = In.later x (xs ++ ys) (in_right xs ys h)

pub in_append : {A : Type 0} {a : A} (xs ys : List A) → In a (xs ++ ys) → In a xs ⊎ In a ys
in_append [] ys h = inr h
in_append {a = a} (x ∷ xs) ys h = elim (in_cons h) [ inl e ↦ inl (subst (λ z. In a (z ∷ xs)) e (In.first xs)) | inr g ↦ elim (in_append xs ys g) [ inl l ↦ inl (In.later x xs l) | inr r ↦ inr r ] ]
