-- A list of places in rising order is told by what it has.
use Rattle.std.proofs.Common.{◌≡◌, List, ◌∷◌, sym, refl, ap, ◌∙◌, ap₂, inl, inr, arith}
use Rattle.surveys.specs.Places.{Place, In, Before, Rising, Lists}
use Rattle.surveys.specs.Places.In.{first, later}
use Rattle.surveys.specs.Places.Rising.{none, one_more}
use Rattle.surveys.proofs.Membership.{in_none, in_cons}

pub not_before_itself : (p r : Place) → p ≡ r → Before p r → ⊥
not_before_itself p r e b = let e0 = ap (λ (x : Place). x.0) e in let e1 = ap (λ (x : Place). x.1) e in omega arith

pub not_both_ways : (p r : Place) → Before p r → Before r p → ⊥
not_both_ways p r b c = omega arith

-- the heads of two rising lists of the same places are the same
same_head : {p r : Place} {ps rs : List Place} → ((z : Place) → In z ps → Before p z) → ((z : Place) → In z rs → Before r z) → In p (r ∷ rs) → In r (p ∷ ps) → p ≡ r
same_head {p = p} {r = r} before before' h g = elim (in_cons h) [
  | inl e ↦ e
  | inr h' ↦ elim (in_cons g) [ inl e ↦ sym e | inr g' ↦ absurd (not_both_ways p r (before r g') (before' p h')) ]
]

same_rest : {p r : Place} {ps rs : List Place} → p ≡ r → ((z : Place) → In z ps → Before p z) → ((z : Place) → In z (p ∷ ps) → In z (r ∷ rs)) → (z : Place) → In z ps → In z rs
same_rest {p = p} {r = r} {ps = ps} e before inside z h = elim (in_cons (inside z (later p ps h))) [ inl head ↦ absurd (not_before_itself p z (e ∙ sym head) (before z h)) | inr h' ↦ h' ]

rising_once : {ps rs : List Place} → Rising ps → Rising rs → ((p : Place) → In p ps → In p rs) → ((p : Place) → In p rs → In p ps) → ps ≡ rs
rising_once none none to from = refl
rising_once none (one_more p ps before r) to from = absurd (in_none (from p (first ps)))
rising_once (one_more p ps before r) none to from = absurd (in_none (to p (first ps)))
rising_once (one_more p ps before r) (one_more p' ps' before' r') to from =
    let e : p ≡ p' = same_head before before' (to p (first ps)) (from p' (first ps')) in
    ap₂ ◌∷◌ e (rising_once r r' (same_rest e before to) (same_rest (sym e) before' from))

-- the places of which P holds are listed in one way
pub listed_once : {P : Place → Type 0} {ps rs : List Place} → Lists P ps → Lists P rs → ps ≡ rs
listed_once l m = rising_once l.rising m.rising (λ p h. m.whole p (l.sound p h)) (λ p h. l.whole p (m.sound p h))
