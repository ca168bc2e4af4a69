-- How sums fall, over the numbers below a bound and over lists of places.
use Rattle.std.proofs.Common.{◌≡◌, ℕ, zero, suc, ◌+◌, ◌<◌, ◌≤◌, List, [], ◌∷◌, length, sum_by, sym, ◌∙◌, subst, inl, inr, arith}
use native.Mathlib.Decide.{ℕ_discrete}
use Rattle.std.proofs.lemmas.List.Sums.{sum_by-cons}
use Rattle.meaning.proofs.Sums.{sum}
use Rattle.surveys.specs.Places.{Place, In, Before, Rising}
use Rattle.surveys.specs.Places.In.{first, later}
use Rattle.surveys.specs.Places.Rising.{none, one_more}
use Rattle.surveys.proofs.Membership.{in_none, in_cons}
use Rattle.surveys.proofs.Order.{not_before_itself, not_both_ways}

pub sum_mono : (n : ℕ) (f g : ℕ → ℕ) → ((b : ℕ) → b < n → f b ≤ g b) → sum n f ≤ sum n g
sum_mono zero f g h = omega arith
sum_mono (suc n) f g h = omega (arith, sum_mono n f g (λ b l. h b (omega arith)), h n (omega arith))

-- a sum that falls at c and rises nowhere falls
pub sum_falls : (n : ℕ) (f g : ℕ → ℕ) (c : ℕ) → c < n → f c < g c → ((b : ℕ) → b < n → (b ≡ c → ⊥) → f b ≤ g b) → sum n f < sum n g
sum_falls zero f g c l s h = absurd (omega arith)
sum_falls (suc n) f g c l s h = elim (ℕ_discrete n c) [
  | yes e ↦
      let here : f n < g n = rw e s in
      omega (arith, sum_mono n f g (λ b k. h b (omega arith) (λ d. omega arith)))
  | no d ↦ omega (arith, sum_falls n f g c (omega arith) s (λ b k. h b (omega arith)), h n (omega arith) d)
]

pub sumBy_mono : {A : Type 0} (f g : A → ℕ) (l : List A) → ((a : A) → In a l → f a ≤ g a) → sum_by f l ≤ sum_by g l
sumBy_mono f g [] h = omega arith
sumBy_mono f g (a ∷ l) h = omega (arith, sum_by-cons f a l, sum_by-cons g a l, sumBy_mono f g l (λ b i. h b (later a l i)), h a (first l))

-- an element of the list that is not at its head
not_first : {A : Type 0} {a b : A} {l : List A} → (a ≡ b → ⊥) → In a (b ∷ l) → In a l
not_first d h = elim (in_cons h) [ inl e ↦ absurd (d e) | inr i ↦ i ]

-- of two sums over places in rising order, one lies below the other by the number of places where it is less
pub sumBy_falls : (f g : Place → ℕ) (all some : List Place) → Rising all → Rising some → ((p : Place) → In p some → In p all) → ((p : Place) → In p all → g p ≤ f p) → ((p : Place) → In p some → g p < f p) → length some + sum_by g all ≤ sum_by f all
sumBy_falls f g _ _ none none inside le lt = omega arith
sumBy_falls f g _ _ none (one_more w ws before r) inside le lt = absurd (in_none (inside w (first ws)))
sumBy_falls f g _ _ (one_more e es before' r') none inside le lt =
    omega (arith, sum_by-cons f e es, sum_by-cons g e es, sumBy_falls f g es [] r' none (λ p i. absurd (in_none i)) (λ p i. le p (later e es i)) (λ p i. absurd (in_none i)), le e (first es))
sumBy_falls f g _ _ (one_more e es before' r') (one_more w ws before r) inside le lt = elim (in_cons (inside w (first ws))) [
  | inl s ↦
      let rest : length ws + sum_by g es ≤ sum_by f es =
      sumBy_falls f g es ws r' r (λ p i. not_first (λ c. not_before_itself w p (s ∙ sym c) (before p i)) (inside p (later w ws i))) (λ p i. le p (later e es i)) (λ p i. lt p (later w ws i)) in
      let here : g e < f e = rw s at (lt w (first ws)) in
      omega (arith, sum_by-cons f e es, sum_by-cons g e es)
  | inr i ↦
      let behind : (p : Place) → In p (w ∷ ws) → p ≡ e → ⊥ = λ p j c. elim (in_cons j) [
        | inl c' ↦ not_before_itself e w (sym c ∙ c') (before' w i)
        | inr j' ↦ not_both_ways e w (before' w i) (subst (λ (x : Place). Before w x) c (before p j'))
      ] in
      let rest : suc (length ws) + sum_by g es ≤ sum_by f es =
      sumBy_falls f g es (w ∷ ws) r' (one_more w ws before r) (λ p j. not_first (behind p j) (inside p j)) (λ p i'. le p (later e es i')) lt in
      omega (arith, sum_by-cons f e es, sum_by-cons g e es, le e (first es))
]
