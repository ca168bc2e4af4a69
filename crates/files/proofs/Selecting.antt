-- The numbers below a place for which a fact holds, listed: one place further, and by a test.
use Rattle.std.proofs.Common.{◌≡◌, ℕ, ◌+◌, ◌<◌, Bool, Decides, List, [], ◌∷◌, ◌++◌, length, filter, get_or, subst, arith, inl, inr}
use Rattle.std.proofs.lemmas.Bool.{cases_lt}
use Rattle.std.proofs.lemmas.List.{length-append, get_or_append_left, get_or_at}
use Rattle.std.proofs.lemmas.List.Elements.{Contains-append_left, Contains-push, Contains-push_cases, Contains-get_or, Contains-from_at, at_from_Contains}
use Rattle.std.specs.List.{Contains, ContainsAt as Has, range_with_len}
use Rattle.queries.proofs.Readers.{kept_all, kept_only, kept_rises}
use Rattle.files.specs.Listings.{ListsBelow}

module _ {P : ℕ → Type 0} where
  pub none_below : ListsBelow 0 P []
  none_below = record { rising = λ a b _ h. absurd (omega arith); only = λ x h. absurd (omega (arith, h.1)); all = λ x h. absurd (omega arith) }

  module _ (i : ℕ) (xs : List ℕ) (lists : ListsBelow i P xs) where
    pub one_passed : (P i → ⊥) → ListsBelow (i + 1) P xs
    one_passed fails = record {
      rising = lists.rising;
      only = λ x h. let old = lists.only x h in (omega (arith, old.0), old.1);
      all = all;
    }
      where
        all : (x : ℕ) → x < i + 1 → P x → Has xs x
        all x below p = elim (cases_lt x i) [ inl h ↦ lists.all x h p | inr h ↦ absurd (fails (let e : x ≡ i = omega arith in subst P e p)) ]

    pub one_more : P i → ListsBelow (i + 1) P (xs ++ i ∷ [])
    one_more p = record { rising = rising; only = only; all = all }
      where
        below : (k : ℕ) → k < length xs → get_or xs k 0 < i
        below k h = (lists.only (get_or xs k 0) (at_from_Contains xs _ (Contains-get_or xs k 0 h))).0

        rising : (a b : ℕ) → a < b → b < length (xs ++ i ∷ []) → get_or (xs ++ i ∷ []) a 0 < get_or (xs ++ i ∷ []) b 0
        rising a b h k = elim (cases_lt b (length xs)) [
          | inl l ↦ omega (arith, get_or_append_left xs (i ∷ []) 0 a (omega arith), get_or_append_left xs (i ∷ []) 0 b l, lists.rising a b h l)
          | inr l ↦
              let last : length xs ≡ b = omega (arith, length-append xs (i ∷ [])) in
              omega (arith, get_or_append_left xs (i ∷ []) 0 a (omega arith), get_or_at xs i [] 0 b last, below a (omega arith))
        ]

        only : (x : ℕ) → Has (xs ++ i ∷ []) x → (x < i + 1) × P x
        only x h = elim (Contains-push_cases xs i x (Contains-from_at _ x h)) [
          | inl old ↦ (let was = lists.only x (at_from_Contains xs x old) in (omega (arith, was.0), was.1))
          | inr e ↦ (omega arith, subst P e p)
        ]

        all : (x : ℕ) → x < i + 1 → P x → Has (xs ++ i ∷ []) x
        all x h q = at_from_Contains _ x (elim (cases_lt x i) [
          | inl l ↦ Contains-append_left xs (i ∷ []) x (Contains-from_at xs x (lists.all x l q))
          | inr l ↦ let e : i ≡ x = omega arith in subst (Contains (xs ++ i ∷ [])) e (Contains-push xs i)
        ])

-- the numbers that pass a test are those for which P holds, where the test decides it
pub lists_filtered : (P : ℕ → Type 0) (test : ℕ → Bool) → ((x : ℕ) → Decides (test x) (P x)) → (n : ℕ) → ListsBelow n P (filter test (range_with_len 0 n))
lists_filtered P test decides n = record {
  rising = kept_rises test 0 n;
  only = λ x has. let h = kept_only test n x has in (h.0, (decides x).0 h.1);
  all = λ x l p. kept_all test n x l ((decides x).1 p);
}
