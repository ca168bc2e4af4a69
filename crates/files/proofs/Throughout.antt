-- Lists with one element throughout, and lists that have it from some place on.
use Rattle.std.proofs.Common.{◌≡◌, ℕ, ◌+◌, ◌-◌, ◌<◌, ◌≤◌, List, length, get_or, drop, replicate, sym, ap, ◌∙◌, ⊎_elim, arith}
use Rattle.std.proofs.lemmas.Bool.{cases_lt}
use Rattle.std.proofs.lemmas.List.{get_or-replicate, get_or_past, length-replicate, get_or-drop, ext_get_or}

pub throughout : {A : Type 0} (n p : ℕ) (a : A) → get_or (replicate n a) p a ≡ a
throughout n p a = ⊎_elim (λ h. get_or-replicate n p a a h) (λ h. get_or_past (replicate n a) p a (omega (arith, length-replicate n a))) (cases_lt p n)

-- a list that is the same from place n on as one that has an element throughout
module _ {A : Type 0} {n : ℕ} (m : ℕ) (a : A) (before after : List A) (same : drop n after ≡ drop n before) (all : before ≡ replicate m a) where
  pub behind : (p : ℕ) → n ≤ p → get_or after p a ≡ a
  behind p h =
      let at : n + (p - n) ≡ p = omega arith in
      let here = rw at at (sym (get_or-drop n after (p - n) a) ∙ (ap (λ xs. get_or xs (p - n) a) same ∙ get_or-drop n before (p - n) a)) in
      here ∙ (ap (λ xs. get_or xs p a) all ∙ throughout m p a)

  -- where it has the element in front too, it has it throughout
  pub still_throughout : ((p : ℕ) → p < n → get_or after p a ≡ a) → after ≡ replicate (length after) a
  still_throughout front =
      ext_get_or a after (replicate (length after) a) (sym (length-replicate (length after) a))
      (λ p h. ⊎_elim (front p) (behind p) (cases_lt p n) ∙ sym (throughout (length after) p a))
