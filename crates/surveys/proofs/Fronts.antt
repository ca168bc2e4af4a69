-- The first places of a table written over, and the others left as they are.
use Rattle.std.proofs.Common.{◌≡◌, ℕ, ◌+◌, ◌-◌, ◌<◌, ◌≤◌, List, ◌++◌, length, get_or, drop, refl, ◌∙◌, arith}
use Rattle.std.proofs.lemmas.List.{get_or_append_left, get_or-append_right, get_or-drop, length-append, length-drop}
use Rattle.queues.specs.Within.{Within}

module _ {A : Type 0} (xs ys : List A) (n : ℕ) (room : n ≤ length xs) (len : length ys ≡ n) where
  pub front : (p : ℕ) (d : A) → p < n → get_or (ys ++ drop n xs) p d ≡ get_or ys p d
  front p d h = get_or_append_left ys (drop n xs) d p (omega arith)

  pub past : (p : ℕ) (d : A) → n ≤ p → get_or (ys ++ drop n xs) p d ≡ get_or xs p d
  past p d h = get_or-append_right ys (drop n xs) n p d len h ∙ get_or-drop n xs (p - n) d ∙ rw (back n p h) refl
    where
      back : (a b : ℕ) → a ≤ b → a + (b - a) ≡ b
      back a b le = omega arith

  pub within : Within n xs (ys ++ drop n xs)
  within = record { same_length = length-append ys (drop n xs) ∙ omega (arith, length-drop n xs); beyond = past }
