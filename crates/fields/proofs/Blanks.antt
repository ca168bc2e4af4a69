-- Number fields: what stands behind the blanks is what is written for the number.
use Rattle.std.proofs.Common.{◌≡◌, ℕ, zero, suc, ◌-◌, ◌^◌, ◌<◌, ◌≤◌, true, List, ◌++◌, length, get_or, take, drop, replicate, Some, None, decimal, Option, sym, refl, ap, ◌∙◌, inl, inr, add-zero, arith, rules, MatchOption}
use native.Mathlib.Nat.{pow-le-pow_right}
use Rattle.std.specs.Str.{all_ascii_digits}
use Rattle.std.proofs.lemmas.List.{take-append-drop, length-drop, get_or-drop, get_or_past}
use Rattle.std.proofs.lemmas.Bool.{cases_lt}
use Rattle.std.proofs.lemmas.Str.Parse.{IsNumeralModel, numerals_by_fold, digits_value_short}
use Rattle.std.proofs.lemmas.Fmt.{decimal-digits_value, first_decimal, decimal_digit}
use Rattle.fields.specs.Fields.{Shows, number, number_after}

pub own : IsNumeralModel (λ ds. all_ascii_digits ds ≡ true) number
own = numerals_by_fold _ (search rules) number_after (search rules)

-- two texts behind blanks are the same where neither begins with one
pub same_behind : (k j : ℕ) (xs ys : List ℕ) → (get_or xs 0 0 ≡ 32 → ⊥) → (get_or ys 0 0 ≡ 32 → ⊥) → replicate k 32 ++ xs ≡ replicate j 32 ++ ys → xs ≡ ys
same_behind zero zero xs ys p q e = e
same_behind zero (suc j) xs ys p q e = absurd (p (ap (λ zs. get_or zs 0 0) e))
same_behind (suc k) zero xs ys p q e = absurd (q (sym (ap (λ zs. get_or zs 0 0) e)))
same_behind (suc k) (suc j) xs ys p q e = same_behind k j xs ys p q (ap (drop 1) e)

-- no number begins with a blank
pub no_blank : (n : ℕ) → n < 2 ^ 64 → get_or (decimal n) 0 0 ≡ 32 → ⊥
no_blank zero l e = let z : ◌≡◌ {A = ℕ} 48 32 = ap (λ zs. get_or zs 0 0) (sym (decimal_digit 0 (omega arith))) ∙ e in omega arith
no_blank (suc n) l e = omega (arith, first_decimal (suc n) (omega arith) l)

pub ten_up : (k j : ℕ) → k ≤ j → 10 ^ k ≤ 10 ^ j
ten_up k j l = pow-le-pow_right (omega arith) l

pub below_10_digits : (n k : ℕ) → k ≤ 10 → n < 10 ^ k → n < 2 ^ 64
below_10_digits n k l h = omega (arith, ten_up k 10 l)

-- digits with no leading zero but in 0 itself are what is written for their number
pub plain : (ds : List ℕ) → length ds ≤ 10 → 0 < length ds → ((1 < length ds) × (get_or ds 0 0 ≡ 48) → ⊥) → all_ascii_digits ds ≡ true → (number ds < 10 ^ length ds) × (ds ≡ decimal (number ds))
plain ds short some lead digits = (room, sym (decimal-digits_value own ds digits some alone (below_10_digits (number ds) (length ds) short room)))
  where
    room : number ds < 10 ^ length ds
    room = digits_value_short own ds (length ds) digits (omega arith)

    alone : get_or ds 0 0 ≡ 48 → length ds ≡ 1
    alone z = elim (cases_lt 1 (length ds)) [ inl many ↦ absurd (lead (many, z)) | inr few ↦ omega arith ]

-- no number is written with a leading zero and more
pub no_zero_before : (ds : List ℕ) (n : ℕ) → n < 2 ^ 64 → 1 < length ds → get_or ds 0 0 ≡ 48 → ds ≡ decimal n → ⊥
no_zero_before ds zero l many z e = let one : length ds ≡ 1 = ap length (e ∙ decimal_digit 0 (omega arith)) in omega arith
no_zero_before ds (suc n) l many z e = let first : get_or ds 0 0 ≡ get_or (decimal (suc n)) 0 0 = ap (λ zs. get_or zs 0 0) e in omega (arith, first_decimal (suc n) (omega arith) l)

-- a plain number behind blanks fills the field
pub shows : (columns : List ℕ) (k n : ℕ) → length columns ≤ 10 → k ≤ length columns → take k columns ≡ replicate k 32 → (n < 10 ^ length (drop k columns)) × (drop k columns ≡ decimal n) → Shows columns n
shows columns k n narrow fits blank (room, e) = record { narrow = narrow; room = wider; written = sym (take-append-drop k columns) ∙ rw (blank, e, left) refl }
  where
    long : length (decimal n) ≡ length columns - k
    long = sym (ap length e) ∙ length-drop k columns

    left : length columns - length (decimal n) ≡ k
    left = omega (arith, long)

    shorter : length (drop k columns) ≤ length columns
    shorter = omega (arith, length-drop k columns)

    wider : n < 10 ^ length columns
    wider = omega (arith, ten_up (length (drop k columns)) (length columns) shorter)

-- a field that shows n has the digits of n behind its blanks
pub shown : (columns : List ℕ) (k n : ℕ) → k ≤ length columns → take k columns ≡ replicate k 32 → (k < length columns → get_or columns k 0 ≡ 32 → ⊥) → Shows columns n → (n < 2 ^ 64) × (drop k columns ≡ decimal n)
shown columns k n fits blank past s = (small, same_behind k (length columns - length (decimal n)) (drop k columns) (decimal n) starts (no_blank n small) (sym split ∙ s.written))
  where
    small : n < 2 ^ 64
    small = below_10_digits n (length columns) s.narrow s.room

    split : columns ≡ replicate k 32 ++ drop k columns
    split = sym (take-append-drop k columns) ∙ rw blank refl

    at_k : get_or (drop k columns) 0 0 ≡ get_or columns k 0
    at_k = get_or-drop k columns 0 0 ∙ rw add-zero refl

    starts : get_or (drop k columns) 0 0 ≡ 32 → ⊥
    starts e = elim (cases_lt k (length columns)) [ inl l ↦ past l (sym at_k ∙ e) | inr l ↦ omega (arith, at_k, e, get_or_past columns k 0 l) ]

-- cases of an option, made weaker
pub cases_weaker : {X : Type 0} (o : Option X) {P P' : Type 0} {Q Q' : X → Type 0} → MatchOption o P Q → (P → P') → ((x : X) → Q x → Q' x) → MatchOption o P' Q'
cases_weaker None h f g = f h
cases_weaker (Some x) h f g = g x h
