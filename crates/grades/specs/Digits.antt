-- The binary digits of a number: what and, or and complement do to each, and that they tell the number.
use Rattle.std.specs.Prelude.{◌≡◌, ℕ, zero, suc, ◌+◌, ◌/◌, ◌%◌, ◌^◌, ◌<◌, ◌≤◌, Bool, false, not, ◌&&◌, ◌||◌, ◌⊎◌, ◌==◌, bit_and, bit_or, count_ones, nat_eq}
use Rattle.std.proofs.Common.{sym, ap, ◌∙◌, inl, inr, pow-suc, mod-lt, arith, lit<}
use Rattle.std.specs.Int.Bits.{and_step}
use Rattle.std.proofs.lemmas.Nat.{and_shr, and_mod, or_shr, or_mod}
use Rattle.std.specs.Int.Count.{ones_step}
use Rattle.std.proofs.lemmas.Bool.{cases_eq}
use Rattle.std.proofs.lemmas.Bool.Decides.{nat_tests}
use Rattle.std.specs.Int.{bit_at}
use Rattle.std.proofs.lemmas.Nat.Bits.{bit_at-suc, bit_at_lowest, bit_at_above, bit_at-lt, same_from_bits_below}
use Rattle.grades.specs.StageSets.{digit}

digit_suc : (s n : ℕ) → digit (suc s) n ≡ digit s (n / 2)
digit_suc s n = ap (λ x. nat_eq x 1) (bit_at-suc n s)

digit_zero : (n : ℕ) → digit 0 n ≡ (n % 2 == 1)
digit_zero n = ap (λ x. nat_eq x 1) (bit_at_lowest n)

-- one digit is told by whether it is one
told : (a b : ℕ) → a < 2 → b < 2 → (a == 1) ≡ (b == 1) → a ≡ b
told a b ha hb e = grind (arith, nat_tests)

unlike : (a b : ℕ) → a + b ≡ 1 → (b == 1) ≡ not (a == 1)
unlike a b e = grind (arith, nat_tests)

halved : {n : ℕ} (k : ℕ) → n < 2 ^ suc k → n / 2 < 2 ^ k
halved k h = omega (arith, pow-suc 2 k)

-- a number of k digits has no one beyond them
pub digit_past : (k s n : ℕ) → n < 2 ^ k → k ≤ s → digit s n ≡ false
digit_past k s n h beyond = ap (λ x. nat_eq x 1) (bit_at_above n k s h beyond)

-- a number of k digits is told by them
pub digits_tell : (k m n : ℕ) → m < 2 ^ k → n < 2 ^ k → ((s : ℕ) → s < k → digit s m ≡ digit s n) → m ≡ n
digits_tell k m n hm hn same = same_from_bits_below k m n hm hn (λ s h. told (bit_at m s) (bit_at n s) (bit_at-lt m s) (bit_at-lt n s) (same s h))

-- an operation on numbers that works on each digit apart
module _ (op : ℕ → ℕ → ℕ) (test : Bool → Bool → Bool)
    (shr : (a b k : ℕ) → op a b / 2 ^ k ≡ op (a / 2 ^ k) (b / 2 ^ k))
    (low : (a b k : ℕ) → op a b % 2 ^ k ≡ op (a % 2 ^ k) (b % 2 ^ k))
    (one : (a b : ℕ) → a < 2 → b < 2 → (op a b == 1) ≡ test (a == 1) (b == 1)) where
  digit_op : (s m n : ℕ) → digit s (op m n) ≡ test (digit s m) (digit s n)
  digit_op s m n =
      ap (λ x. nat_eq (x % 2) 1) (shr m n s) ∙ ap (λ x. nat_eq x 1) (low (m / 2 ^ s) (n / 2 ^ s) 1)
      ∙ one (m / 2 ^ s % 2) (n / 2 ^ s % 2) (mod-lt _ (lit< tt)) (mod-lt _ (lit< tt))

pub digit_and : (s m n : ℕ) → digit s (bit_and m n) ≡ (digit s m && digit s n)
digit_and = digit_op bit_and ◌&&◌ and_shr and_mod (λ a b ha hb. grind (arith, nat_tests))

pub digit_or : (s m n : ℕ) → digit s (bit_or m n) ≡ (digit s m || digit s n)
digit_or = digit_op bit_or ◌||◌ or_shr or_mod (λ a b ha hb. grind (arith, nat_tests))

-- two numbers that fill k digits up between them have no digit alike there
pub digit_turned : (k s m n : ℕ) → suc (m + n) ≡ 2 ^ k → s < k → digit s n ≡ not (digit s m)
digit_turned zero s m n e h = absurd (omega arith)
digit_turned (suc k) zero m n e h = digit_zero n ∙ unlike (m % 2) (n % 2) (omega (arith, pow-suc 2 k)) ∙ ap not (sym (digit_zero m))
digit_turned (suc k) (suc s) m n e h = digit_suc s n ∙ digit_turned k s (m / 2) (n / 2) (omega (arith, pow-suc 2 k)) (omega arith) ∙ ap not (sym (digit_suc s m))

-- a number whose ones are among those of another is the other, or has fewer
pub ones_rise : (k m n : ℕ) → m < 2 ^ k → n < 2 ^ k → bit_and m n ≡ m → (m ≡ n) ⊎ (count_ones m < count_ones n)
ones_rise zero m n hm hn e = inl (omega arith)
ones_rise (suc k) m n hm hn e =
    let high : bit_and (m / 2) (n / 2) ≡ m / 2 = sym (and_shr m n 1) ∙ ap (λ x. x / 2) e in
    let low : m % 2 ≤ n % 2 = omega (arith, and_step m n) in
    elim (ones_rise k (m / 2) (n / 2) (halved k hm) (halved k hn) high) [
      | inl same ↦ elim (cases_eq (m % 2) (n % 2)) [
        | inl alike ↦ inl (omega arith)
        | inr apart ↦ inr (omega (arith, ones_step m, ones_step n, ap count_ones same))
      ]
      | inr fewer ↦ inr (omega (arith, ones_step m, ones_step n))
    ]
