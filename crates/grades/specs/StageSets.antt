-- The kind of the sets of signal stages, kept as numbers of 32 bits.
use Rattle.std.specs.Prelude.{◌≡◌, ℕ, ◌-◌, ◌/◌, ◌%◌, ◌^◌, Bool, ◌==◌, bit_and, bit_or, count_ones}
use Rattle.std.proofs.Common.{lt_of_le_of_lt, sub-le, lit<}
use Rattle.std.specs.Int.Bits.{and_lt}
use Rattle.std.proofs.lemmas.Nat.{or_lt}
use Rattle.grades.specs.Kind.{Kind}
use Rattle.grades.specs.declared.stage_set.StageSet.{StageSet}

-- whether a number's binary digit at a place, counted from the low end, is one
abbrev pub digit : ℕ → ℕ → Bool
digit s n = n / 2 ^ s % 2 == 1

-- whether the set has the stage
abbrev pub bit : ℕ → StageSet → Bool
bit s x = digit s x.stages

-- the set has the number as its bits, and is the only one that has
pub record IsOfBits (bits : ℕ) (set : StageSet) : Type 0 where
  pub stages : set.stages ≡ bits
  pub only : (x : StageSet) → x.stages ≡ bits → set ≡ x

-- a set lies below the sets that include it
abbrev pub stage_sets : Kind StageSet
stage_sets = record {
  below = λ x y. (bit_and x.stages y.stages == x.stages);
  joined = λ x y. record { stages = bit_or x.stages y.stages; fits = or_lt 32 x.stages y.stages x.fits y.fits };
  met = λ x y. record { stages = bit_and x.stages y.stages; fits = and_lt 32 x.stages y.stages x.fits y.fits };
  turned = λ x. record { stages = 2 ^ 32 - 1 - x.stages; fits = lt_of_le_of_lt (sub-le (2 ^ 32 - 1) x.stages) (lit< tt) };
  lowest = record { stages = 0; fits = lit< tt };
  highest = record { stages = 2 ^ 32 - 1; fits = lit< tt };
  rank = λ x. count_ones x.stages;
  height = 32;
}
