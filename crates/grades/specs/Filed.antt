-- The numbers of grades in files.
use Rattle.std.specs.Prelude.{◌≡◌, ℕ, ◌^◌, ◌<◌, Bool, if◌then◌else◌}
use Rattle.grades.specs.declared.stage_set.StageSet.{StageSet}

-- every grade has a number of 32 bits, and no two grades have the same
pub record Numbered {G : Type 0} (number : G → ℕ) : Type 0 where
  pub fits : (g : G) → number g < 2 ^ 32
  pub apart : (g h : G) → number g ≡ number h → g ≡ h

-- no is 0 and yes is 1; a stage set is its bits
abbrev pub yes_no_number : Bool → ℕ
yes_no_number x = if x then 1 else 0

abbrev pub stage_set_number : StageSet → ℕ
stage_set_number x = x.stages
