-- Stage sets stage by stage: what holds of yes and no at each stage holds of the sets.
use Rattle.std.specs.Prelude.{◌≡◌, ℕ, ◌<◌, T}
use Rattle.grades.specs.Kind.{Below}
use Rattle.grades.specs.Maps.{Keeps}
use Rattle.grades.specs.StageSets.{bit, stage_sets}
use Rattle.grades.specs.YesNo.{yes_no}
use Rattle.grades.specs.declared.stage_set.StageSet.{StageSet}

-- reading one stage keeps the operations
abbrev pub KeptByStage : Type 0
KeptByStage = (s : ℕ) → s < 32 → Keeps stage_sets yes_no (bit s)

-- two sets with the same stages are equal
abbrev pub EqualByStage : Type 0
EqualByStage = (x y : StageSet) → ((s : ℕ) → s < 32 → bit s x ≡ bit s y) → x ≡ y

-- every stage of the first set is one of the second
abbrev pub Included : StageSet → StageSet → Type 0
Included x y = (s : ℕ) → s < 32 → T (bit s x) → T (bit s y)

-- a set lies below another exactly when it is included in it
abbrev pub BelowByStage : Type 0
BelowByStage = (x y : StageSet) → (Below stage_sets x y → Included x y) × (Included x y → Below stage_sets x y)
