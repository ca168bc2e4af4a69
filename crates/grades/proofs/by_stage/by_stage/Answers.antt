use Rattle.grades.specs.ByStage.{BelowByStage}
use Rattle.grades.specs.StageSets.{bit}
use Rattle.grades.specs.Stages.{kept_by_stage, equal_by_stage, at_stage, from_stages}
use Rattle.grades.proofs.YesNo.{implied, implies}
use Rattle.grades.proofs.by_stage.by_stage.Goals as goal

-- at each stage, to lie below is to imply
below_by_stage : BelowByStage
below_by_stage x y = (
  λ h s _. implied (bit s x) (bit s y) (at_stage x y h s),
  λ h. from_stages x y (λ s l. implies (bit s x) (bit s y) (h s l)),
)

pub returns : goal.returns
returns c = record { kept = kept_by_stage; equal = equal_by_stage; below = below_by_stage }
