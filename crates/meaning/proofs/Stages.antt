-- Stage sets stage by stage.
use Rattle.std.proofs.Common.{ℕ, ◌<◌}
use Rattle.grades.specs.declared.stage_set.StageSet.{StageSet}
use Rattle.grades.specs.StageSets.{bit, stage_sets}
use Rattle.grades.specs.YesNo.{yes_no, yes_no_laws}
use Rattle.grades.specs.Stages.{stage_set_laws, kept_by_stage, equal_by_stage}
use Rattle.shapes.specs.Tree.{Tree, Laws as TreeLaws}
use Rattle.queries.specs.Table.{Table, Admitted}
use Rattle.meaning.specs.Solutions.{Grades, Blockwise}
use Rattle.meaning.specs.Theorems.{stage, SolvedByStage, SelectedByStage}
use Rattle.meaning.proofs.Blocks.{best_carries, blockwise_stands, blockwise_unique}
use Rattle.meaning.proofs.Monotone.{Lawful}
use Rattle.meaning.proofs.Selections.{blockwise_selected, selected_blockwise}
use Rattle.meaning.proofs.Transfer.{blockwise_mapped}

module _ (t : Tree) (q : Table) (nodes : TreeLaws t) (admitted : Admitted q) (marks : Grades StageSet) where
  sets : Lawful stage_sets t q
  sets = record { kind = stage_set_laws; tree = nodes; admitted = admitted }

  single : Lawful yes_no t q
  single = record { kind = yes_no_laws; tree = nodes; admitted = admitted }

  each_stage : (v : Grades StageSet) → Blockwise stage_sets t q marks v → (s : ℕ) → s < 32 → Blockwise yes_no t q (stage s marks) (stage s v)
  each_stage v blocks s h = blockwise_mapped (bit s) (kept_by_stage s h) sets single marks v blocks

  -- sets whose every stage is blockwise are, at every stage, the blockwise sets
  from_stages : (v : Grades StageSet) → ((s : ℕ) → s < 32 → Blockwise yes_no t q (stage s marks) (stage s v)) → Blockwise stage_sets t q marks v
  from_stages v each b h =
      let found : (w : Grades StageSet) × Blockwise stage_sets t q marks w = blockwise_stands sets marks in
      best_carries sets marks b found.0 v
      (λ c i x l e. equal_by_stage (found.0 i x) (v i x) (λ s m. blockwise_unique single (stage s marks) (stage s found.0) (stage s v) (each_stage found.0 found.1 s m) (each s m) i x e.term e.node))
      (found.1 b h)

pub solved_by_stage : SolvedByStage
solved_by_stage t q nodes admitted marks v = (each_stage t q nodes admitted marks v, from_stages t q nodes admitted marks v)

pub selected_by_stage : SelectedByStage
selected_by_stage t q nodes admitted marks v = (
  λ blocks s h. blockwise_selected t q nodes admitted (stage s marks) (stage s v) (each_stage t q nodes admitted marks v blocks s h),
  λ each. from_stages t q nodes admitted marks v (λ s h. selected_blockwise t q nodes admitted (stage s marks) (stage s v) (each s h)),
)
