use Rattle.std.proofs.Common.{subst, sym}
use Rattle.grades.specs.Filed.{yes_no_number, stage_set_number}
use Rattle.files.specs.CallSteps.{GradesFor}
use Rattle.files.proofs.Models.{yes_no_grades, stage_set_grades}
use Rattle.files.proofs.model.Model.list.Goals as goal

pub list_by_hand-requires-clause-grades : goal.list_by_hand-requires-clause-grades
list_by_hand-requires-clause-grades c = subst (GradesFor yes_no_number) (sym c.in-YesNo.is) yes_no_grades

pub list_by_hand-requires-in-StageSets-clause-grades : goal.list_by_hand-requires-in-StageSets-clause-grades
list_by_hand-requires-in-StageSets-clause-grades c = subst (GradesFor stage_set_number) (sym c.in-StageSets.is) stage_set_grades
