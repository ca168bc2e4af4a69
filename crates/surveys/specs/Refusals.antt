-- The published numbers of the refusals of surveys.
use Rattle.std.specs.Prelude.{ℕ}
use Rattle.surveys.specs.declared.refusal.SurveyRefusal.{SurveyRefusal}
use Rattle.surveys.specs.declared.refusal.SurveyRefusal.TheVariants.{TableOrCounts, NotInSurvey, NotSettled, AllSettled, ForeignEntry}

abbrev pub published : SurveyRefusal → ℕ
published TableOrCounts = 7
published NotInSurvey = 8
published NotSettled = 9
published AllSettled = 10
published ForeignEntry = 11
