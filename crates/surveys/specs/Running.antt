-- What a run answers for every survey and all tables, also where something else has written to them.
use Rattle.std.specs.Prelude.{◌≡◌, ℕ, ◌≤◌, Bool, length, Ok, Err, Result}
use Rattle.queries.specs.Table.{Table}
use Rattle.surveys.specs.declared.refusal.SurveyRefusal.{SurveyRefusal}
use Rattle.surveys.specs.declared.refusal.SurveyRefusal.TheVariants.{TableOrCounts}
use Rattle.surveys.specs.declared.survey.Survey.{Survey}
use Rattle.surveys.specs.Held.{AlteredAtMost}
use Rattle.surveys.specs.Standing.{Lent, Fits}

-- it makes at most the steps asked for, and alters at most one value in each
pub record RunsWithin {G : Type 0} (most made : ℕ) (l l' : Lent G) : Type 0 where
  pub few : made ≤ most
  pub values : AlteredAtMost made l.values l'.values

abbrev pub RunAnswers : {G : Type 0} → ℕ → Table → ℕ → Survey → Lent G → Survey → Lent G → Result (ℕ × Bool) SurveyRefusal → Type 0
RunAnswers nodes q most v l v' l' (Ok (made, all)) = Fits v nodes (length q.terms) l × RunsWithin most made l l'
RunAnswers nodes q most v l v' l' (Err why) = (why ≡ TableOrCounts) × ((Fits v nodes (length q.terms) l → ⊥) × ((v' ≡ v) × (l' ≡ l)))
