-- What a retag answers and leaves, for every survey and all tables: also for those that hold no state of the rules.
use Rattle.std.specs.Prelude.{◌≡◌, ℕ, ◌<◌, Bool, true, false, length, Ok, Err, Result, ◌≢◌, slice_set}
use Rattle.grades.specs.Kind.{Kind, Says}
use Rattle.shapes.specs.Tree.{Tree}
use Rattle.queries.specs.Table.{Table}
use Rattle.meaning.specs.Tables.{place, grades_in}
use Rattle.surveys.specs.declared.refusal.SurveyRefusal.{SurveyRefusal}
use Rattle.surveys.specs.declared.refusal.SurveyRefusal.TheVariants.{TableOrCounts, NotInSurvey, NotSettled, AllSettled, ForeignEntry}
use Rattle.surveys.specs.declared.survey.Survey.{Survey}
use Rattle.surveys.specs.Resets.{Restarts}
use Rattle.surveys.specs.Standing.{Lent, Fits}

-- why a retag of a tag at a node is refused: the first cause in order
abbrev pub RefusedFor : {G : Type 0} → Tree → Table → Survey → Lent G → (node tag : ℕ) → SurveyRefusal → Type 0
RefusedFor t q v l node tag TableOrCounts = Fits v t.count (length q.terms) l → ⊥
RefusedFor t q v l node tag NotInSurvey = Fits v t.count (length q.terms) l × ((node < v.nodes) × (tag < v.tags) → ⊥)
RefusedFor t q v l node tag NotSettled = ⊥
RefusedFor t q v l node tag AllSettled = ⊥
RefusedFor t q v l node tag ForeignEntry = ⊥

-- a retag that is not refused says whether it altered the mark, and sets no other;
-- where it did, the blocks that the tag reaches start again, and where not, nothing is altered
pub record Remarks {G : Type 0} (k : Kind G) (t : Tree) (q : Table) (v : Survey) (l : Lent G) (node tag : ℕ) (grade : G) (v' : Survey) (l' : Lent G) (altered : Bool) : Type 0 where
  pub fits : Fits v t.count (length q.terms) l
  pub node_there : node < v.nodes
  pub tag_there : tag < v.tags
  pub says : Says altered (grades_in k v.nodes l.marks tag node ≢ grade)
  pub marks : l'.marks ≡ slice_set l.marks (place v.nodes tag node) grade
  pub restarts : altered ≡ true → Restarts k q tag v v' l.values l'.values l.waiting l'.waiting
  pub unaltered : altered ≡ false → (v' ≡ v) × (l' ≡ l)

-- a refusal has its cause, and then nothing is altered
abbrev pub RetagAnswers : {G : Type 0} → Kind G → Tree → Table → Survey → Lent G → (node tag : ℕ) → G → Survey → Lent G → Result Bool SurveyRefusal → Type 0
RetagAnswers k t q v l node tag grade v' l' (Ok altered) = Remarks k t q v l node tag grade v' l' altered
RetagAnswers k t q v l node tag grade v' l' (Err why) = RefusedFor t q v l node tag why × ((v' ≡ v) × (l' ≡ l))
