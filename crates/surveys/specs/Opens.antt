-- What opening a survey answers and leaves.
use Rattle.std.specs.Prelude.{◌≡◌, ℕ, ◌<◌, false, length, replicate, None}
use Rattle.grades.specs.Kind.{Kind}
use Rattle.shapes.specs.Tree.{Tree}
use Rattle.queries.specs.Table.{Table}
use Rattle.meaning.specs.Solutions.{Grades}
use Rattle.meaning.specs.Tables.{grades_in}
use Rattle.surveys.specs.declared.refusal.SurveyRefusal.{SurveyRefusal}
use Rattle.surveys.specs.declared.refusal.SurveyRefusal.TheVariants.{TableOrCounts}
use Rattle.surveys.specs.declared.survey.Survey.{Survey}
use Rattle.surveys.specs.Rules.{opened}
use Rattle.surveys.specs.Promise.{opening}
use Rattle.surveys.specs.Standing.{Lent, Roomy, Stands}

-- a survey with every block stale and none current
abbrev pub stale : Tree → Table → Survey
stale t q = record { nodes = t.count; tags = q.tags; terms = length q.terms; blocks = length q.blocks; settled = replicate 64 false; current = None }

-- the marks of the table, at every tag and node
abbrev pub Agrees : {G : Type 0} → Kind G → Tree → Table → Lent G → Grades G → Type 0
Agrees k t q l m = (a x : ℕ) → a < q.tags → x < t.count → grades_in k t.count l.marks a x ≡ m a x

-- the tables are long enough, and the survey then holds the state at opening, on the marks of the table
pub record Opens {G : Type 0} (k : Kind G) (t : Tree) (q : Table) (l l' : Lent G) (v : Survey) : Type 0 where
  pub survey : v ≡ stale t q
  pub roomy : Roomy (stale t q) l
  pub stands : (m : Grades G) → Agrees k t q l m → Stands (opening k t q m) (opened (opening k t q m)) v l'

-- a table is too short, and all are as they were
pub record RefusedOpening {G : Type 0} (t : Tree) (q : Table) (l l' : Lent G) (why : SurveyRefusal) : Type 0 where
  pub cause : why ≡ TableOrCounts
  pub too_short : Roomy (stale t q) l → ⊥
  pub unaltered : l' ≡ l
