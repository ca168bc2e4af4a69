-- A shape with the query that is put to it, as a tree and a table.
use Rattle.shapes.specs.declared.shape.Shape.{Ghosts}
use Rattle.shapes.specs.Shapes.{tree_of}
use Rattle.shapes.specs.Tree.{Tree}
use Rattle.grades.specs.Kind.{Kind}
use Rattle.queries.specs.Queries.{table_of}
use Rattle.queries.specs.Table.{Table}
use Rattle.meaning.specs.Solutions.{Grades}
use Rattle.surveys.specs.declared.queried.QueriedShape.{QueriedShape}
use Rattle.surveys.specs.declared.survey.Survey.{Survey}
use Rattle.surveys.specs.Calls.{Call, Answer}
use Rattle.surveys.specs.Held.{ByRules}
use Rattle.surveys.specs.Promise.{opening}
use Rattle.surveys.specs.Rules.{Opening}
use Rattle.surveys.specs.Standing.{Lent}

abbrev pub tree_in : {S : Type 0} → Ghosts S → QueriedShape S → Tree
tree_in g x = tree_of g x.shape.now

abbrev pub table_in : {S : Type 0} → QueriedShape S → Table
table_in x = table_of x.query.now

-- a survey of the kind opened on it, with these marks
abbrev pub opening_on : {G S : Type 0} → Kind G → Ghosts S → QueriedShape S → Grades G → Opening G
opening_on k g x m = opening k (tree_in g x) (table_in x) m

-- the call is held to the rules, whatever marks a survey was opened on
abbrev pub KeepsRules : {G S : Type 0} → Kind G → Ghosts S → QueriedShape S → Call G → Answer G → Survey → Lent G → Survey → Lent G → Type 0
KeepsRules {G} k g x call answer v l v' l' = (m : Grades G) → ByRules (opening_on k g x m) call answer v l v' l'
