-- A list of calls made on one survey, from its opening on.
use Rattle.std.specs.Prelude.{◌≡◌, ℕ, List, [], ◌∷◌, ◌++◌, length, map, Some, None, Option, Ok, Err, Result, vec_items, slice_index_or}
use Rattle.grades.specs.Kind.{Kind}
use Rattle.shapes.specs.declared.shape.Shape.{Ghosts}
use Rattle.shapes.specs.Tree.{Tree}
use Rattle.queries.specs.Table.{Table}
use Rattle.meaning.specs.Solutions.{Grades}
use Rattle.surveys.specs.declared.call.Call.{Call}
use Rattle.surveys.specs.declared.call.Call.TheVariants.{Retag, Step, Run, Read}
use Rattle.surveys.specs.declared.call.Answer.{Answer}
use Rattle.surveys.specs.declared.call.Answer.TheVariants.{Altered, Stepped, Ran, Row}
use Rattle.surveys.specs.declared.call.CallFailure.{CallFailure}
use Rattle.surveys.specs.declared.call.CallFailure.TheVariants.{Refused as CallRefused, NoMemory as RowNotCopied}
use Rattle.surveys.specs.declared.call.ConductRefusal.{ConductRefusal}
use Rattle.surveys.specs.declared.call.ConductRefusal.TheVariants.{NotOpened, NoMemory}
use Rattle.surveys.specs.declared.queried.QueriedShape.{QueriedShape}
use Rattle.surveys.specs.declared.refusal.SurveyRefusal.{SurveyRefusal}
use Rattle.surveys.specs.declared.survey.Survey.{Survey}
use Rattle.surveys.specs.Rules.{Opening, State, opened}
use Rattle.surveys.specs.Calls as rules
use Rattle.surveys.specs.Opens.{Agrees, RefusedOpening}
use Rattle.surveys.specs.Promise.{Promised, asked, opening}
use Rattle.surveys.specs.Queried.{KeepsRules}
use Rattle.surveys.specs.Standing.{Lent, Stands}

-- the calls and answers of the code as those of the rules
abbrev pub asks : {G : Type 0} → Call G → rules.Call G
asks (Retag mark) = rules.Call.retag mark.node mark.tag mark.grade
asks Step = rules.Call.step
asks (Run most) = rules.Call.run most
asks (Read term) = rules.Call.read term

abbrev pub answers : {G : Type 0} → Kind G → Result (Answer G) SurveyRefusal → rules.Answer G
answers k (Ok (Altered changed)) = rules.Answer.altered changed
answers k (Ok (Stepped all)) = rules.Answer.stepped all
answers k (Ok (Ran steps all)) = rules.Answer.ran steps all
answers k (Ok (Row row)) = rules.Answer.row (λ x. slice_index_or (vec_items row) x k.lowest)
answers k (Err why) = rules.Answer.refused why

-- what is kept of a call: its answer or why it is refused; nothing where memory ran out
abbrev pub kept_of : {G : Type 0} → Result (Answer G) CallFailure → Option (Result (Answer G) SurveyRefusal)
kept_of (Ok answer) = Some (Ok answer)
kept_of (Err (CallRefused why)) = Some (Err why)
kept_of (Err RowNotCopied) = None

-- memory ran out for the copy of a row: the call was a reading, the rules answer it with some row, and all is as it was
pub record Unkept {G S : Type 0} (k : Kind G) (g : Ghosts S) (x : QueriedShape S) (call : Call G) (v : Survey) (l : Lent G) (v' : Survey) (l' : Lent G) : Type 0 where
  pub term : ℕ
  pub reading : call ≡ Read term
  pub row : ℕ → G
  pub answered : KeepsRules k g x (asks call) (rules.Answer.row row) v l v' l'
  pub unaltered : (v' ≡ v) × (l' ≡ l)

-- each call with its answer
abbrev pub paired : {G : Type 0} → Kind G → List (Call G) → List (Result (Answer G) SurveyRefusal) → rules.Calls G
paired k [] given = []
paired k (c ∷ cs) [] = []
paired k (c ∷ cs) (a ∷ more) = (asks c, answers k a) ∷ paired k cs more

-- calls with their answers lead from the opening to a state that the tables hold, and the promise is kept of all that they do
pub record Led {G : Type 0} (o : Opening G) (past : rules.Calls G) (l : Lent G) : Type 0 where
  pub state : State G
  pub survey : Survey
  pub course : rules.Course o (opened o) past state
  pub stands : Stands o state survey l
  pub promised : Promised o

-- every call was made, and has its answer
pub record Conducted {G : Type 0} (o : Opening G) (calls : List (Call G)) (given : List (Result (Answer G) SurveyRefusal)) (l : Lent G) : Type 0 where
  pub each : length given ≡ length calls
  pub led : Led o (paired o.kind calls given) l

-- the first calls were made, one at least, and no others
pub record Interrupted {G : Type 0} (o : Opening G) (calls : List (Call G)) (l : Lent G) : Type 0 where
  pub done : List (Call G)
  pub left : List (Call G)
  pub all : calls ≡ done ++ left
  pub some_done : done ≡ [] → ⊥
  pub past : rules.Calls G
  pub made : asked past ≡ map asks done
  pub led : Led o past l

-- no survey was opened, and nothing is altered; or memory ran out after some of the calls
abbrev pub NotConducted : {G : Type 0} → Kind G → Tree → Table → List (Call G) → Lent G → Lent G → ConductRefusal → Type 0
NotConducted k t q calls l l' (NotOpened why) = RefusedOpening t q l l' why
NotConducted {G} k t q calls l l' NoMemory = (m : Grades G) → Agrees k t q l m → Interrupted (opening k t q m) calls l'
