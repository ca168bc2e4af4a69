-- Calls on a survey that are refused whatever the query: a reading right after opening, and a step where every block is settled.
use Rattle.std.specs.Prelude.{◌≡◌, ℕ, ◌<◌, length}
use Rattle.grades.specs.Kind.{Kind}
use Rattle.shapes.specs.Tree.{Tree, Laws as TreeLaws}
use Rattle.queries.specs.Table.{Table, Admitted}
use Rattle.meaning.specs.Solutions.{Grades}
use Rattle.surveys.specs.declared.refusal.SurveyRefusal.{SurveyRefusal}
use Rattle.surveys.specs.declared.refusal.SurveyRefusal.TheVariants.{NotSettled, AllSettled}
use Rattle.surveys.specs.Calls.{Call, Answer, Calls, Course, Does}
use Rattle.surveys.specs.Calls.Answer.{refused}
use Rattle.surveys.specs.Calls.Call.{read, step}
use Rattle.surveys.specs.Promise.{opening}
use Rattle.surveys.specs.Rules.{Opening, State, EveryBlockSettled, opened}

-- a call has no other answer than this refusal, and leaves the state as it is
abbrev pub OnlyRefused : {G : Type 0} → Opening G → State G → Call G → SurveyRefusal → Type 0
OnlyRefused {G} o s c why = (v : Answer G) (s' : State G) → Does o s c v s' → (v ≡ refused why) × (s' ≡ s)

-- at every opening on grades of the kind
abbrev pub AtOpenings : {G : Type 0} → Kind G → (Opening G → Type 0) → Type 0
AtOpenings {G} k P = (t : Tree) (q : Table) (marks : Grades G) → P (opening k t q marks)

pub record CallsRefused {G : Type 0} (k : Kind G) : Type 0 where
  -- right after opening a reading of any term of the query is refused as not settled
  pub early_reading : AtOpenings k λ o. (r : ℕ) → r < length o.query.terms → Does o (opened o) (read r) (refused NotSettled) (opened o)
  pub early_reading_only : AtOpenings k λ o. (r : ℕ) → r < length o.query.terms → OnlyRefused o (opened o) (read r) NotSettled
  -- where every block is settled a step is refused
  pub idle_step : AtOpenings k λ o. (s : State G) → EveryBlockSettled o s → Does o s step (refused AllSettled) s
  -- and in a state that calls led to it has no other answer
  pub idle_step_only : AtOpenings k λ o. TreeLaws o.tree → Admitted o.query → (past : Calls G) (s : State G) → Course o (opened o) past s → EveryBlockSettled o s → OnlyRefused o s step AllSettled
