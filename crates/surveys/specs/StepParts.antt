-- What the parts of a step find and leave.
use Rattle.std.specs.Prelude.{◌≡◌, ℕ, ◌*◌, ◌<◌, Bool, List, length, Result, [], ◌++◌, ◌≢◌}
use Rattle.std.specs.List.{AllByRecursion}
use Rattle.grades.specs.Kind.{Kind}
use Rattle.shapes.specs.declared.shape.Shape.{Ghosts}
use Rattle.shapes.specs.Tree.{Tree}
use Rattle.queries.specs.Queries.{ListsReaders}
use Rattle.queries.specs.Table.{Table}
use Rattle.queues.specs.declared.queue.Queue.{Queue}
use Rattle.queues.specs.Threads.{Threads}
use Rattle.queues.specs.Within.{Within}
use Rattle.surveys.specs.declared.queried.QueriedShape.{QueriedShape}
use Rattle.surveys.specs.declared.refusal.SurveyRefusal.{SurveyRefusal}
use Rattle.surveys.specs.declared.survey.Survey.{Survey}
use Rattle.surveys.specs.declared.survey.Work.{Work}
use Rattle.surveys.specs.declared.survey.upcoming.HeadEntry.{HeadEntry}
use Rattle.surveys.specs.Calls.Call.{step}
use Rattle.surveys.specs.Held.{of_step, AlteredAtMost, WaitsWithin}
use Rattle.surveys.specs.Queried.{tree_in, table_in, KeepsRules}
use Rattle.surveys.specs.Standing.{Lent}
use Rattle.surveys.specs.Stepping.{first_of, term_of, node_of, Heads, Evaluates, gives, StepAnswers}
use Rattle.surveys.specs.Waking.{woken, added_by}

-- the entry e of block b
abbrev pub head_entry_lem : Table → ℕ → ℕ → ℕ → HeadEntry
head_entry_lem q nodes b e = record { first = first_of q b; term = term_of q nodes b e; node = node_of nodes e }

-- what is found of the head of a queue: the entry, and the grade of its term
pub record Headed (q : Table) (nodes : ℕ) (w : Work) (h : HeadEntry) : Type 0 where
  pub entry : ℕ
  pub heads : Heads q nodes w entry
  pub is : h ≡ head_entry_lem q nodes w.block entry

pub record Evaluated {G : Type 0} (k : Kind G) (t : Tree) (q : Table) (marks values : List G) (w : Work) (h : HeadEntry) (grade : G) : Type 0 where
  pub entry : ℕ
  pub evaluates : Evaluates t q marks values w entry
  pub is : h ≡ head_entry_lem q t.count w.block entry
  pub graded : grade ≡ gives k t q marks values w.block entry

-- an entry's value went from old to new: what is added to the rest of those that wait, by the readers of its term if it changed
pub record Requeued {G : Type 0} (t : Tree) (q : Table) (h : HeadEntry) (old new : G) (rest waiting : List ℕ) (queue : Queue) : Type 0 where
  pub added : List ℕ
  pub threads : Threads waiting queue (rest ++ added)
  pub unchanged : new ≡ old → added ≡ []
  pub changed : (new ≢ old) → (readers : List ℕ) × (ListsReaders q h.term readers × (added ≡ added_by rest (woken t q h.first h.node readers)))

-- the entries of the readers are below the size of the queue
abbrev pub WokenInside : Tree → Table → HeadEntry → ℕ → Type 0
WokenInside t q h size = (readers : List ℕ) → ListsReaders q h.term readers → AllByRecursion (λ e. e < size) (woken t q h.first h.node readers)

-- what a step keeps, together
pub record StepKeeps {G S : Type 0} (k : Kind G) (g : Ghosts S) (x : QueriedShape S) (v : Survey) (l : Lent G) (v' : Survey) (l' : Lent G) (answer : Result Bool SurveyRefusal) : Type 0 where
  pub rules : KeepsRules k g x step (of_step answer) v l v' l'
  pub refusals : StepAnswers k (tree_in g x) (table_in x) v l v' l' answer
  pub values : Within (length (table_in x).terms * (tree_in g x).count) l.values l'.values
  pub waiting : WaitsWithin (length (table_in x).terms * (tree_in g x).count) v l.waiting v' l'.waiting
  pub bounded : AlteredAtMost 1 l.values l'.values
