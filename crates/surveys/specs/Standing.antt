-- How a survey and its tables hold a state of the rules.
use Rattle.std.specs.Prelude.{◌≡◌, ℕ, ◌+◌, ◌*◌, ◌/◌, ◌%◌, ◌<◌, ◌≤◌, false, List, [], map, length, Some, None, Option, slice_index, slice_index_or}
use Rattle.queries.specs.Table.{blocks_terms}
use Rattle.meaning.specs.Tables.{grades_in}
use Rattle.queries.specs.Workings.{span_of}
use Rattle.queues.specs.Threads.{Threads}
use Rattle.surveys.specs.declared.survey.Survey.{Survey}
use Rattle.surveys.specs.declared.survey.Work.{Work}
use Rattle.surveys.specs.Places.{Place}
use Rattle.surveys.specs.Rules.{Opening, State}

-- the survey was opened on o: its counts
pub record Counted {G : Type 0} (o : Opening G) (v : Survey) : Type 0 where
  pub nodes : v.nodes ≡ o.tree.count
  pub tags : v.tags ≡ o.query.tags
  pub terms : v.terms ≡ length o.query.terms
  pub blocks : v.blocks ≡ length o.query.blocks

-- the tables that a call is lent
pub record Lent (G : Type 0) : Type 0 where
  pub marks : List G
  pub values : List G
  pub waiting : List ℕ

abbrev pub lent : {G : Type 0} → List G → List G → List ℕ → Lent G
lent m v w = record { marks = m; values = v; waiting = w }

-- they are long enough: a mark for each tag and node, a value and a waiting place for each entry
pub record Roomy {G : Type 0} (v : Survey) (l : Lent G) : Type 0 where
  pub marks : v.tags * v.nodes ≤ length l.marks
  pub values : v.terms * v.nodes ≤ length l.values
  pub waiting : v.terms * v.nodes ≤ length l.waiting

-- the call comes with the counts of opening, and with tables that are long enough
pub record Fits {G : Type 0} (v : Survey) (nodes terms : ℕ) (l : Lent G) : Type 0 where
  pub same_nodes : v.nodes ≡ nodes
  pub same_terms : v.terms ≡ terms
  pub roomy : Roomy v l

-- the places from one number up to another say that nothing waits
abbrev pub Blank : List ℕ → ℕ → ℕ → Type 0
Blank waiting from to = (k : ℕ) → from ≤ k → k < to → slice_index waiting k ≡ 0

-- the entries of a block are numbered from 0, term by term, and node by node within a term
abbrev pub place_in : {G : Type 0} → Opening G → ℕ → ℕ → Place
place_in o b e = ((span_of o.query b).first + e / o.tree.count, e % o.tree.count)

-- the current block stands in the survey, and its queue in the waiting table
pub record Works {G : Type 0} (o : Opening G) (s : State G) (w : Work) (waiting : List ℕ) : Type 0 where
  pub current : s.current ≡ Some w.block
  pub stands : w.block < length o.query.blocks
  pub stale : s.settled w.block ≡ false
  pub size : w.queue.size ≡ blocks_terms o.query w.block * o.tree.count
  pub entries : List ℕ
  pub some_wait : entries ≡ [] → ⊥
  pub threads : Threads waiting w.queue entries
  pub queue : s.queue ≡ map (place_in o w.block) entries
  pub blank : Blank waiting w.queue.size (length o.query.terms * o.tree.count)

-- nothing is in work, and nothing waits
pub record Idle {G : Type 0} (o : Opening G) (s : State G) (waiting : List ℕ) : Type 0 where
  pub none_current : s.current ≡ None
  pub queue : s.queue ≡ []
  pub blank : Blank waiting 0 (length o.query.terms * o.tree.count)

abbrev pub Working : {G : Type 0} → Opening G → State G → Option Work → List ℕ → Type 0
Working o s None waiting = Idle o s waiting
Working o s (Some w) waiting = Works o s w waiting

-- the survey and its tables hold the state s of a survey opened on o
pub record Stands {G : Type 0} (o : Opening G) (s : State G) (v : Survey) (l : Lent G) : Type 0 where
  pub counted : Counted o v
  pub roomy : Roomy v l
  pub marks : (a x : ℕ) → a < o.query.tags → x < o.tree.count → grades_in o.kind o.tree.count l.marks a x ≡ s.marks a x
  pub values : (i x : ℕ) → i < length o.query.terms → x < o.tree.count → grades_in o.kind o.tree.count l.values i x ≡ s.values i x
  pub flags : length v.settled ≡ 64
  pub settled : (b : ℕ) → b < length o.query.blocks → slice_index_or v.settled b false ≡ s.settled b
  pub working : Working o s v.current l.waiting
