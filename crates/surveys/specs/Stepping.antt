-- What a step answers for every survey and all tables, also where something else has written to them.
use Rattle.std.specs.Prelude.{◌≡◌, ℕ, ◌+◌, ◌*◌, ◌/◌, ◌%◌, ◌<◌, Bool, true, false, List, length, Some, None, Ok, Err, Option, Result, slice_index_or, slice_set}
use Rattle.grades.specs.Kind.{Kind, Says}
use Rattle.shapes.specs.Tree.{Tree}
use Rattle.queries.specs.Table.{Table, blocks_terms, term_at}
use Rattle.queries.specs.Workings.{span_of}
use Rattle.meaning.specs.Solutions.{grade_of_lem}
use Rattle.meaning.specs.Tables.{place, grades_in, Readable}
use Rattle.queues.specs.declared.queue.Queue.{Queue}
use Rattle.queues.specs.Calls.{rising_queue, head_of}
use Rattle.surveys.specs.declared.refusal.SurveyRefusal.{SurveyRefusal}
use Rattle.surveys.specs.declared.refusal.SurveyRefusal.TheVariants.{TableOrCounts, NotInSurvey, NotSettled, AllSettled, ForeignEntry}
use Rattle.surveys.specs.declared.survey.Survey.{Survey}
use Rattle.surveys.specs.declared.survey.Work.{Work}
use Rattle.surveys.specs.Standing.{Lent, Fits}

-- what the survey says of a block; past its flags it says stale
abbrev pub flag : Survey → ℕ → Bool
flag v b = slice_index_or v.settled b false

abbrev pub AllFlagged : Survey → Type 0
AllFlagged v = (b : ℕ) → b < v.blocks → flag v b ≡ true

pub record FirstStale (v : Survey) (b : ℕ) : Type 0 where
  pub stands : b < v.blocks
  pub stale : flag v b ≡ false
  pub before : (c : ℕ) → c < b → flag v c ≡ true

-- the survey with this as the current work
abbrev pub with_current : Survey → Option Work → Survey
with_current v current = record { nodes = v.nodes; tags = v.tags; terms = v.terms; blocks = v.blocks; settled = v.settled; current = current }

-- no block is current, and all are settled
pub record NothingLeft (v : Survey) : Type 0 where
  pub none_current : v.current ≡ None
  pub all_flagged : AllFlagged v

-- a block with all its entries waiting, in rising order
abbrev pub begun : Table → ℕ → ℕ → Work
begun q nodes b = record { block = b; queue = rising_queue (blocks_terms q b * nodes) }

-- the work that a step takes up: the current one, or where there is none the first stale block from its start
pub data TakesUp (q : Table) (nodes : ℕ) (v : Survey) : Work → Type 0 where
  goes_on : (w : Work) → v.current ≡ Some w → TakesUp q nodes v w
  begins : (b : ℕ) → v.current ≡ None → FirstStale v b → TakesUp q nodes v (begun q nodes b)

-- the first term of a block, and the term and the node of its entry e
abbrev pub first_of : Table → ℕ → ℕ
first_of q b = (span_of q b).first

abbrev pub term_of : Table → ℕ → ℕ → ℕ → ℕ
term_of q nodes b e = first_of q b + e / nodes

abbrev pub node_of : ℕ → ℕ → ℕ
node_of nodes e = e % nodes

-- the entry at the head of the queue is one of the block
pub record Heads (q : Table) (nodes : ℕ) (w : Work) (e : ℕ) : Type 0 where
  pub head : head_of w.queue ≡ Some e
  pub inside : e < blocks_terms q w.block * nodes

-- and all that its term reads lies in the tables
pub record Evaluates {G : Type 0} (t : Tree) (q : Table) (marks values : List G) (w : Work) (e : ℕ) : Type 0 where
  pub heads : Heads q t.count w e
  pub readable : Readable t marks values (term_at q (term_of q t.count w.block e)) (node_of t.count e)

-- the grade that its term gives, by the tables
abbrev pub gives : {G : Type 0} → Kind G → Tree → Table → List G → List G → ℕ → ℕ → G
gives k t q marks values b e = grade_of_lem k t (grades_in k t.count marks) (grades_in k t.count values) (term_at q (term_of q t.count b e)) (node_of t.count e)

-- the next entry, if it can be worked off, of the work that the step takes up
pub record WorksOff {G : Type 0} (t : Tree) (q : Table) (v : Survey) (l : Lent G) : Type 0 where
  pub work : Work
  pub entry : ℕ
  pub takes_up : TakesUp q t.count v work
  pub evaluates : Evaluates t q l.marks l.values work entry

-- the survey with a block settled and none current, or with work to go on with
abbrev pub closed : Survey → ℕ → Survey
closed v b = record { nodes = v.nodes; tags = v.tags; terms = v.terms; blocks = v.blocks; settled = slice_set v.settled b true; current = None }

abbrev pub working_on : Survey → Work → Survey
working_on v w = with_current v (Some w)

-- what is left of the work is stored: the block is closed where no entry waits
abbrev pub Stored : Option ℕ → Survey → Work → Survey → Bool → Type 0
Stored None v w v' all = (v' ≡ closed v w.block) × Says all (AllFlagged v')
Stored (Some e) v w v' all = (v' ≡ working_on v w) × (all ≡ false)

-- what a step does: the entry takes the grade of its term, no other value changes, and what is left of the work is stored
pub record Worked {G : Type 0} (k : Kind G) (t : Tree) (q : Table) (v : Survey) (l : Lent G) (v' : Survey) (l' : Lent G) (all : Bool) : Type 0 where
  pub works_off : WorksOff t q v l
  pub takes : l'.values ≡ slice_set l.values (place t.count (term_of q t.count works_off.work.block works_off.entry) (node_of t.count works_off.entry)) (gives k t q l.marks l.values works_off.work.block works_off.entry)
  pub left : Queue
  pub stored : Stored (head_of left) v (record { block = works_off.work.block; queue = left }) v' all

-- why a step is refused
abbrev pub RefusedFor : {G : Type 0} → Tree → Table → Survey → Lent G → SurveyRefusal → Type 0
RefusedFor t q v l TableOrCounts = Fits v t.count (length q.terms) l → ⊥
RefusedFor t q v l NotInSurvey = ⊥
RefusedFor t q v l NotSettled = ⊥
RefusedFor t q v l AllSettled = Fits v t.count (length q.terms) l × NothingLeft v
RefusedFor t q v l ForeignEntry = Fits v t.count (length q.terms) l × ((NothingLeft v → ⊥) × (WorksOff t q v l → ⊥))

-- a refusal has its cause, and then nothing has changed; else there was something left, and the next entry was worked off
abbrev pub StepAnswers : {G : Type 0} → Kind G → Tree → Table → Survey → Lent G → Survey → Lent G → Result Bool SurveyRefusal → Type 0
StepAnswers k t q v l v' l' (Ok all) = Fits v t.count (length q.terms) l × ((NothingLeft v → ⊥) × Worked k t q v l v' l' all)
StepAnswers k t q v l v' l' (Err why) = RefusedFor t q v l why × ((v' ≡ v) × (l' ≡ l))
