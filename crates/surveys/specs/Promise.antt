-- What a survey keeps, whatever calls are made on it.
use Rattle.std.specs.Prelude.{◌≡◌, ℕ, zero, suc, ◌+◌, ◌*◌, ◌<◌, ◌≤◌, false, T, List, [], ◌∷◌, length}
use Rattle.grades.specs.Kind.{Kind}
use Rattle.shapes.specs.Tree.{Tree, Iff, Laws as TreeLaws}
use Rattle.queries.specs.Table.{Table, Admitted, block_of, blocks_terms}
use Rattle.meaning.specs.Solutions.{Grades, Blockwise}
use Rattle.surveys.specs.declared.refusal.SurveyRefusal.TheVariants.{NotSettled}
use Rattle.surveys.specs.Rules.{Opening, State, EntryOf, opened}
use Rattle.surveys.specs.Calls.{Call, Answer, Calls, Does, Course, ReachedTimes, marks_after, steps_of}
use Rattle.surveys.specs.Calls.Call.{read}
use Rattle.surveys.specs.Calls.Answer.{row, refused}

abbrev pub opening : {G : Type 0} → Kind G → Tree → Table → Grades G → Opening G
opening k t q marks = record { kind = k; tree = t; query = q; marks = marks }

-- v is the blockwise solution on the marks of this moment
abbrev pub SolutionNow : {G : Type 0} → Opening G → State G → Grades G → Type 0
SolutionNow o s v = Blockwise o.kind o.tree o.query s.marks v

-- what a reading of a term of the query answers
pub record ReadsExactly {G : Type 0} (o : Opening G) (s : State G) (r : ℕ) : Type 0 where
  -- it is accepted exactly when the term's block is settled
  pub accepted : Iff (T (s.settled (block_of o.query r))) ((vs : ℕ → G) × ((s' : State G) × Does o s (read r) (row vs) s'))
  -- and its row is that of the blockwise solution
  pub right : (vs : ℕ → G) (s' : State G) → Does o s (read r) (row vs) s' → (v : Grades G) → SolutionNow o s v → (x : ℕ) → x < o.tree.count → vs x ≡ v r x
  -- it is refused as not settled exactly when the block is not
  pub not_settled : Iff (s.settled (block_of o.query r) ≡ false) ((s' : State G) × Does o s (read r) (refused NotSettled) s')

-- block b has stayed settled, with its rows
pub record Lasts {G : Type 0} (o : Opening G) (b : ℕ) (s s' : State G) : Type 0 where
  pub settled : T (s'.settled b)
  pub rows : (i x : ℕ) → EntryOf o b i x → s'.values i x ≡ s.values i x

-- the terms of each block, once for opening and once more for each time that the block was reached
abbrev pub weight : Table → (ℕ → ℕ) → ℕ → ℕ
weight q times zero = 0
weight q times (suc b) = weight q times b + blocks_terms q b * (1 + times b)

-- what holds after every list of calls
pub record Kept {G : Type 0} (o : Opening G) (past : Calls G) (s : State G) : Type 0 where
  -- the marks are those of the opening, as the calls have set them
  pub marks : (a x : ℕ) → a < o.query.tags → x < o.tree.count → s.marks a x ≡ marks_after o.marks past a x
  -- so the blockwise solution on these is that on the marks of this moment
  pub told : (v : Grades G) → Blockwise o.kind o.tree o.query (marks_after o.marks past) v → SolutionNow o s v
  -- the rows of a settled block are those of the blockwise solution
  pub key : (v : Grades G) → SolutionNow o s v → (b i x : ℕ) → T (s.settled b) → EntryOf o b i x → s.values i x ≡ v i x
  pub reads_exactly : (r : ℕ) → r < length o.query.terms → ReadsExactly o s r
  -- a settled block lasts, whatever calls follow, until a retag that alters a mark reaches it
  pub lasts : (more : Calls G) (s' : State G) → Course o s more s' → (b : ℕ) → T (s.settled b) → ReachedTimes o.query b more 0 → Lasts o b s s'
  -- each block was reached a definite number of times, and by these numbers the steps made are few
  pub counted : (b : ℕ) → (n : ℕ) × (ReachedTimes o.query b past n × ((m : ℕ) → ReachedTimes o.query b past m → m ≡ n))
  pub few_steps : (times : ℕ → ℕ) → ((b : ℕ) → b < length o.query.blocks → ReachedTimes o.query b past (times b)) → steps_of past ≤ o.tree.count * (1 + 2 * o.kind.height) * weight o.query times (length o.query.blocks)

-- the same answer, where rows are the same that have the same grade at every node
pub data SameAnswer {G : Type 0} (o : Opening G) : Answer G → Answer G → Type 0 where
  itself : (v : Answer G) → SameAnswer o v v
  rows : (vs ws : ℕ → G) → ((x : ℕ) → x < o.tree.count → vs x ≡ ws x) → SameAnswer o (row vs) (row ws)

-- the same marks at every tag and node, the same values at every entry, the same blocks settled, current block and queue
pub record SameState {G : Type 0} (o : Opening G) (s s' : State G) : Type 0 where
  pub marks : (a x : ℕ) → a < o.query.tags → x < o.tree.count → s.marks a x ≡ s'.marks a x
  pub values : (b i x : ℕ) → EntryOf o b i x → s.values i x ≡ s'.values i x
  pub settled : (b : ℕ) → s.settled b ≡ s'.settled b
  pub current : s.current ≡ s'.current
  pub queue : s.queue ≡ s'.queue

-- the calls without their answers
abbrev pub asked : {G : Type 0} → Calls G → List (Call G)
asked [] = []
asked ((c, v) ∷ more) = c ∷ asked more

-- the same calls with the same answers
pub data SameCalls {G : Type 0} (o : Opening G) : Calls G → Calls G → Type 0 where
  empty : SameCalls o [] []
  then : (c : Call G) (v w : Answer G) (past past' : Calls G) → SameAnswer o v w → SameCalls o past past' → SameCalls o ((c, v) ∷ past) ((c, w) ∷ past')

-- what is promised of a survey, in every state that calls lead to
pub record Promised {G : Type 0} (o : Opening G) : Type 0 where
  pub kept : (past : Calls G) (s : State G) → Course o (opened o) past s → Kept o past s
  -- every call has an answer
  pub answered : (past : Calls G) (s : State G) → Course o (opened o) past s → (c : Call G) → (v : Answer G) × ((s' : State G) × Does o s c v s')
  -- and one only
  pub one_outcome : (past : Calls G) (s : State G) → Course o (opened o) past s → (c : Call G) (v w : Answer G) (s' s'' : State G) → Does o s c v s' → Does o s c w s'' → SameAnswer o v w × SameState o s' s''
  -- so every list of calls has its answers and leads to a state, and to one only
  pub some_course : (calls : List (Call G)) → (past : Calls G) × ((s : State G) × ((asked past ≡ calls) × Course o (opened o) past s))
  pub one_course : (past past' : Calls G) (s s' : State G) → asked past ≡ asked past' → Course o (opened o) past s → Course o (opened o) past' s' → SameCalls o past past' × SameState o s s'

-- so at every opening on grades of the kind
abbrev pub PromiseKept : {G : Type 0} → Kind G → Type 0
PromiseKept {G} k = (t : Tree) (q : Table) (marks : Grades G) → TreeLaws t → Admitted q → Promised (opening k t q marks)
