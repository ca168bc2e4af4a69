-- The rules of a survey: its state, and what a step and a retag do to it.
use Rattle.std.specs.Prelude.{◌≡◌, ℕ, suc, ◌<◌, Bool, false, ◌||◌, T, List, [], ◌∷◌, ◌++◌, length, Some, None, Option, ◌==◌, ◌≢◌}
use Rattle.grades.specs.Kind.{Kind}
use Rattle.shapes.specs.Tree.{Tree}
use Rattle.queries.specs.Table.{Table, Reaches, term_at, direction}
use Rattle.meaning.specs.Readings.{Reading}
use Rattle.meaning.specs.Rounds.{start}
use Rattle.meaning.specs.Solutions.{Grades, Entry, grade_of_lem}
use Rattle.surveys.specs.Places.{Place, In, Lists}

-- what a survey was opened on
pub record Opening (G : Type 0) : Type 0 where
  pub kind : Kind G
  pub tree : Tree
  pub query : Table
  pub marks : Grades G

-- a block is settled or stale; the queue has the entries of the current block that wait
pub record State (G : Type 0) : Type 0 where
  pub marks : Grades G
  pub values : Grades G
  pub settled : ℕ → Bool
  pub current : Option ℕ
  pub queue : List Place

-- term i at node x is an entry of block b
abbrev pub EntryOf : {G : Type 0} → Opening G → ℕ → ℕ → ℕ → Type 0
EntryOf o b i x = Entry o.query o.tree b i x

-- the start value of the entries of term i
abbrev pub start_of : {G : Type 0} → Opening G → ℕ → G
start_of o i = start o.kind (direction o.query i)

-- the grade that term i gives at node x, on marks m and values v
abbrev pub given : {G : Type 0} → Opening G → Grades G → Grades G → ℕ → ℕ → G
given o m v i x = grade_of_lem o.kind o.tree m v (term_at o.query i) x

-- at the opening every entry has its start value, and every block is stale
abbrev pub opened : {G : Type 0} → Opening G → State G
opened o = record { marks = o.marks; values = λ i x. start_of o i; settled = λ b. false; current = None; queue = [] }

abbrev pub EveryBlockSettled : {G : Type 0} → Opening G → State G → Type 0
EveryBlockSettled o s = (b : ℕ) → b < length o.query.blocks → T (s.settled b)

-- the block that the next step works on, with its queue: the current one,
-- or where there is none the first stale one, with all its entries in the queue
pub data WorksOn {G : Type 0} (o : Opening G) (s : State G) : ℕ → List Place → Type 0 where
  goes_on : (b : ℕ) → s.current ≡ Some b → WorksOn o s b s.queue
  begins : (b : ℕ) (queue : List Place) → s.current ≡ None → b < length o.query.blocks → s.settled b ≡ false → ((c : ℕ) → c < b → T (s.settled c)) → Lists (λ p. EntryOf o b p.0 p.1) queue → WorksOn o s b queue

-- the entries of block b that a change of term j at node y queues: those that read it and do not wait already
pub record Queued {G : Type 0} (o : Opening G) (b j y : ℕ) (waiting : List Place) (p : Place) : Type 0 where
  pub entry : EntryOf o b p.0 p.1
  pub reads : Reading o.tree (term_at o.query p.0) p.1 j y
  pub waits_not : In p waiting → ⊥

-- one step
pub record Steps {G : Type 0} (o : Opening G) (s s' : State G) : Type 0 where
  pub block : ℕ
  pub term : ℕ
  pub node : ℕ
  pub rest : List Place
  pub added : List Place
  -- the entry at the head leaves the queue and takes the grade that its term gives
  pub works_on : WorksOn o s block ((term, node) ∷ rest)
  pub takes : s'.values term node ≡ given o s.marks s.values term node
  pub others_stay : (b i x : ℕ) → EntryOf o b i x → ((i ≡ term) × (x ≡ node) → ⊥) → s'.values i x ≡ s.values i x
  pub marks_stay : s'.marks ≡ s.marks
  -- if that changes it, its readers queue at the back
  pub unchanged : s'.values term node ≡ s.values term node → added ≡ []
  pub changed : (s'.values term node ≢ s.values term node) → Lists (Queued o block term node rest) added
  pub queue : s'.queue ≡ rest ++ added
  -- the block settles when its queue is empty, and is current until then
  pub settles : s'.queue ≡ [] → (s'.current ≡ None) × ((c : ℕ) → s'.settled c ≡ (c == block || s.settled c))
  pub stays_current : (s'.queue ≢ []) → (s'.current ≡ Some block) × ((c : ℕ) → s'.settled c ≡ s.settled c)

-- n steps, one after the other
pub data Makes {G : Type 0} (o : Opening G) : ℕ → State G → State G → Type 0 where
  none : (s : State G) → Makes o 0 s s
  one_more : (n : ℕ) (s s' s'' : State G) → Steps o s s' → Makes o n s' s'' → Makes o (suc n) s s''

-- a retag that alters the mark of a tag at a node
pub record Retags {G : Type 0} (o : Opening G) (tag node : ℕ) (grade : G) (s s' : State G) : Type 0 where
  pub alters : s.marks tag node ≡ grade → ⊥
  pub sets : s'.marks tag node ≡ grade
  pub other_marks : (a x : ℕ) → a < o.query.tags → x < o.tree.count → ((a ≡ tag) × (x ≡ node) → ⊥) → s'.marks a x ≡ s.marks a x
  -- a block that it reaches is stale, with its entries at their start values, and not current
  pub reached_stale : (b : ℕ) → Reaches o.query tag b → s'.settled b ≡ false
  pub reached_start : (b : ℕ) → Reaches o.query tag b → (i x : ℕ) → EntryOf o b i x → s'.values i x ≡ start_of o i
  pub reached_current : (b : ℕ) → Reaches o.query tag b → s.current ≡ Some b → (s'.current ≡ None) × (s'.queue ≡ [])
  -- any other block is as it was
  pub unreached_settled : (b : ℕ) → (Reaches o.query tag b → ⊥) → s'.settled b ≡ s.settled b
  pub unreached_values : (b : ℕ) → (Reaches o.query tag b → ⊥) → (i x : ℕ) → EntryOf o b i x → s'.values i x ≡ s.values i x
  pub unreached_current : (b : ℕ) → (Reaches o.query tag b → ⊥) → s.current ≡ Some b → (s'.current ≡ Some b) × (s'.queue ≡ s.queue)
  pub none_current : s.current ≡ None → (s'.current ≡ None) × (s'.queue ≡ s.queue)
