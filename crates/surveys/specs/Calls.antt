-- Calls on a survey: what each answers and where it leads, and lists of them.
use Rattle.std.specs.Prelude.{◌≡◌, ℕ, suc, ◌+◌, ◌<◌, ◌≤◌, Bool, true, false, cond, ◌&&◌, T, ◌⊎◌, List, [], ◌∷◌, length, ◌==◌}
use Rattle.grades.specs.Kind.{Says}
use Rattle.queries.specs.Table.{Table, Reaches, block_of}
use Rattle.meaning.specs.Solutions.{Grades}
use Rattle.surveys.specs.declared.refusal.SurveyRefusal.{SurveyRefusal}
use Rattle.surveys.specs.declared.refusal.SurveyRefusal.TheVariants.{NotInSurvey, NotSettled, AllSettled}
use Rattle.surveys.specs.Rules.{Opening, State, EveryBlockSettled, Steps, Makes, Retags}

pub data Call (G : Type 0) : Type 0 where
  retag : (node tag : ℕ) (grade : G) → Call G
  step : Call G
  run : (k : ℕ) → Call G
  read : (term : ℕ) → Call G

pub data Answer (G : Type 0) : Type 0 where
  -- a retag: whether it altered the mark
  altered : Bool → Answer G
  -- a step: whether all blocks are then settled
  stepped : Bool → Answer G
  -- a run: how many steps it made, and whether all blocks are then settled
  ran : ℕ → Bool → Answer G
  -- a reading: the row of the term
  row : (ℕ → G) → Answer G
  refused : SurveyRefusal → Answer G

-- what a call answers and where it leads; a refusal leaves the state as it is
pub data Does {G : Type 0} (o : Opening G) (s : State G) : Call G → Answer G → State G → Type 0 where
  retags : (x a : ℕ) (g : G) (s' : State G) → x < o.tree.count → a < o.query.tags → Retags o a x g s s' → Does o s (retag x a g) (altered true) s'
  leaves : (x a : ℕ) (g : G) → x < o.tree.count → a < o.query.tags → s.marks a x ≡ g → Does o s (retag x a g) (altered false) s
  no_such_mark : (x a : ℕ) (g : G) → (o.tree.count ≤ x) ⊎ (o.query.tags ≤ a) → Does o s (retag x a g) (refused NotInSurvey) s
  steps : (all : Bool) (s' : State G) → Steps o s s' → Says all (EveryBlockSettled o s') → Does o s step (stepped all) s'
  nothing_left : EveryBlockSettled o s → Does o s step (refused AllSettled) s
  -- it makes k steps, or fewer where all blocks are then settled
  runs : (k n : ℕ) (all : Bool) (s' : State G) → n ≤ k → Makes o n s s' → Says all (EveryBlockSettled o s') → (n < k → EveryBlockSettled o s') → Does o s (run k) (ran n all) s'
  reads : (r : ℕ) (vs : ℕ → G) → r < length o.query.terms → T (s.settled (block_of o.query r)) → ((x : ℕ) → x < o.tree.count → vs x ≡ s.values r x) → Does o s (read r) (row vs) s
  no_such_term : (r : ℕ) → length o.query.terms ≤ r → Does o s (read r) (refused NotInSurvey) s
  not_settled : (r : ℕ) → r < length o.query.terms → s.settled (block_of o.query r) ≡ false → Does o s (read r) (refused NotSettled) s

-- calls with their answers, the oldest first
abbrev pub Calls : Type 0 → Type 0
Calls G = List (Call G × Answer G)

-- the calls lead from one state to another
pub data Course {G : Type 0} (o : Opening G) : State G → Calls G → State G → Type 0 where
  empty : (s : State G) → Course o s [] s
  then : (s s' s'' : State G) (c : Call G) (v : Answer G) (more : Calls G) → Does o s c v s' → Course o s' more s'' → Course o s ((c, v) ∷ more) s''

-- the steps that an answer tells of
abbrev pub made : {G : Type 0} → Answer G → ℕ
made (altered b) = 0
made (stepped all) = 1
made (ran n all) = n
made (row vs) = 0
made (refused why) = 0

abbrev pub steps_of : {G : Type 0} → Calls G → ℕ
steps_of [] = 0
steps_of ((c, v) ∷ more) = made v + steps_of more

-- the marks with one of them set
abbrev pub with_mark : {G : Type 0} → Grades G → ℕ → ℕ → G → Grades G
with_mark m a x g b y = cond (b == a && y == x) g (m b y)

-- the marks that a call leaves; a retag that is refused sets none that is in the survey
abbrev pub marked : {G : Type 0} → Grades G → Call G → Grades G
marked m (retag x a g) = with_mark m a x g
marked m step = m
marked m (run k) = m
marked m (read r) = m

abbrev pub marks_after : {G : Type 0} → Grades G → Calls G → Grades G
marks_after m [] = m
marks_after m ((c, v) ∷ more) = marks_after (marked m c) more

-- the answer tells of an altered mark
abbrev pub Altered : {G : Type 0} → Answer G → Type 0
Altered (altered b) = T b
Altered (stepped all) = ⊥
Altered (ran n all) = ⊥
Altered (row vs) = ⊥
Altered (refused why) = ⊥

-- n of the retags that altered a mark reached block b
pub data ReachedTimes {G : Type 0} (q : Table) (b : ℕ) : Calls G → ℕ → Type 0 where
  empty : ReachedTimes q b [] 0
  reached : (x a n : ℕ) (g : G) (more : Calls G) → Reaches q a b → ReachedTimes q b more n → ReachedTimes q b ((retag x a g, altered true) ∷ more) (suc n)
  unreached : (x a n : ℕ) (g : G) (more : Calls G) → (Reaches q a b → ⊥) → ReachedTimes q b more n → ReachedTimes q b ((retag x a g, altered true) ∷ more) n
  other : (c : Call G) (v : Answer G) (n : ℕ) (more : Calls G) → (Altered v → ⊥) → ReachedTimes q b more n → ReachedTimes q b ((c, v) ∷ more) n
