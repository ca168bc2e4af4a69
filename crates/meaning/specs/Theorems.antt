-- What is proved of meanings.
use Rattle.std.specs.Prelude.{◌≡◌, ℕ, ◌<◌, ◌≤◌, Bool, T, length}
use Rattle.grades.specs.declared.stage_set.StageSet.{StageSet}
use Rattle.grades.specs.Kind.{Kind}
use Rattle.grades.specs.Maps.{Keeps}
use Rattle.grades.specs.StageSets.{bit, stage_sets}
use Rattle.grades.specs.YesNo.{yes_no}
use Rattle.shapes.specs.Tree.{Tree, Laws, Iff}
use Rattle.queries.specs.Table.{Table, Admitted, term_at, direction}
use Rattle.meaning.specs.Solutions.{Grades, Entry, AgreeBefore, Best, Blockwise, grade_of_lem}
use Rattle.meaning.specs.Rounds.{start, after, enough}
use Rattle.meaning.specs.Formulas.{Node, Sets, Selected}

-- over every tree and for every admitted query
abbrev pub Everywhere : (Tree → Table → Type 0) → Type 0
Everywhere P = (t : Tree) (q : Table) → Laws t → Admitted q → P t q

-- on all marks there is a blockwise solution, and any two are the same at every term and node
abbrev pub OneSolution : {G : Type 0} → Kind G → Type 0
OneSolution {G} k = Everywhere λ t q. (marks : Grades G) →
    ((v : Grades G) × Blockwise k t q marks v)
    × ((v w : Grades G) → Blockwise k t q marks v → Blockwise k t q marks w → (i x : ℕ) → i < length q.terms → x < t.count → v i x ≡ w i x)

-- the solution of a block is what enough rounds from its start values give
abbrev pub ReachedByRounds : {G : Type 0} → Kind G → Type 0
ReachedByRounds {G} k = Everywhere λ t q. (marks : Grades G) (b : ℕ) (v : Grades G) → Best k t q marks b v →
    (n : ℕ) → enough k t q ≤ n → (i x : ℕ) → Entry q t b i x → v i x ≡ after k t q marks b v n i x

-- the test says yes at every entry of block b
abbrev pub Passes : {G : Type 0} → Tree → Table → ℕ → (ℕ → ℕ → G → Bool) → Grades G → Type 0
Passes t q b test v = (i x : ℕ) → Entry q t b i x → T (test i x (v i x))

-- so a test that the start values pass, and that a round keeps, the solution passes
abbrev pub KeptByRounds : {G : Type 0} → Kind G → Type 0
KeptByRounds {G} k = Everywhere λ t q. (marks : Grades G) (b : ℕ) (v : Grades G) → Best k t q marks b v →
    (test : ℕ → ℕ → G → Bool) →
    Passes t q b test (λ i x. start k (direction q i)) →
    ((w : Grades G) → AgreeBefore t q b v w → Passes t q b test w → Passes t q b test (λ i x. grade_of_lem k t marks w (term_at q i) x)) →
    Passes t q b test v

-- every grade mapped
abbrev pub mapped : {G H : Type 0} → (G → H) → Grades G → Grades H
mapped h v i x = h (v i x)

-- a map of grades that keeps the operations takes a blockwise solution to one on the mapped marks
abbrev pub Carried : {G H : Type 0} → Kind G → Kind H → Type 0
Carried {G} {H} k k' = (h : G → H) → Keeps k k' h → Everywhere λ t q. (marks v : Grades G) → Blockwise k t q marks v → Blockwise k' t q (mapped h marks) (mapped h v)

-- the nodes whose grade is yes, for each tag or term
abbrev pub nodes_of : (t : Tree) → Grades Bool → Sets t
nodes_of t v i z = v i z.number

-- for yes and no, the rows of the blockwise solution have just the nodes that the blocks assign
abbrev pub Selects : Type 0
Selects = Everywhere λ t q. (marks v : Grades Bool) → Iff (Blockwise yes_no t q marks v) (Selected t q (nodes_of t marks) (nodes_of t v))

-- for all labels the blocks assign sets, and any two assignments are the same
abbrev pub OneSelection : Type 0
OneSelection = Everywhere λ t q. (labels : Sets t) →
    ((ρ : Sets t) × Selected t q labels ρ)
    × ((ρ σ : Sets t) → Selected t q labels ρ → Selected t q labels σ → (i : ℕ) → i < length q.terms → (z : Node t) → ρ i z ≡ σ i z)

-- what one stage has of grades
abbrev pub stage : ℕ → Grades StageSet → Grades Bool
stage s = mapped (bit s)

-- stage sets are the blockwise solution just where each stage, on its own marks, is that of yes and no
abbrev pub SolvedByStage : Type 0
SolvedByStage = Everywhere λ t q. (marks v : Grades StageSet) → Iff (Blockwise stage_sets t q marks v) ((s : ℕ) → s < 32 → Blockwise yes_no t q (stage s marks) (stage s v))

-- and so where each stage has just the nodes that the blocks assign on its own marks
abbrev pub SelectedByStage : Type 0
SelectedByStage = Everywhere λ t q. (marks v : Grades StageSet) → Iff (Blockwise stage_sets t q marks v) ((s : ℕ) → s < 32 → Selected t q (nodes_of t (stage s marks)) (nodes_of t (stage s v)))
