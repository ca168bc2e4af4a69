-- What settled rows are for the two kinds of grade: for yes and no the nodes that the query's formulas select, for stage sets the same at each stage.
use Rattle.std.specs.Prelude.{◌≡◌, ℕ, ◌<◌, Bool, T, length}
use Rattle.grades.specs.Kind.{Kind}
use Rattle.grades.specs.StageSets.{bit, stage_sets}
use Rattle.grades.specs.YesNo.{yes_no}
use Rattle.shapes.specs.Tree.{Tree, Laws as TreeLaws}
use Rattle.queries.specs.Table.{Table, Admitted, block_of}
use Rattle.meaning.specs.Formulas.{Node, Sets, Selected}
use Rattle.meaning.specs.Solutions.{Grades, Blockwise}
use Rattle.meaning.specs.Theorems.{nodes_of, stage}
use Rattle.surveys.specs.Rules.{State, opened}
use Rattle.surveys.specs.Calls.{Calls, Course}
use Rattle.surveys.specs.Promise.{opening}

-- over every tree and for every admitted query, after every list of calls, for every term whose block is settled
abbrev pub WhereSettled : {G : Type 0} → Kind G → (Tree → Table → State G → ℕ → Type 0) → Type 0
WhereSettled {G} k P = (t : Tree) (q : Table) (marks : Grades G) → TreeLaws t → Admitted q →
    (past : Calls G) (s : State G) → Course (opening k t q marks) (opened (opening k t q marks)) past s →
    (i : ℕ) → i < length q.terms → T (s.settled (block_of q i)) → P t q s i

-- for yes and no, its row has just the nodes that the formulas select on the marks of this moment
abbrev pub SelectsSettled : Type 0
SelectsSettled = WhereSettled yes_no λ t q s i. (ρ : Sets t) → Selected t q (nodes_of t s.marks) ρ → (z : Node t) → nodes_of t s.values i z ≡ ρ i z

-- for stage sets, each stage of its row is the yes/no solution on that stage's marks
abbrev pub SolvesByStage : Type 0
SolvesByStage = WhereSettled stage_sets λ t q s i. (n : ℕ) → n < 32 → (v : Grades Bool) → Blockwise yes_no t q (stage n s.marks) v → (x : ℕ) → x < t.count → bit n (s.values i x) ≡ v i x

-- and has just the nodes that the formulas select on that stage's marks
abbrev pub SelectsByStage : Type 0
SelectsByStage = WhereSettled stage_sets λ t q s i. (n : ℕ) → n < 32 → (ρ : Sets t) → Selected t q (nodes_of t (stage n s.marks)) ρ → (z : Node t) → nodes_of t (stage n s.values) i z ≡ ρ i z

-- so it is the row of any yes/no survey over the same tree and query that has that stage's marks
abbrev pub ReadsByStage : Type 0
ReadsByStage = WhereSettled stage_sets λ t q s i. (n : ℕ) → n < 32 →
    (marks : Grades Bool) (past : Calls Bool) (s' : State Bool) → Course (opening yes_no t q marks) (opened (opening yes_no t q marks)) past s' →
    ((a x : ℕ) → a < q.tags → x < t.count → s'.marks a x ≡ stage n s.marks a x) → T (s'.settled (block_of q i)) →
    (x : ℕ) → x < t.count → bit n (s.values i x) ≡ s'.values i x
