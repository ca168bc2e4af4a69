-- Small queries worked out, for grades of any kind.
use Rattle.std.specs.Prelude.{◌≡◌, ℕ, cond, [], ◌∷◌, Some, None, Option, ◌==◌}
use Rattle.grades.specs.Kind.{Kind}
use Rattle.shapes.specs.declared.axis.Axis.TheVariants.{First, Next, Owner}
use Rattle.shapes.specs.Tree.{Tree, Laws, tree}
use Rattle.queries.specs.declared.block.Solution.{Solution}
use Rattle.queries.specs.declared.block.Solution.TheVariants.{Least, Greatest}
use Rattle.queries.specs.declared.term.Term.TheVariants.{Mark, Join, SomeNeighbour}
use Rattle.queries.specs.Table.{Table, Admitted}
use Rattle.meaning.specs.Solutions.{Grades, Blockwise}

-- the map that leads from a to b alone, and the one that leads nowhere
abbrev pub only : ℕ → ℕ → ℕ → Option ℕ
only a b x = cond (x == a) (Some b) None

abbrev pub nowhere : ℕ → Option ℕ
nowhere x = None

-- a root alone, with one child, and with two
abbrev pub one_node : Tree
one_node = tree 1 nowhere nowhere nowhere nowhere

abbrev pub two_nodes : Tree
two_nodes = tree 2 (only 0 1) nowhere (only 1 0) nowhere

abbrev pub three_nodes : Tree
three_nodes = tree 3 (only 0 1) (only 1 2) (only 1 0) (only 2 1)

-- an admitted query on a lawful tree, with a blockwise solution, and what each such solution has
pub record Example {G : Type 0} (k : Kind G) (t : Tree) (q : Table) (marks : Grades G) (Has : Grades G → Type 0) : Type 0 where
  pub lawful : Laws t
  pub admitted : Admitted q
  pub stands : (v : Grades G) × Blockwise k t q marks v
  pub each : (v : Grades G) → Blockwise k t q marks v → Has v

-- term 1: the mark is here or further right
abbrev pub reach : Table
reach = record { tags = 1; blocks = record { solution = Least; terms = 3 } ∷ []; terms = Mark 0 ∷ (Join 0 2 ∷ (SomeNeighbour Next 1 ∷ [])) }

-- a mark at the last child reaches both children, and not the root
abbrev pub ReachesRight : {G : Type 0} → Kind G → Type 0
ReachesRight {G} k = (g : G) → Example k three_nodes reach (λ a x. cond (x == 2) g k.lowest) (λ v. (v 1 0 ≡ k.lowest) × (v 1 1 ≡ g) × (v 1 2 ≡ g))

-- two terms that define each other along first and owner
abbrev pub cycle : Solution → Table
cycle s = record { tags = 0; blocks = record { solution = s; terms = 2 } ∷ []; terms = SomeNeighbour First 1 ∷ (SomeNeighbour Owner 0 ∷ []) }

-- the greatest solution of the cycle has highest where it closes, and the least nowhere
abbrev pub CycleGreatest : {G : Type 0} → Kind G → Type 0
CycleGreatest {G} k = (marks : Grades G) → Example k two_nodes (cycle Greatest) marks (λ v. (v 0 0 ≡ k.highest) × (v 0 1 ≡ k.lowest) × (v 1 0 ≡ k.lowest) × (v 1 1 ≡ k.highest))

abbrev pub CycleLeast : {G : Type 0} → Kind G → Type 0
CycleLeast {G} k = (marks : Grades G) → Example k two_nodes (cycle Least) marks (λ v. (v 0 0 ≡ k.lowest) × (v 0 1 ≡ k.lowest) × (v 1 0 ≡ k.lowest) × (v 1 1 ≡ k.lowest))

-- a term defined by itself alone
abbrev pub itself : Solution → Table
itself s = record { tags = 0; blocks = record { solution = s; terms = 1 } ∷ []; terms = Join 0 0 ∷ [] }

-- it is lowest in a least block, and highest in a greatest one
abbrev pub ItselfLeast : {G : Type 0} → Kind G → Type 0
ItselfLeast {G} k = (marks : Grades G) → Example k one_node (itself Least) marks (λ v. v 0 0 ≡ k.lowest)

abbrev pub ItselfGreatest : {G : Type 0} → Kind G → Type 0
ItselfGreatest {G} k = (marks : Grades G) → Example k one_node (itself Greatest) marks (λ v. v 0 0 ≡ k.highest)
