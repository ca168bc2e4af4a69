-- Node selection: blocks of definitions by formulas, over the nodes of a sibling tree.
-- A block assigns to its variables the intersection of all its solutions, or their union.
use Rattle.std.specs.Prelude.{◌≡◌, ℕ, ◌<◌, Bool, T, ◌⊎◌, length, Some}
use Rattle.shapes.specs.declared.axis.Axis.{Axis}
use Rattle.shapes.specs.Tree.{Tree, Iff, along}
use Rattle.queries.specs.declared.block.Solution.{Solution}
use Rattle.queries.specs.declared.block.Solution.TheVariants.{Least, Greatest}
use Rattle.queries.specs.declared.term.Term.{Term}
use Rattle.queries.specs.declared.term.Term.TheVariants.{Mark, Turn, Meet, Join, SomeNeighbour, EveryNeighbour, Lowest, Highest}
use Rattle.queries.specs.Table.{Table, term_at, block_of, solution_at}

pub data Formula : Type 0 where
  label : ℕ → Formula
  variable : ℕ → Formula
  negation : Formula → Formula
  conjunction : Formula → Formula → Formula
  disjunction : Formula → Formula → Formula
  some_neighbour : Axis → Formula → Formula
  every_neighbour : Axis → Formula → Formula
  truth : Formula
  falsity : Formula

-- a node of the tree
pub record Node (t : Tree) : Type 0 where
  pub number : ℕ
  pub stands : number < t.count

-- y is the neighbour of z along the axis
abbrev pub Neighbours : (t : Tree) → Axis → Node t → Node t → Type 0
Neighbours t axis z y = along t axis z.number ≡ Some y.number

-- a set of nodes for each label, or for each variable
abbrev pub Sets : Tree → Type 0
Sets t = ℕ → Node t → Bool

-- node z satisfies a formula, with sets for the labels and sets ρ for the variables
abbrev pub Holds : (t : Tree) → Sets t → Sets t → Formula → Node t → Type 0
Holds t labels ρ (label a) z = T (labels a z)
Holds t labels ρ (variable i) z = T (ρ i z)
Holds t labels ρ (negation p) z = Holds t labels ρ p z → ⊥
Holds t labels ρ (conjunction p r) z = Holds t labels ρ p z × Holds t labels ρ r z
Holds t labels ρ (disjunction p r) z = Holds t labels ρ p z ⊎ Holds t labels ρ r z
Holds t labels ρ (some_neighbour axis p) z = (y : Node t) × (Neighbours t axis z y × Holds t labels ρ p y)
Holds t labels ρ (every_neighbour axis p) z = (y : Node t) → Neighbours t axis z y → Holds t labels ρ p y
Holds t labels ρ truth z = Unit {0}
Holds t labels ρ falsity z = ⊥

-- the formula that a term stands for: term i defines variable i
abbrev pub formula_of : Term → Formula
formula_of (Mark a) = label a
formula_of (Turn a) = negation (variable a)
formula_of (Meet a b) = conjunction (variable a) (variable b)
formula_of (Join a b) = disjunction (variable a) (variable b)
formula_of (SomeNeighbour axis a) = some_neighbour axis (variable a)
formula_of (EveryNeighbour axis a) = every_neighbour axis (variable a)
formula_of Lowest = falsity
formula_of Highest = truth

-- variable i is defined in block b
pub record DefinedIn (q : Table) (b i : ℕ) : Type 0 where
  pub term : i < length q.terms
  pub dealt_here : block_of q i ≡ b

-- the sets σ are a solution of block b over the sets ρ of the earlier blocks
pub record SolutionOver (t : Tree) (q : Table) (labels : Sets t) (b : ℕ) (ρ σ : Sets t) : Type 0 where
  -- the variables of earlier blocks have their sets
  pub earlier : (c i : ℕ) → c < b → DefinedIn q c i → (z : Node t) → ρ i z ≡ σ i z
  -- each variable of the block has just the nodes that satisfy its formula
  pub defined : (i : ℕ) → DefinedIn q b i → (z : Node t) → Iff (T (σ i z)) (Holds t labels σ (formula_of (term_at q i)) z)

-- node z lies in the set that block b assigns to variable i, over the sets ρ of the earlier blocks:
-- for a least block in every solution, for a greatest one in some
abbrev pub Assigned : (t : Tree) → Table → Sets t → ℕ → Solution → Sets t → ℕ → Node t → Type 0
Assigned t q labels b Least ρ i z = (σ : Sets t) → SolutionOver t q labels b ρ σ → T (σ i z)
Assigned t q labels b Greatest ρ i z = (σ : Sets t) × (SolutionOver t q labels b ρ σ × T (σ i z))

-- the sets ρ are what the blocks assign, one block after the other
abbrev pub Selected : (t : Tree) → Table → Sets t → Sets t → Type 0
Selected t q labels ρ = (b : ℕ) → b < length q.blocks → (i : ℕ) → DefinedIn q b i → (z : Node t) → Iff (T (ρ i z)) (Assigned t q labels b (solution_at q b) ρ i z)
