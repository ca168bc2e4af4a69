-- The meaning of a query: the solution of each block in turn, least or greatest.
use Rattle.std.specs.Prelude.{◌≡◌, ℕ, ◌<◌, length, Some, None, Option}
use Rattle.grades.specs.Kind.{Kind, Below}
use Rattle.shapes.specs.Tree.{Tree, along}
use Rattle.queries.specs.declared.block.Solution.{Solution}
use Rattle.queries.specs.declared.block.Solution.TheVariants.{Least, Greatest}
use Rattle.queries.specs.declared.term.Term.{Term}
use Rattle.queries.specs.declared.term.Term.TheVariants.{Mark, Turn, Meet, Join, SomeNeighbour, EveryNeighbour, Lowest, Highest}
use Rattle.queries.specs.Table.{Table, term_at, block_of, direction}

-- a grade for each tag at each node (marks), or for each term at each node (values)
abbrev pub Grades : Type 0 → Type 0
Grades G = ℕ → ℕ → G

-- a row at a neighbour, or another grade where there is none
abbrev pub at_or : {G : Type 0} → G → (ℕ → G) → Option ℕ → G
at_or other row None = other
at_or other row (Some y) = row y

-- the grade that a term gives at node x, with the values v of the terms
abbrev pub grade_of_lem : {G : Type 0} → Kind G → Tree → Grades G → Grades G → Term → ℕ → G
grade_of_lem k t marks v (Mark a) x = marks a x
grade_of_lem k t marks v (Turn a) x = k.turned (v a x)
grade_of_lem k t marks v (Meet a b) x = k.met (v a x) (v b x)
grade_of_lem k t marks v (Join a b) x = k.joined (v a x) (v b x)
grade_of_lem k t marks v (SomeNeighbour axis a) x = at_or k.lowest (v a) (along t axis x)
grade_of_lem k t marks v (EveryNeighbour axis a) x = at_or k.highest (v a) (along t axis x)
grade_of_lem k t marks v Lowest x = k.lowest
grade_of_lem k t marks v Highest x = k.highest

-- an entry of block b: one of its terms at a node
pub record Entry (q : Table) (t : Tree) (b i x : ℕ) : Type 0 where
  pub term : i < length q.terms
  pub dealt_here : block_of q i ≡ b
  pub node : x < t.count

-- v solves block b: each of its entries has the grade that its term gives
abbrev pub Solves : {G : Type 0} → Kind G → Tree → Table → Grades G → ℕ → Grades G → Type 0
Solves k t q marks b v = (i x : ℕ) → Entry q t b i x → v i x ≡ grade_of_lem k t marks v (term_at q i) x

-- the two are the same at every entry of the blocks before b
abbrev pub AgreeBefore : {G : Type 0} → Tree → Table → ℕ → Grades G → Grades G → Type 0
AgreeBefore t q b v w = (c i x : ℕ) → c < b → Entry q t c i x → v i x ≡ w i x

-- the order of a solution: for a least one a grade is better than those above it, for a greatest one than those below
abbrev pub Better : {G : Type 0} → Kind G → Solution → G → G → Type 0
Better k Least x y = Below k x y
Better k Greatest x y = Below k y x

-- of all solutions of block b over the same earlier blocks, v is the best at every entry
pub record Best {G : Type 0} (k : Kind G) (t : Tree) (q : Table) (marks : Grades G) (b : ℕ) (v : Grades G) : Type 0 where
  pub solves : Solves k t q marks b v
  pub best : (w : Grades G) → AgreeBefore t q b v w → Solves k t q marks b w → (i x : ℕ) → Entry q t b i x → Better k (direction q i) (v i x) (w i x)

-- the blockwise solution: every block at its best, over those before it
abbrev pub Blockwise : {G : Type 0} → Kind G → Tree → Table → Grades G → Grades G → Type 0
Blockwise k t q marks v = (b : ℕ) → b < length q.blocks → Best k t q marks b v
