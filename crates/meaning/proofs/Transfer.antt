-- A map of grades that keeps the operations takes the blockwise solution on marks to that on the mapped marks.
use Rattle.std.proofs.Common.{◌≡◌, ℕ, Some, None, Option, sym, refl, ap, ◌∙◌, subst, subst₂}
use Rattle.grades.specs.Kind.{Kind}
use Rattle.grades.specs.Maps.{Keeps}
use Rattle.shapes.specs.Tree.{Tree, along}
use Rattle.queries.specs.declared.block.Solution.{Solution}
use Rattle.queries.specs.declared.block.Solution.TheVariants.{Least, Greatest}
use Rattle.queries.specs.declared.term.Term.{Term}
use Rattle.queries.specs.declared.term.Term.TheVariants.{Mark, Turn, Meet, Join, SomeNeighbour, EveryNeighbour, Lowest, Highest}
use Rattle.queries.specs.Table.{Table, term_at, direction}
use Rattle.meaning.specs.Solutions.{Grades, Better, Best, Blockwise, grade_of_lem, at_or}
use Rattle.meaning.specs.Rounds.{start}
use Rattle.meaning.specs.Theorems.{mapped}
use Rattle.meaning.proofs.Better.{better_start}
use Rattle.meaning.proofs.Monotone.{Lawful, grades_ordered}
use Rattle.meaning.proofs.Reached.{best_induction}

module _ {G H : Type 0} {k : Kind G} {k' : Kind H} (h : G → H) (keeps : Keeps k k' h) where
  at_or_mapped : (none : G) (none' : H) → h none ≡ none' → (row : ℕ → G) (o : Option ℕ) → h (at_or none row o) ≡ at_or none' (λ y. h (row y)) o
  at_or_mapped none none' e row None = e
  at_or_mapped none none' e row (Some y) = refl

  pub start_mapped : (s : Solution) → h (start k s) ≡ start k' s
  start_mapped Least = keeps.lowest
  start_mapped Greatest = keeps.highest

  pub grade_mapped : (t : Tree) (marks v : Grades G) (m : Term) (x : ℕ) → h (grade_of_lem k t marks v m x) ≡ grade_of_lem k' t (mapped h marks) (mapped h v) m x
  grade_mapped t marks v (Mark a) x = refl
  grade_mapped t marks v (Turn a) x = keeps.turned (v a x)
  grade_mapped t marks v (Meet a b) x = keeps.met (v a x) (v b x)
  grade_mapped t marks v (Join a b) x = keeps.joined (v a x) (v b x)
  grade_mapped t marks v (SomeNeighbour axis a) x = at_or_mapped k.lowest k'.lowest keeps.lowest (v a) (along t axis x)
  grade_mapped t marks v (EveryNeighbour axis a) x = at_or_mapped k.highest k'.highest keeps.highest (v a) (along t axis x)
  grade_mapped t marks v Lowest x = keeps.lowest
  grade_mapped t marks v Highest x = keeps.highest

  pub best_mapped : {t : Tree} {q : Table} → Lawful k t q → Lawful k' t q → (marks : Grades G) (b : ℕ) (v : Grades G) → Best k t q marks b v → Best k' t q (mapped h marks) b (mapped h v)
  best_mapped {t = t} {q = q} lawful lawful' marks b v best = record {
    solves = λ i x e. ap h (best.solves i x e) ∙ grade_mapped t marks v (term_at q i) x;
    best = λ w agree solves.
        best_induction lawful marks b v (λ i x g. Better k' (direction q i) (h g) (w i x))
        (λ i x e. subst (λ g. Better k' (direction q i) g (w i x)) (sym (start_mapped (direction q i))) (better_start lawful'.kind (direction q i) (w i x)))
        (λ u same ordered i x e.
        subst₂ (Better k' (direction q i)) (sym (grade_mapped t marks u (term_at q i) x)) (sym (solves i x e))
        (grades_ordered lawful' (mapped h marks) b (mapped h u) w (λ c j y l e'. sym (ap h (same c j y l e')) ∙ agree c j y l e') ordered i x e))
        best;
  }

  -- the blockwise solution on the mapped marks is the mapped blockwise solution
  pub blockwise_mapped : {t : Tree} {q : Table} → Lawful k t q → Lawful k' t q → (marks v : Grades G) → Blockwise k t q marks v → Blockwise k' t q (mapped h marks) (mapped h v)
  blockwise_mapped lawful lawful' marks v blocks b l = best_mapped lawful lawful' marks b v (blocks b l)
