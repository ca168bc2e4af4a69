-- The examples: the values of their solutions.
use Rattle.std.proofs.Common.{◌≡◌, ℕ, ◌<◌, cond, eqb, length, sym, refl, ◌∙◌, ap₂, arith, lit<}
use Rattle.grades.specs.Kind.{Kind, Below, Laws as KindLaws}
use Rattle.shapes.specs.Tree.{Tree, Laws as TreeLaws}
use Rattle.queries.specs.declared.block.Solution.{Solution}
use Rattle.queries.specs.declared.block.Solution.TheVariants.{Least, Greatest}
use Rattle.queries.specs.Table.{Table, Admitted, term_at, block_of, direction}
use Rattle.meaning.specs.Solutions.{Grades, Better, Solves, Blockwise, grade_of_lem}
use Rattle.meaning.specs.Examples.{Example, two_nodes, one_node, cycle, itself, ReachesRight, CycleGreatest, CycleLeast, ItselfGreatest, ItselfLeast}
use Rattle.meaning.proofs.Blocks.{blockwise_stands}
use Rattle.meaning.proofs.Fitting.{below_one, below_two, reach_admitted, cycle_admitted, itself_admitted}
use Rattle.meaning.proofs.Trees.{one_lawful, two_lawful, three_lawful}

module _ {G : Type 0} {k : Kind G} (laws : KindLaws k) where
  join_same : (x : G) → k.joined x x ≡ x
  join_same x = laws.below_antisym _ _ (laws.join_least x x x (laws.below_refl x) (laws.below_refl x)) (laws.join_left x x)

  join_lowest : (x : G) → k.joined x k.lowest ≡ x
  join_lowest x = laws.below_antisym _ _ (laws.join_least x k.lowest x (laws.below_refl x) (laws.lowest_below x)) (laws.join_left x k.lowest)

  lowest_join : (x : G) → k.joined k.lowest x ≡ x
  lowest_join x = laws.below_antisym _ _ (laws.join_least k.lowest x x (laws.lowest_below x) (laws.below_refl x)) (laws.join_right k.lowest x)

  below_lowest : (x : G) → Below k x k.lowest → x ≡ k.lowest
  below_lowest x h = laws.below_antisym _ _ h (laws.lowest_below x)

  highest_below : (x : G) → Below k k.highest x → x ≡ k.highest
  highest_below x h = laws.below_antisym _ _ (laws.below_highest x) h

  example : {t : Tree} {q : Table} → TreeLaws t → Admitted q → (marks : Grades G) (Has : Grades G → Type 0) → ((v : Grades G) → Blockwise k t q marks v → Has v) → Example k t q marks Has
  example nodes admitted marks Has each = record {
    lawful = nodes;
    admitted = admitted;
    stands = blockwise_stands (record { kind = laws; tree = nodes; admitted = admitted }) marks;
    each = each;
  }

  -- the first block of a blockwise solution is solved, and no solution of it is better
  module _ {t : Tree} {q : Table} {marks v : Grades G} (blocks : Blockwise k t q marks v) (some : 0 < length q.blocks) (i x : ℕ) (hi : i < length q.terms) (here : block_of q i ≡ 0) (hx : x < t.count) where
    value : v i x ≡ grade_of_lem k t marks v (term_at q i) x
    value = (blocks 0 some).solves i x (record { term = hi; dealt_here = here; node = hx })

    better : (w : Grades G) → Solves k t q marks 0 w → Better k (direction q i) (v i x) (w i x)
    better w solves = (blocks 0 some).best w (λ c j y h e. absurd (omega arith)) solves i x (record { term = hi; dealt_here = here; node = hx })

  pub reaches_right : ReachesRight k
  reaches_right g = example three_lawful reach_admitted _ _ λ v blocks.
      let mark_at : (x : ℕ) → x < 3 → v 0 x ≡ cond (eqb x 2) g k.lowest = λ x h. value blocks (lit< tt) 0 x (lit< tt) refl h in
      let here : (x : ℕ) → x < 3 → v 1 x ≡ k.joined (v 0 x) (v 2 x) = λ x h. value blocks (lit< tt) 1 x (lit< tt) refl h in
      let at_2 : v 1 2 ≡ g = here 2 (lit< tt) ∙ (ap₂ k.joined (mark_at 2 (lit< tt)) (value blocks (lit< tt) 2 2 (lit< tt) refl (lit< tt)) ∙ join_lowest g) in
      let at_1 : v 1 1 ≡ g = here 1 (lit< tt) ∙ (ap₂ k.joined (mark_at 1 (lit< tt)) (value blocks (lit< tt) 2 1 (lit< tt) refl (lit< tt) ∙ at_2) ∙ lowest_join g) in
      let at_0 : v 1 0 ≡ k.lowest = here 0 (lit< tt) ∙ (ap₂ k.joined (mark_at 0 (lit< tt)) (value blocks (lit< tt) 2 0 (lit< tt) refl (lit< tt)) ∙ join_same k.lowest) in
      (at_0, at_1, at_2)

  -- a grade where the cycle closes, lowest elsewhere: it solves the cycle
  closed : G → Grades G
  closed g i x = cond (eqb i x) g k.lowest

  closed_solves : (s : Solution) (marks : Grades G) (g : G) → Solves k two_nodes (cycle s) marks 0 (closed g)
  unfolding closed
  closed_solves s marks g i x e =
      below_two (λ i. (x : ℕ) → x < 2 → closed g i x ≡ grade_of_lem k two_nodes marks (closed g) (term_at (cycle s) i) x)
      (below_two _ refl refl) (below_two _ refl refl) i e.term x e.node

  pub cycle_greatest : CycleGreatest k
  unfolding closed
  cycle_greatest marks = example two_lawful (cycle_admitted Greatest) marks _ λ v blocks. (
    highest_below _ (better blocks (lit< tt) 0 0 (lit< tt) refl (lit< tt) (closed k.highest) (closed_solves Greatest marks k.highest)),
    value blocks (lit< tt) 0 1 (lit< tt) refl (lit< tt),
    value blocks (lit< tt) 1 0 (lit< tt) refl (lit< tt),
    highest_below _ (better blocks (lit< tt) 1 1 (lit< tt) refl (lit< tt) (closed k.highest) (closed_solves Greatest marks k.highest)),
  )

  pub cycle_least : CycleLeast k
  unfolding closed
  cycle_least marks = example two_lawful (cycle_admitted Least) marks _ λ v blocks. (
    below_lowest _ (better blocks (lit< tt) 0 0 (lit< tt) refl (lit< tt) (closed k.lowest) (closed_solves Least marks k.lowest)),
    value blocks (lit< tt) 0 1 (lit< tt) refl (lit< tt),
    value blocks (lit< tt) 1 0 (lit< tt) refl (lit< tt),
    below_lowest _ (better blocks (lit< tt) 1 1 (lit< tt) refl (lit< tt) (closed k.lowest) (closed_solves Least marks k.lowest)),
  )

  -- every grade solves the definition of a term by itself alone
  constant_solves : (s : Solution) (marks : Grades G) (g : G) → Solves k one_node (itself s) marks 0 (λ i x. g)
  constant_solves s marks g i x e = below_one (λ i. g ≡ grade_of_lem k one_node marks (λ i x. g) (term_at (itself s) i) x) (sym (join_same g)) i e.term

  pub itself_greatest : ItselfGreatest k
  itself_greatest marks = example one_lawful (itself_admitted Greatest) marks _ λ v blocks. highest_below _ (better blocks (lit< tt) 0 0 (lit< tt) refl (lit< tt) (λ i x. k.highest) (constant_solves Greatest marks k.highest))

  pub itself_least : ItselfLeast k
  itself_least marks = example one_lawful (itself_admitted Least) marks _ λ v blocks. below_lowest _ (better blocks (lit< tt) 0 0 (lit< tt) refl (lit< tt) (λ i x. k.lowest) (constant_solves Least marks k.lowest))
