-- Sets of nodes as grades yes and no, and formulas as terms.
use Rattle.std.proofs.Common.{◌≡◌, ℕ, ◌<◌, Bool, true, false, ◌&&◌, ◌||◌, T, ◌⊎◌, Some, None, Option, refl, subst, inl, inr, arith, T_not, rules}
use mathlib.Core.Path.{fun_ext}
use native.Mathlib.Bridge.{le_prop}
use native.Mathlib.Decide.{dec_lt}
use lib.Dec.{not_T}
use Rattle.grades.specs.YesNo.{yes_no}
use Rattle.shapes.specs.Tree.{Tree, Iff, along, Laws as TreeLaws}
use Rattle.queries.specs.declared.term.Term.{Term}
use Rattle.queries.specs.declared.term.Term.TheVariants.{Mark, Turn, Meet, Join, SomeNeighbour, EveryNeighbour, Lowest, Highest}
use Rattle.meaning.specs.Solutions.{Grades, grade_of_lem, at_or}
use Rattle.meaning.specs.Formulas.{Node, Sets, Holds, formula_of}
use Rattle.meaning.specs.Theorems.{nodes_of}

pub same_test : (a b : Bool) → (T a → T b) → (T b → T a) → a ≡ b
same_test a b f g = search rules

and_parts : (a b : Bool) → Iff (T (a && b)) (T a × T b)
and_parts a b = search rules

or_parts : (a b : Bool) → Iff (T (a || b)) (T a ⊎ T b)
or_parts true b = (λ p. inl p, λ h. tt)
or_parts false b = (λ p. inr p, λ h. elim h [ inl p ↦ absurd p | inr p ↦ p ])

module _ (t : Tree) where
  at_node : (row : Node t → Bool) (x : ℕ) → Dec (x < t.count) → Bool
  at_node row x (yes h) = row (record { number = x; stands = h })
  at_node row x (no ne) = false

  -- sets of nodes as grades, with no where there is no node
  pub grades_of : Sets t → Grades Bool
  grades_of ρ i x = at_node (ρ i) x (dec_lt x t.count)

  at_node_same : (row : Node t → Bool) (z : Node t) (d : Dec (z.number < t.count)) → at_node row z.number d ≡ row z
  unfolding at_node
  at_node_same row z (yes h) = λ i. row (record { number = z.number; stands = le_prop h z.stands i })
  at_node_same row z (no ne) = absurd (ne z.stands)

  -- every family of sets is the nodes of some grades
  pub nodes_back : (ρ : Sets t) → nodes_of t (grades_of ρ) ≡ ρ
  unfolding grades_of
  nodes_back ρ = fun_ext (λ i. fun_ext (λ z. at_node_same (ρ i) z (dec_lt z.number t.count)))

  some_there : (row : ℕ → Bool) (o : Option ℕ) → ((y : ℕ) → o ≡ Some y → y < t.count) → Iff (T (at_or false row o)) ((y : Node t) × ((o ≡ Some y.number) × T (row y.number)))
  some_there row None inside = (λ p. absurd p, λ w. let e : None ≡ Some w.0.number = w.1.0 in let z : ◌≡◌ {A = ℕ} 0 1 = cc in omega arith)
  some_there row (Some y) inside = (λ p. (record { number = y; stands = inside y refl }, (refl, p)), λ w. let e : Some y ≡ Some w.0.number = w.1.0 in let s : w.0.number ≡ y = cc in subst (λ x. T (row x)) s w.1.1)

  every_there : (row : ℕ → Bool) (o : Option ℕ) → ((y : ℕ) → o ≡ Some y → y < t.count) → Iff (T (at_or true row o)) ((y : Node t) → o ≡ Some y.number → T (row y.number))
  every_there row None inside = (λ p y e. let z : ◌≡◌ {A = ℕ} 0 1 = cc in absurd (omega arith), λ h. tt)
  every_there row (Some y) inside = (λ p w e. let s : y ≡ w.number = cc in subst (λ x. T (row x)) s p, λ h. h (record { number = y; stands = inside y refl }) refl)

-- a term gives yes at a node just where the node satisfies the term's formula
pub grade_holds : {t : Tree} → TreeLaws t → (labels ρ : Grades Bool) (m : Term) (z : Node t) → Iff (T (grade_of_lem yes_no t labels ρ m z.number)) (Holds t (nodes_of t labels) (nodes_of t ρ) (formula_of m) z)
grade_holds nodes labels ρ (Mark a) z = (λ p. p, λ p. p)
grade_holds nodes labels ρ (Turn a) z = (T_not (ρ a z.number), not_T (ρ a z.number))
grade_holds nodes labels ρ (Meet a b) z = and_parts (ρ a z.number) (ρ b z.number)
grade_holds nodes labels ρ (Join a b) z = or_parts (ρ a z.number) (ρ b z.number)
grade_holds {t} nodes labels ρ (SomeNeighbour axis a) z = some_there t (ρ a) (along t axis z.number) (nodes.inside axis z.number)
grade_holds {t} nodes labels ρ (EveryNeighbour axis a) z = every_there t (ρ a) (along t axis z.number) (nodes.inside axis z.number)
grade_holds nodes labels ρ Lowest z = (λ p. p, λ p. p)
grade_holds nodes labels ρ Highest z = (λ p. p, λ p. p)
