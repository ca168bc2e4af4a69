-- The trees of the examples keep the laws.
use Rattle.std.proofs.Common.{◌≡◌, ℕ, ◌<◌, ◌≤◌, eqb, Some, None, Option, sym, refl, ap, ◌∙◌, inl, inr, arith, lit≤}
use Rattle.std.proofs.lemmas.Option.{none-some}
use Rattle.std.proofs.lemmas.Bool.{cond-true, cond-false, eq-eqb, ne_eqb, cases_eq}
use Rattle.shapes.specs.declared.axis.Axis.{Axis}
use Rattle.shapes.specs.declared.axis.Axis.TheVariants.{First, Next, Owner, Previous}
use Rattle.shapes.specs.Tree.{Laws, EitherOne, Present, along, back}
use Rattle.meaning.specs.Examples.{only, one_node, two_nodes, three_nodes}

never : {A : Type 0} (y : ℕ) → ◌≡◌ {A = Option ℕ} None (Some y) → A
never y e = absurd (none-some y e)

module _ (a b x : ℕ) where
  only_there : x ≡ a → only a b x ≡ Some b
  only_there e = cond-true (eqb x a) _ _ (eq-eqb x a e)

  only_else : (x ≡ a → ⊥) → only a b x ≡ None
  only_else ne = cond-false (eqb x a) _ _ (ne_eqb x a ne)

  only_tells : (y : ℕ) → only a b x ≡ Some y → (x ≡ a) × (y ≡ b)
  only_tells y e =
      elim (cases_eq x a) [
        | inl s ↦ (s, let p : Some b ≡ Some y = sym (only_there s) ∙ e in cc)
        | inr ne ↦ never y (sym (only_else ne) ∙ e)
      ]

only_back : (a b x y : ℕ) → only a b x ≡ Some y → only b a y ≡ Some x
only_back a b x y e = let w : (x ≡ a) × (y ≡ b) = only_tells a b x y e in only_there b a y w.1 ∙ ap Some (sym w.0)

-- the root alone has neither owner nor previous node
pub one_lawful : Laws one_node
one_lawful = record {
  countable = (lit≤ tt, lit≤ tt);
  outside = outside;
  inside = inside;
  reversed = λ a x y e. reversed a x y e;
  root_owner = refl;
  root_previous = refl;
  root_next = refl;
  one_way_in = λ y h l. absurd (omega arith);
  level = λ x. x;
  level_root = refl;
  level_other = λ y h _. h;
  level_first = λ x y e. never y e;
  level_next = λ x y e. never y e;
}
  where
    outside : (a : Axis) (x : ℕ) → 1 ≤ x → along one_node a x ≡ None
    outside First x h = refl
    outside Next x h = refl
    outside Owner x h = refl
    outside Previous x h = refl

    inside : (a : Axis) (x y : ℕ) → along one_node a x ≡ Some y → y < 1
    inside First x y e = never y e
    inside Next x y e = never y e
    inside Owner x y e = never y e
    inside Previous x y e = never y e

    reversed : (a : Axis) (x y : ℕ) → along one_node a x ≡ Some y → along one_node (back a) y ≡ Some x
    reversed First x y e = never y e
    reversed Next x y e = never y e
    reversed Owner x y e = never y e
    reversed Previous x y e = never y e

pub two_lawful : Laws two_nodes
two_lawful = record {
  countable = (lit≤ tt, lit≤ tt);
  outside = outside;
  inside = inside;
  reversed = reversed;
  root_owner = refl;
  root_previous = refl;
  root_next = refl;
  one_way_in = λ y h l. inl ((0, only_there 1 0 y (omega arith)), λ p. never p.0 p.1);
  level = λ x. x;
  level_root = refl;
  level_other = λ y h _. h;
  level_first = λ x y e. omega (arith, only_tells 0 1 x y e);
  level_next = λ x y e. never y e;
}
  where
    outside : (a : Axis) (x : ℕ) → 2 ≤ x → along two_nodes a x ≡ None
    outside First x h = only_else 0 1 x (λ e. omega arith)
    outside Next x h = refl
    outside Owner x h = only_else 1 0 x (λ e. omega arith)
    outside Previous x h = refl

    inside : (a : Axis) (x y : ℕ) → along two_nodes a x ≡ Some y → y < 2
    inside First x y e = omega (arith, only_tells 0 1 x y e)
    inside Next x y e = never y e
    inside Owner x y e = omega (arith, only_tells 1 0 x y e)
    inside Previous x y e = never y e

    reversed : (a : Axis) (x y : ℕ) → along two_nodes a x ≡ Some y → along two_nodes (back a) y ≡ Some x
    reversed First x y e = only_back 0 1 x y e
    reversed Next x y e = never y e
    reversed Owner x y e = only_back 1 0 x y e
    reversed Previous x y e = never y e

pub three_lawful : Laws three_nodes
three_lawful = record {
  countable = (lit≤ tt, lit≤ tt);
  outside = outside;
  inside = inside;
  reversed = reversed;
  root_owner = refl;
  root_previous = refl;
  root_next = refl;
  one_way_in = one_way_in;
  level = λ x. x;
  level_root = refl;
  level_other = λ y h _. h;
  level_first = λ x y e. omega (arith, only_tells 0 1 x y e);
  level_next = λ x y e. omega (arith, only_tells 1 2 x y e);
}
  where
    outside : (a : Axis) (x : ℕ) → 3 ≤ x → along three_nodes a x ≡ None
    outside First x h = only_else 0 1 x (λ e. omega arith)
    outside Next x h = only_else 1 2 x (λ e. omega arith)
    outside Owner x h = only_else 1 0 x (λ e. omega arith)
    outside Previous x h = only_else 2 1 x (λ e. omega arith)

    inside : (a : Axis) (x y : ℕ) → along three_nodes a x ≡ Some y → y < 3
    inside First x y e = omega (arith, only_tells 0 1 x y e)
    inside Next x y e = omega (arith, only_tells 1 2 x y e)
    inside Owner x y e = omega (arith, only_tells 1 0 x y e)
    inside Previous x y e = omega (arith, only_tells 2 1 x y e)

    reversed : (a : Axis) (x y : ℕ) → along three_nodes a x ≡ Some y → along three_nodes (back a) y ≡ Some x
    reversed First x y e = only_back 0 1 x y e
    reversed Next x y e = only_back 1 2 x y e
    reversed Owner x y e = only_back 1 0 x y e
    reversed Previous x y e = only_back 2 1 x y e

    one_way_in : (y : ℕ) → 0 < y → y < 3 → EitherOne (Present (three_nodes.owner y)) (Present (three_nodes.previous y))
    one_way_in y h l =
        elim (cases_eq y 1) [
          | inl e ↦ inl ((0, only_there 1 0 y e), λ p. omega (arith, only_tells 2 1 y p.0 p.1))
          | inr ne ↦ inr (λ p. omega (arith, only_tells 1 0 y p.0 p.1), (1, only_there 2 1 y (omega arith)))
        ]
