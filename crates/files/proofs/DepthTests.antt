-- The tree of a list of depths, tested node by node.
use Rattle.std.proofs.Common.{◌≡◌, ℕ, zero, suc, ◌+◌, ◌<◌, Bool, true, ◌&&◌, ◌||◌, eqb, ltb, leb, Decides, List, length, Some, sym, refl, ◌∙◌, subst, arith}
use Rattle.std.proofs.lemmas.Bool.{agree_below, agree_below_at, and_parts}
use Rattle.std.proofs.lemmas.Bool.Decides.{Decides-and, Decides-below_and, Decides-like, Decides-ltb, nat_tests}
use Rattle.shapes.specs.declared.axis.Axis.{Axis}
use Rattle.shapes.specs.declared.axis.Axis.TheVariants.{First, Next, Owner, Previous}
use Rattle.shapes.specs.Depths.{FirstChild, NextSibling, Neighbour, DepthTree, depth_at}
use Rattle.shapes.specs.Tree.{Tree, Laws as TreeLaws, along}
use Rattle.shapes.specs.Trees.{starts_inside}
use Rattle.files.proofs.ComputedSteps.{is_at, is_at_tells, is_at_there}
use Rattle.files.proofs.Decided.{eq_decides}

-- a test that passes at every number below
abbrev pub all_test : (ℕ → Bool) → ℕ → Bool
all_test test zero = true
all_test test (suc n) = test n && all_test test n

module _ (ds : List ℕ) where
  abbrev pub child_test : ℕ → ℕ → Bool
  child_test x y = eqb y (x + 1) && (ltb y (length ds) && eqb (depth_at ds y) (depth_at ds x + 1))

  abbrev pub deeper_between : ℕ → ℕ → Bool
  deeper_between x k = leb k x || ltb (depth_at ds x) (depth_at ds k)

  abbrev pub sibling_test : ℕ → ℕ → Bool
  sibling_test x y = ltb x y && (ltb y (length ds) && (eqb (depth_at ds y) (depth_at ds x) && all_test (deeper_between x) y))

  abbrev pub neighbour_test : Axis → ℕ → ℕ → Bool
  neighbour_test First x y = child_test x y
  neighbour_test Next x y = sibling_test x y
  neighbour_test Owner x y = child_test y x
  neighbour_test Previous x y = sibling_test y x

  child_decides : (x y : ℕ) → Decides (child_test x y) (FirstChild ds x y)
  child_decides x y =
      Decides-like (child_test x y) (λ (a, (b, c)). record { after = a; node = b; deeper = c }) (λ c. (c.after, (c.node, c.deeper)))
      (Decides-and _ _ (eq_decides y (x + 1)) (Decides-and _ _ (Decides-ltb y (length ds)) (eq_decides (depth_at ds y) (depth_at ds x + 1))))

  deeper_decides : (x k : ℕ) → Decides (deeper_between x k) (x < k → depth_at ds x < depth_at ds k)
  deeper_decides x k = (λ e after. grind (arith, nat_tests), λ h. grind (arith, nat_tests))

  sibling_decides : (x y : ℕ) → Decides (sibling_test x y) (NextSibling ds x y)
  sibling_decides x y =
      Decides-like (sibling_test x y) (λ (a, (b, (c, d))). record { later = a; node = b; level = c; between = λ k l m. d k m l }) (λ s. (s.later, (s.node, (s.level, λ k l m. s.between k m l))))
      (Decides-and _ _ (Decides-ltb x y) (Decides-and _ _ (Decides-ltb y (length ds)) (Decides-and _ _ (eq_decides (depth_at ds y) (depth_at ds x))
      (Decides-below_and (deeper_between x) (λ k. x < k → depth_at ds x < depth_at ds k) (all_test (deeper_between x)) (deeper_decides x) refl (λ _. refl) y))))

  pub neighbour_decides : (a : Axis) (x y : ℕ) → Decides (neighbour_test a x y) (Neighbour ds a x y)
  neighbour_decides First x y = child_decides x y
  neighbour_decides Next x y = sibling_decides x y
  neighbour_decides Owner x y = child_decides y x
  neighbour_decides Previous x y = sibling_decides y x

  -- neighbours are nodes
  neighbours_inside : (a : Axis) (x y : ℕ) → Neighbour ds a x y → (x < length ds) × (y < length ds)
  neighbours_inside First x y n = let after = n.after in let node = n.node in (omega arith, omega arith)
  neighbours_inside Next x y n = let later = n.later in let node = n.node in (omega arith, omega arith)
  neighbours_inside Owner x y n = let after = n.after in let node = n.node in (omega arith, omega arith)
  neighbours_inside Previous x y n = let later = n.later in let node = n.node in (omega arith, omega arith)

  module _ (t : Tree) where
    abbrev node_test : Axis → ℕ → Bool
    node_test a x = agree_below (is_at (along t a x)) (neighbour_test a x) (length ds)

    abbrev axis_test : Axis → Bool
    axis_test a = agree_below (node_test a) (λ x. true) (length ds)

    abbrev pub tree_test : Bool
    tree_test = axis_test First && (axis_test Next && (axis_test Owner && axis_test Previous))

    each_axis : tree_test ≡ true → (a : Axis) → axis_test a ≡ true
    each_axis e = at
      where
        first : (axis_test First ≡ true) × ((axis_test Next && (axis_test Owner && axis_test Previous)) ≡ true)
        first = and_parts (axis_test First) (axis_test Next && (axis_test Owner && axis_test Previous)) e

        second : (axis_test Next ≡ true) × ((axis_test Owner && axis_test Previous) ≡ true)
        second = and_parts (axis_test Next) (axis_test Owner && axis_test Previous) first.1

        at : (a : Axis) → axis_test a ≡ true
        at First = first.0
        at Next = second.0
        at Owner = (and_parts (axis_test Owner) (axis_test Previous) second.1).0
        at Previous = (and_parts (axis_test Owner) (axis_test Previous) second.1).1

    -- a lawful tree that passes the test is the tree of the depths
    pub tested : TreeLaws t → t.count ≡ length ds → tree_test ≡ true → DepthTree ds t
    tested laws count e = record { count = count; maps = λ a x y. (told a x y, found a x y) }
      where
        same : (a : Axis) (x y : ℕ) → x < length ds → y < length ds → is_at (along t a x) y ≡ neighbour_test a x y
        same a x y inside inside' = agree_below_at (is_at (along t a x)) (neighbour_test a x) (length ds) y (agree_below_at (node_test a) (λ x. true) (length ds) x (each_axis e a) inside) inside'

        told : (a : Axis) (x y : ℕ) → along t a x ≡ Some y → Neighbour ds a x y
        told a x y is =
            let inside : x < length ds = subst (λ n. x < n) count (starts_inside t laws a x y is) in
            let inside' : y < length ds = subst (λ n. y < n) count (laws.inside a x y is) in
            (neighbour_decides a x y).0 (sym (same a x y inside inside') ∙ is_at_there (along t a x) y is)

        found : (a : Axis) (x y : ℕ) → Neighbour ds a x y → along t a x ≡ Some y
        found a x y n =
            let inside = neighbours_inside a x y n in
            is_at_tells (along t a x) y (same a x y inside.0 inside.1 ∙ (neighbour_decides a x y).1 n)
