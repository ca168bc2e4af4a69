-- Being lawful, and having the tree of the depths, are propositions, so a struct may hold them as facts.
use Rattle.std.specs.Prelude.{ℕ, List, Some, None, Option, refl}
use Rattle.std.proofs.Common.{ap}
use mathlib.Core.HLevel.{Π_prop, ×_prop, hedberg}
use Rattle.std.proofs.Math.Bridge.{le_prop}
use Rattle.std.proofs.Math.Decide.{ℕ_discrete}
use Rattle.std.proofs.Math.Nat.{ℕ_set}
use Rattle.shapes.specs.declared.axis.Axis.{Axis}
use Rattle.shapes.specs.declared.axis.Axis.TheVariants.{First, Next, Owner, Previous}
use Rattle.shapes.specs.Tree.{Tree, along}
use Rattle.shapes.specs.Depths.{KeepsRule, LawfulDepths, FirstChild, NextSibling, Neighbour, DepthTree}

option_discrete : Discrete (Option ℕ)
option_discrete None None = yes refl
option_discrete None (Some y) = no (λ e. cc)
option_discrete (Some x) None = no (λ e. cc)
option_discrete (Some x) (Some y) = elim (ℕ_discrete x y) [ yes e ↦ yes (ap Some e) | no n ↦ no (λ e. n (cc)) ]

rule_prop : (ds : List ℕ) (x : ℕ) → IsProp (KeepsRule ds x)
rule_prop ds x p q = λ i. record {
  root = λ e. ℕ_set _ _ (p.root e) (q.root e) i;
  other = λ h. le_prop (p.other h) (q.other h) i;
  rises = λ h. le_prop (p.rises h) (q.rises h) i;
}

pub lawful_prop : (ds : List ℕ) → IsProp (LawfulDepths ds)
lawful_prop ds = Π_prop λ x. Π_prop λ h. rule_prop ds x

child_prop : (ds : List ℕ) (x y : ℕ) → IsProp (FirstChild ds x y)
child_prop ds x y p q = λ i. record {
  after = ℕ_set _ _ p.after q.after i;
  node = le_prop p.node q.node i;
  deeper = ℕ_set _ _ p.deeper q.deeper i;
}

sibling_prop : (ds : List ℕ) (x y : ℕ) → IsProp (NextSibling ds x y)
sibling_prop ds x y p q = λ i. record {
  later = le_prop p.later q.later i;
  node = le_prop p.node q.node i;
  level = ℕ_set _ _ p.level q.level i;
  between = λ k a b. le_prop (p.between k a b) (q.between k a b) i;
}

neighbour_prop : (ds : List ℕ) (a : Axis) (x y : ℕ) → IsProp (Neighbour ds a x y)
neighbour_prop ds First x y = child_prop ds x y
neighbour_prop ds Next x y = sibling_prop ds x y
neighbour_prop ds Owner x y = child_prop ds y x
neighbour_prop ds Previous x y = sibling_prop ds y x

pub tree_prop : (ds : List ℕ) (t : Tree) → IsProp (DepthTree ds t)
tree_prop ds t p q = λ i. record {
  count = ℕ_set _ _ p.count q.count i;
  maps = λ a x y.
      ×_prop (Π_prop λ e. neighbour_prop ds a x y) (Π_prop λ n. hedberg option_discrete (along t a x) (Some y)) (p.maps a x y) (q.maps a x y) i;
}
