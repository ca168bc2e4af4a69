-- Every list of depths has a tree, and so have contents that have no cause to be refused.
use Rattle.std.proofs.Common.{◌≡◌, ℕ, ◌<◌, List, length, Some, None, Option, refl, sym, ap, ◌∙◌, subst, arith}
use Rattle.shapes.specs.declared.axis.Axis.{Axis}
use Rattle.shapes.specs.declared.axis.Axis.TheVariants.{First, Next, Owner, Previous}
use Rattle.shapes.specs.DepthLaws.{neighbour_node}
use Rattle.shapes.specs.Depths.{DepthTree, Neighbour}
use Rattle.shapes.specs.MirrorLaws.{mirror_means}
use Rattle.shapes.specs.Mirrors.{mirror}
use Rattle.shapes.specs.Tree.{Tree, Iff, along, tree}
use Rattle.shapes.proofs.DepthSteps.{next_once, previous_once}
use Rattle.surveys.proofs.Reaching.{some_below}
use Rattle.files.specs.declared.head.Hand.{Hand}
use Rattle.files.specs.declared.head.Hand.TheVariants.{AsListed, Mirrored}
use Rattle.files.specs.declared.tables.Room.{Room}
use Rattle.files.specs.Causes.{NoCause, depths_in}
use Rattle.files.specs.Contents.{Contents, TermsThere}
use Rattle.files.specs.Files.{TreeOf}
use Rattle.files.proofs.Decided.{decides?}
use Rattle.files.proofs.DepthTests.{neighbour_decides}
use Rattle.files.proofs.LawfulContents.{depth_tree_laws}

neighbour? : (ds : List ℕ) (a : Axis) (x y : ℕ) → Dec (Neighbour ds a x y)
neighbour? ds a x y = decides? _ (neighbour_decides ds a x y)

-- a node has one neighbour along an axis at most
neighbour_once : (ds : List ℕ) (a : Axis) (x y z : ℕ) → Neighbour ds a x y → Neighbour ds a x z → y ≡ z
neighbour_once ds First x y z c d = c.after ∙ sym d.after
neighbour_once ds Next x y z s t = omega (arith, next_once ds x y z s t, next_once ds x z y t s)
neighbour_once ds Owner x y z c d = omega (arith, c.after, d.after)
neighbour_once ds Previous x y z s t = omega (arith, previous_once ds y z x s t, previous_once ds z y x t s)

-- what was found, if it was
taken : {P : ℕ → Type 0} {n : ℕ} → Dec ((i : ℕ) × ((i < n) × P i)) → Option ℕ
taken (yes h) = Some h.0
taken (no none) = None

taken_is : (P : ℕ → Type 0) (n : ℕ) → ((i : ℕ) → P i → i < n) → ((i j : ℕ) → P i → P j → i ≡ j) → (d : Dec ((i : ℕ) × ((i < n) × P i))) (y : ℕ) → Iff (taken d ≡ Some y) (P y)
unfolding taken
taken_is P n inside once (yes h) y = ((λ e. let same : h.0 ≡ y = cc in subst P same h.1.1), (λ p. ap Some (once h.0 y h.1.1 p)))
taken_is P n inside once (no none) y = ((λ e. cc), (λ p. absurd (none (y, (inside y p, p)))))

module _ (ds : List ℕ) where
  near : Axis → ℕ → Option ℕ
  near a x = taken (some_below (Neighbour ds a x) (neighbour? ds a x) (length ds))

  near_is : (a : Axis) (x y : ℕ) → Iff (near a x ≡ Some y) (Neighbour ds a x y)
  unfolding near
  near_is a x y = taken_is (Neighbour ds a x) (length ds) (λ i n. (neighbour_node ds a x i n).1) (neighbour_once ds a x) (some_below (Neighbour ds a x) (neighbour? ds a x) (length ds)) y

  abbrev depth_tree : Tree
  depth_tree = tree (length ds) (near First) (near Next) (near Owner) (near Previous)

  maps : (a : Axis) (x y : ℕ) → Iff (along depth_tree a x ≡ Some y) (Neighbour ds a x y)
  maps First = near_is First
  maps Next = near_is Next
  maps Owner = near_is Owner
  maps Previous = near_is Previous

  depth_tree_is : DepthTree ds depth_tree
  depth_tree_is = record { count = refl; maps = maps }

pub some_tree : {room : Room} {c : Contents} {rest : List ℕ} → NoCause room c rest → TermsThere c → (h : Hand) → (t : Tree) × TreeOf c h t
some_tree {c = c} none there AsListed = (depth_tree (depths_in c), depth_tree_is (depths_in c))
some_tree {c = c} none there Mirrored =
    let d = depth_tree_is (depths_in c) in
    (mirror (depth_tree (depths_in c)), (depth_tree (depths_in c), (d, mirror_means (depth_tree (depths_in c)) (depth_tree_laws none there (depth_tree (depths_in c)) d))))
