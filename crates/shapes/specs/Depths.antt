-- The sibling tree of a depth list: one depth per node, in document order.
use Rattle.std.specs.Prelude.{◌≡◌, ℕ, ◌+◌, ◌-◌, ◌<◌, ◌≤◌, List, length, Some, slice_index}
use Rattle.shapes.specs.declared.axis.Axis.{Axis}
use Rattle.shapes.specs.declared.axis.Axis.TheVariants.{First, Next, Owner, Previous}
use Rattle.shapes.specs.Tree.{Tree, Iff, along}

abbrev pub depth_at : List ℕ → ℕ → ℕ
depth_at ds x = slice_index ds x

-- the rule for the depth of one node: 0 at the root only, and at most one more than that of the node before
pub record KeepsRule (ds : List ℕ) (x : ℕ) : Type 0 where
  pub root : x ≡ 0 → depth_at ds x ≡ 0
  pub other : 0 < x → 1 ≤ depth_at ds x
  pub rises : 0 < x → depth_at ds x ≤ depth_at ds (x - 1) + 1

abbrev pub LawfulDepths : List ℕ → Type 0
LawfulDepths ds = (x : ℕ) → x < length ds → KeepsRule ds x

-- the first child is the node after, one deeper
pub record FirstChild (ds : List ℕ) (x y : ℕ) : Type 0 where
  pub after : y ≡ x + 1
  pub node : y < length ds
  pub deeper : depth_at ds y ≡ depth_at ds x + 1

-- the next sibling is the nearest later node of equal depth, with no smaller depth between; so all between are deeper
pub record NextSibling (ds : List ℕ) (x y : ℕ) : Type 0 where
  pub later : x < y
  pub node : y < length ds
  pub level : depth_at ds y ≡ depth_at ds x
  pub between : (k : ℕ) → x < k → k < y → depth_at ds x < depth_at ds k

abbrev pub Neighbour : List ℕ → Axis → ℕ → ℕ → Type 0
Neighbour ds First x y = FirstChild ds x y
Neighbour ds Next x y = NextSibling ds x y
Neighbour ds Owner x y = FirstChild ds y x
Neighbour ds Previous x y = NextSibling ds y x

-- the tree has a node for each depth, and the neighbours that the depths tell
pub record DepthTree (ds : List ℕ) (t : Tree) : Type 0 where
  pub count : t.count ≡ length ds
  pub maps : (a : Axis) (x y : ℕ) → Iff (along t a x ≡ Some y) (Neighbour ds a x y)
