-- What a depth shape holds: for each node its depth, and its next and its previous sibling.
use Rattle.std.specs.Prelude.{◌≡◌, ℕ, ◌+◌, ◌-◌, ◌<◌, ◌≤◌, Bool, cond, ◌&&◌, List, length, map, Some, None, nat_lt, slice_index, slice_index_or}
use Rattle.shapes.specs.declared.depth.node.DepthNode.{DepthNode}
use Rattle.shapes.specs.Depths.{depth_at, KeepsRule, DepthTree}
use Rattle.shapes.specs.Tree.{Tree}

-- the first node whose depth breaks the rule
pub record FirstFault (ds : List ℕ) (node : ℕ) : Type 0 where
  pub inside : node < length ds
  pub broken : KeepsRule ds node → ⊥
  pub before : (x : ℕ) → x < node → KeepsRule ds x

-- p is the latest node before x of depth d, and all since are deeper
pub record Latest (ds : List ℕ) (x d p : ℕ) : Type 0 where
  pub before : p < x
  pub level : depth_at ds p ≡ d
  pub since : (k : ℕ) → p < k → k < x → d < depth_at ds k

-- the table has the latest node before x of each depth down from that of the node just before
abbrev pub AllLatest : List ℕ → ℕ → List ℕ → Type 0
AllLatest ds x table = 0 < x → (d : ℕ) → d ≤ depth_at ds (x - 1) → Latest ds x d (slice_index table d)

-- what is held of a number that is no node
abbrev pub no_node : DepthNode
no_node = record { depth = 0; next = None; previous = None }

abbrev pub node_at : List DepthNode → ℕ → DepthNode
node_at nodes x = slice_index_or nodes x no_node

abbrev pub depths_of : List DepthNode → List ℕ
depths_of nodes = map (λ n. n.depth) nodes

-- node y is deeper than the one before it
abbrev pub deeper : List DepthNode → ℕ → Bool
deeper nodes y = nat_lt y (length nodes) && nat_lt (node_at nodes (y - 1)).depth (node_at nodes y).depth

-- a node that is deeper than the one before it is that one's first child; the siblings stand in the nodes
abbrev pub nodes_tree : List DepthNode → Tree
nodes_tree nodes = record {
  count = length nodes;
  first = λ x. cond (deeper nodes (x + 1)) (Some (x + 1)) None;
  next = λ x. (node_at nodes x).next;
  owner = λ x. cond (deeper nodes x) (Some (x - 1)) None;
  previous = λ x. (node_at nodes x).previous;
}

-- the nodes have these depths, and their tree
pub record DepthNodes (ds : List ℕ) (nodes : List DepthNode) : Type 0 where
  pub depths : depths_of nodes ≡ ds
  pub tree : DepthTree ds (nodes_tree nodes)
