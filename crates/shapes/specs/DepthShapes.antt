-- What a depth shape means, and what filling one does.
use Rattle.std.specs.Prelude.{◌≡◌, ℕ, List, length, Ok, Err, vec_items, Result}
use Rattle.shapes.specs.declared.depth.DepthShape.{DepthShape}
use Rattle.shapes.specs.declared.refusal.ShapeRefusal.{ShapeRefusal}
use Rattle.shapes.specs.declared.refusal.ShapeRefusal.TheVariants.{NodeCount, BrokenLinks, UnlawfulDepth, NoMemory}
use Rattle.shapes.specs.Tree.{Tree, Countable}
use Rattle.shapes.specs.Depths.{LawfulDepths, DepthTree}
use Rattle.shapes.specs.DepthTables.{FirstFault, nodes_tree}

abbrev pub depth_shape_tree : DepthShape → Tree
depth_shape_tree s = nodes_tree (vec_items s.nodes)

-- the shape has the tree of these depths, which are lawful
pub record HasDepths (ds : List ℕ) (s : DepthShape) : Type 0 where
  pub countable : Countable (length ds)
  pub lawful : LawfulDepths ds
  pub tree : DepthTree ds (depth_shape_tree s)

-- what is wrong with these depths; a want of memory says that nothing is
abbrev pub DepthsRefused : List ℕ → ShapeRefusal → Type 0
DepthsRefused ds NodeCount = Countable (length ds) → ⊥
DepthsRefused ds BrokenLinks = ⊥
DepthsRefused ds (UnlawfulDepth node) = Countable (length ds) × FirstFault ds node
DepthsRefused ds NoMemory = Countable (length ds) × LawfulDepths ds

-- a filling gives the shape the tree of the depths, or leaves it as it was
abbrev pub DepthsFilled : List ℕ → DepthShape → DepthShape → Result (Unit {0}) ShapeRefusal → Type 0
DepthsFilled ds before after (Ok _) = HasDepths ds after
DepthsFilled ds before after (Err e) = (after ≡ before) × DepthsRefused ds e
