-- What a linked shape means, and what its filling comes to.
use Rattle.std.specs.Prelude.{◌≡◌, List, [], ◌∷◌, length, vec_items, Result, MatchResult}
use Rattle.shapes.specs.declared.linked.LinkedShape.{LinkedShape}
use Rattle.shapes.specs.declared.links.Links.{Links}
use Rattle.shapes.specs.declared.refusal.ShapeRefusal.{ShapeRefusal}
use Rattle.shapes.specs.declared.refusal.ShapeRefusal.TheVariants.{NodeCount, BrokenLinks, UnlawfulDepth, NoMemory}
use Rattle.shapes.specs.Links.{no_links, linked_tree}
use Rattle.shapes.specs.Tree.{Tree, Laws, Countable, SameTree}

abbrev pub linked_shape_tree : LinkedShape → Tree
linked_shape_tree s = linked_tree (vec_items s.rows)

-- a new shape is a single node
abbrev pub OneNode : Result LinkedShape ShapeRefusal → Type 0
OneNode r = MatchResult r (λ s. SameTree (linked_shape_tree s) (linked_tree (no_links ∷ []))) (λ e. e ≡ NoMemory)

-- what each refusal of a table says
abbrev pub RefusedTable : List Links → ShapeRefusal → Type 0
RefusedTable rows NodeCount = Countable (length rows) → ⊥
RefusedTable rows BrokenLinks = Countable (length rows) × (Laws (linked_tree rows) → ⊥)
RefusedTable rows (UnlawfulDepth node) = ⊥
RefusedTable rows NoMemory = Countable (length rows)

pub record Filled (rows : List Links) (after : LinkedShape) : Type 0 where
  pub laws : Laws (linked_tree rows)
  pub same : SameTree (linked_shape_tree after) (linked_tree rows)

pub record Unfilled (rows : List Links) (before after : LinkedShape) (e : ShapeRefusal) : Type 0 where
  pub unchanged : after ≡ before
  pub why : RefusedTable rows e

-- a table is taken just where it obeys the laws, want of memory apart
abbrev pub FillOutcome : {X : Type 0} → List Links → LinkedShape → LinkedShape → Result X ShapeRefusal → Type 0
FillOutcome rows before after r = MatchResult r (λ _. Filled rows after) (Unfilled rows before after)
