-- A test of each node that a tree passes just where its laws hold, given the level of each node.
use Rattle.std.specs.Prelude.{◌≡◌, ℕ, ◌+◌, ◌<◌, Bool, true, false, cond, not, ◌&&◌, List, length, is_some, Some, None, Option, ◌==◌, nat_eq, nat_lt}
use Rattle.std.specs.Option.{option_eq, option_map, unwrap_or}
use Rattle.shapes.specs.declared.axis.Axis.{Axis}
use Rattle.shapes.specs.declared.axis.Axis.TheVariants.{First, Next, Owner, Previous}
use Rattle.shapes.specs.declared.links.Links.{Links}
use Rattle.shapes.specs.Levels.{level_of, levels_of_lem}
use Rattle.shapes.specs.Links.{linked_tree}
use Rattle.shapes.specs.Tree.{Tree, Laws, along, back}

-- what the axis leads to is a node, and leads back
abbrev pub answered : Tree → Axis → ℕ → Option ℕ → Bool
answered t a x None = true
answered t a x (Some y) = nat_lt y t.count && option_eq nat_eq (along t (back a) y) (Some x)

abbrev pub answered_at : Tree → ℕ → Axis → Bool
answered_at t x a = answered t a x (along t a x)

abbrev pub all_answered_lem : Tree → ℕ → Bool
all_answered_lem t x = (answered_at t x First && answered_at t x Next) && (answered_at t x Owner && answered_at t x Previous)

-- the level grows by 1
abbrev pub rises : (ℕ → Option ℕ) → ℕ → Option ℕ → Bool
rises level x None = true
rises level x (Some y) = option_eq nat_eq (level y) (option_map (λ n. n + 1) (level x))

abbrev pub both_rise_lem : Tree → (ℕ → Option ℕ) → ℕ → Bool
both_rise_lem t level x = rises level x (t.first x) && rises level x (t.next x)

-- the root stands alone at level 0
abbrev pub root_alone_lem : Tree → (ℕ → Option ℕ) → Bool
root_alone_lem t level = (option_eq nat_eq (level 0) (Some 0) && not (is_some (t.next 0))) && (not (is_some (t.owner 0)) && not (is_some (t.previous 0)))

-- just one of owner and previous, and a level above 0
abbrev pub one_entry : Tree → (ℕ → Option ℕ) → ℕ → Bool
one_entry t level x = nat_lt 0 (unwrap_or (level x) 0) && cond (is_some (t.owner x)) (not (is_some (t.previous x))) (is_some (t.previous x))

abbrev pub entered : Tree → (ℕ → Option ℕ) → ℕ → Bool
entered t level x = cond (x == 0) (root_alone_lem t level) (one_entry t level x)

abbrev pub certified : Tree → (ℕ → Option ℕ) → ℕ → Bool
certified t level x = all_answered_lem t x && (both_rise_lem t level x && entered t level x)

-- the test of a node of a table
unfoldable pub certified_at : List Links → List (Option ℕ) → ℕ → Bool
certified_at rows levels x = certified (linked_tree rows) (level_of levels) x

-- every node of the table passes, at the levels that the table tells
abbrev pub Certified : List Links → Type 0
Certified rows = (x : ℕ) → x < length rows → certified_at rows (levels_of_lem (linked_tree rows)) x ≡ true

-- what the answer to all the tests tells
abbrev pub Verdict : List Links → Bool → Type 0
Verdict rows b = (b ≡ true → Certified rows × Laws (linked_tree rows)) × (b ≡ false → Laws (linked_tree rows) → ⊥)
