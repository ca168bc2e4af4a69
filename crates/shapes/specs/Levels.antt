-- Each node's distance from the root along first and next, worked out breadth first.
use Rattle.std.specs.Prelude.{ℕ, zero, suc, ◌+◌, Bool, cond, ◌&&◌, List, [], ◌∷◌, ◌++◌, length, is_none, replicate, Some, None, Option, vec_items, nat_lt, slice_index_or, slice_set}
use Rattle.shapes.specs.declared.levels.search.Search.{Search}
use Rattle.shapes.specs.Tree.{Tree}

-- the level of each node, none where it is not reached yet; and the nodes reached and not yet visited, with their levels
pub record Reached : Type 0 where
  pub levels : List (Option ℕ)
  pub waiting : List (ℕ × ℕ)

abbrev pub reached : Search → Reached
reached s = record { levels = vec_items s.levels; waiting = s.waiting.items }

abbrev pub level_of : List (Option ℕ) → ℕ → Option ℕ
level_of levels x = slice_index_or levels x None

abbrev pub untouched : ℕ → Reached
untouched n = record { levels = replicate n None; waiting = [] }

-- a node that has no level yet
abbrev pub is_new : List (Option ℕ) → ℕ → Bool
is_new levels x = nat_lt x (length levels) && is_none (level_of levels x)

abbrev pub with_node : ℕ → ℕ → Reached → Reached
with_node level x s = record { levels = slice_set s.levels x (Some level); waiting = s.waiting ++ (x, level) ∷ [] }

abbrev pub reach : ℕ → Option ℕ → Reached → Reached
reach level None s = s
reach level (Some x) s = cond (is_new s.levels x) (with_node level x s) s

-- what a node leads to is reached a level below it
abbrev pub visit : Tree → ℕ → ℕ → Reached → Reached
visit t x level s = reach (level + 1) (t.next x) (reach (level + 1) (t.first x) s)

-- the visit to the node that waits longest
abbrev pub advance : Tree → List (Option ℕ) → List (ℕ × ℕ) → Reached
advance t levels [] = record { levels = levels; waiting = [] }
advance t levels (a ∷ rest) = visit t a.0 a.1 (record { levels = levels; waiting = rest })

-- after the first i visits
abbrev pub visited : Tree → ℕ → Reached
visited t zero = reach 0 (Some 0) (untouched t.count)
visited t (suc i) = advance t (visited t i).levels (visited t i).waiting

-- there are no more visits than nodes
unfoldable pub levels_of_lem : Tree → List (Option ℕ)
levels_of_lem t = (visited t t.count).levels
