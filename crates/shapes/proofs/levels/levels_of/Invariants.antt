use Rattle.std.proofs.Common.{◌≡◌, ℕ, ◌+◌, ◌-◌, length, vec_items}
use Rattle.shapes.specs.Levels.{reached, visited}
use Rattle.shapes.specs.Links.{linked_tree}
use Rattle.shapes.proofs.Reaching.{knowns}
use Rattle.shapes.proofs.levels.levels_of.Given as goal

-- after some number of visits
abbrev pub invariant-loop-node : goal.invariant-loop-node
invariant-loop-node l = (i : ℕ) × (reached l.search ≡ visited (linked_tree l.rows) i)

abbrev pub decreases-loop-node : goal.decreases-loop-node
decreases-loop-node l = length l.search.waiting.items + (length (vec_items l.search.levels) - knowns (vec_items l.search.levels))
