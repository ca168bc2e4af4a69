-- The check of the nodes, by their capped depths.
use Rattle.std.proofs.Common.{◌≡◌, ℕ, ◌+◌, ◌<◌, ◌≤◌, List, length, map, arith}
use Rattle.std.proofs.lemmas.List.{length-map}
use Rattle.shapes.specs.Depths.{KeepsRule, LawfulDepths}
use Rattle.shapes.specs.DepthTables.{FirstFault}
use Rattle.files.specs.declared.tables.Room.{Room}
use Rattle.files.specs.Causes.{Cause, depths_in, NodeCause, depth}
use Rattle.files.specs.Checking.{CheckedTo, FirstOn}
use Rattle.files.specs.Contents.{Contents}
use Rattle.files.specs.Reading.{capped}
use Rattle.files.proofs.Capped.{keeps_there, keeps_here}
use Rattle.files.proofs.Firsts.{depth_first}
use Rattle.files.proofs.Passing.{causes_behind, passes}
use Rattle.files.proofs.Sections.{in_nodes}

module _ (room : Room) (c : Contents) (checked : CheckedTo room c 2) where
  count : length (depths_in c) ≡ length c.nodes
  count = length-map c.nodes (λ r. r.depth)

  few : length (depths_in c) ≤ 2048
  few = omega (arith, count, checked.in_order.few_nodes, checked.head.countable.1)

  abbrev cs : List ℕ
  cs = map capped (depths_in c)

  -- the nodes before one are fine where their capped depths are
  fine : (x : ℕ) → x ≤ length c.nodes → ((y : ℕ) → y < x → KeepsRule cs y) → (j n : ℕ) → j < x → NodeCause c j n → ⊥
  fine x inside keep j n h (depth broken) = broken (keeps_there (depths_in c) few j (omega (arith, count)) (λ y le. keep y (omega arith)))

  pub nodes_pass : LawfulDepths cs → CheckedTo room c (2 + length c.nodes)
  nodes_pass lawful =
      passes room c in_nodes (length c.nodes) (omega arith) checked
      (λ rest. fine (length c.nodes) (omega arith) (λ y h. lawful y (omega (arith, count, length-map (depths_in c) capped))))

  module _ (x : ℕ) (fault : FirstFault cs x) where
    pub there : x < length c.nodes
    there = omega (arith, fault.inside, count, length-map (depths_in c) capped)

    pub none_before : (rest : List ℕ) (n l : ℕ) → Cause room c rest n l → 2 + x ≤ l
    none_before rest = causes_behind room c in_nodes x rest (omega (arith, there)) (checked.causes rest) (fine x (omega (arith, there)) fault.before)

    pub fault_first : FirstOn (NodeCause c x) 2
    fault_first = depth_first c x (λ keeps. fault.broken (keeps_here (depths_in c) few x (omega (arith, count, there)) fault.before keeps))
