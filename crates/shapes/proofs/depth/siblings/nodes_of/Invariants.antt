use Rattle.std.proofs.Common.{◌≡◌, length, vec_items, vec_len}
use Rattle.shapes.specs.DepthTables.{AllLatest}
use Rattle.shapes.proofs.DepthSteps.{Laid}
use Rattle.shapes.proofs.depth.siblings.nodes_of.Given as goal

abbrev pub invariant-loop-node : goal.invariant-loop-node
invariant-loop-node l = record {
  room : vec_len l.latest ≡ length l.depths;
  latest : AllLatest l.depths l.node (vec_items l.latest);
  laid : Laid l.depths l.node (vec_items l.nodes);
}
