use Rattle.std.proofs.Common.{◌+◌, vec_items, sym, subst, arith, refl}
use Rattle.shapes.proofs.DepthSteps.{Laid, depth_bound, latest_more, laid_linked, laid_alone}
use Rattle.shapes.proofs.DepthTrees.{laid_nodes}
use Rattle.shapes.proofs.depth.siblings.nodes_of.Goals as goal
use Rattle.shapes.proofs.depth.siblings.nodes_of.Goals.{in-Some, in_default}

pub index_mut-requires : goal.index_mut-requires
index_mut-requires c = omega (arith, c.in_ok-push.ensures.len, (((c.previous_sibling-previous.ensures c.in-Some.left).0) c.in-Some.is).later, c.loop-node.invariant.laid.size)

pub index_mut-requires-in-loop-node : goal.index_mut-requires-in-loop-node
index_mut-requires-in-loop-node c = omega (arith, depth_bound c.args.depths.now c.loop-node.node (λ y le. c.requires.lawful y (omega arith)), c.loop-node.invariant.room)

pub loop-node-preserved : goal.loop-node-preserved
loop-node-preserved c = record {
  room = c.loop-node.invariant.room;
  latest = latest_more c.args.depths.now c.requires.lawful c.loop-node.node _ _ c.loop-node.latest.items c.loop-node-test.true (omega arith) (omega arith)
      (omega (arith, depth_bound c.args.depths.now c.loop-node.node (λ y le. c.requires.lawful y (omega arith)), c.loop-node.invariant.room, c.loop-node.latest.ok.0))
      c.loop-node.invariant.latest;
  laid = elim c.match-previous.branch [
    | in-Some w ↦
        subst (λ v. Laid c.args.depths.now (c.loop-node.node + 1) (vec_items v)) (sym w.nodes-is)
        (laid_linked _ _ _ _ c.loop-node.invariant.laid refl refl c.previous_sibling-previous.ensures _ w.in-Some.left _ c.in_ok-push.ensures.items w.in-Some.is w.index_mut.ensures.value)
    | in_default w ↦
        subst (λ v. Laid c.args.depths.now (c.loop-node.node + 1) (vec_items v)) (sym w.nodes-is)
        (laid_alone _ _ _ _ c.loop-node.invariant.laid refl refl c.previous_sibling-previous.ensures _ c.in_ok-push.ensures.items w.in_default.is)
  ];
}

pub returns : goal.returns
returns c = laid_nodes c.args.depths.now c.loop-node.nodes.items c.requires.lawful (subst (λ n. Laid c.args.depths.now n c.loop-node.nodes.items) (omega arith) c.loop-node.invariant.laid)
