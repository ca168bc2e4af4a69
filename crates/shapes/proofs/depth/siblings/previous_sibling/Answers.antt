use Rattle.std.proofs.Common.{arith}
use Rattle.shapes.proofs.DepthSteps.{depth_bound}
use Rattle.shapes.proofs.depth.siblings.previous_sibling.Goals as goal

pub bounds-latest-depths : goal.bounds-latest-depths
bounds-latest-depths c = omega (arith, depth_bound c.args.depths.now c.args.node (λ y le. c.requires.lawful y (omega arith)), c.requires.room)
