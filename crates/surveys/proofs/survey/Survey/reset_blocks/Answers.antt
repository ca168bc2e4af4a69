use Rattle.std.proofs.Common.{◌≡◌, arith}
use Rattle.queries.specs.Queries.{table_of}
use Rattle.surveys.proofs.Resets.{where_none, where_yes, where_no}
use Rattle.surveys.proofs.survey.Survey.reset_blocks.Goals as goal
use Rattle.surveys.proofs.survey.Survey.reset_blocks.Goals.{then-named, else-named}

pub loop-block-init : goal.loop-block-init
loop-block-init g c = where_none g.G.Grade.kind (table_of c.args.query.now) c.args.self.now.nodes (goal.F-post g c.args.named) c.args.values.now

pub loop-block-preserved : goal.loop-block-preserved
loop-block-preserved g c =
    let q = table_of c.args.query.now in
    let post = goal.F-post g c.args.named in
    elim c.if-named.branch [
      | then-named w ↦ rw w.values-is (where_yes g.G.Grade.kind q c.args.self.now.nodes post c.loop-block.block c.args.values.now c.loop-block.values w.reset_block.new.values c.loop-block.invariant w.reset_block.ensures w.if-named.ensures)
      | else-named w ↦ rw w.values-is (where_no g.G.Grade.kind q c.args.self.now.nodes post c.loop-block.block c.args.values.now c.loop-block.values c.loop-block.invariant w.if-named.ensures)
    ]

pub returns : goal.returns
returns g c = let r = c.loop-block.invariant in let all : c.loop-block.block ≡ c.args.self.now.blocks = omega arith in (r.said, (λ b h. r.each b (omega arith)), rw all at r.resets)
