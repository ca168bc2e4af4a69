use Rattle.std.proofs.Common.{◌+◌, sym, subst₂, arith}
use Rattle.surveys.specs.Queried.{tree_in, table_in}
use Rattle.surveys.proofs.Wakes.{WokenSoFar, left_none, so_far_none, so_far_skip, so_far_put}
use Rattle.surveys.proofs.queried.QueriedShape.wake.Goals as goal
use Rattle.surveys.proofs.queried.QueriedShape.wake.Goals.{in-Some, in_default}

pub loop-reader-init : goal.loop-reader-init
loop-reader-init g c = so_far_none (tree_in g.S.Shape c.args.self.now) (table_in c.args.self.now) c.args.first c.args.node c.args.readers.now c.args.waiting.now c.args.queue.now

pub loop-reader-preserved : goal.loop-reader-preserved
loop-reader-preserved g c =
    let t = tree_in g.S.Shape c.args.self.now in
    let q = table_in c.args.self.now in
    let i = c.loop-reader.reader-index in
    elim c.match-reading_entry.branch [
      | in-Some w ↦
          subst₂ (λ table queue. WokenSoFar t q c.args.first c.args.node c.args.readers.now c.args.waiting.now c.args.queue.now table queue (i + 1)) (sym w.waiting-is) (sym w.queue-is)
          (so_far_put t q c.args.first c.args.node c.args.readers.now c.args.waiting.now c.args.queue.now c.loop-reader.waiting w.put.new.waiting c.loop-reader.queue w.put.new.self i w.in-Some.entry w.put.result
          c.loop-reader-test.true w.in-Some.ensures w.put.ensures.stays w.put.ensures.lists c.loop-reader.invariant)
      | in_default w ↦
          subst₂ (λ table queue. WokenSoFar t q c.args.first c.args.node c.args.readers.now c.args.waiting.now c.args.queue.now table queue (i + 1)) (sym w.waiting-is) (sym w.queue-is)
          (so_far_skip t q c.args.first c.args.node c.args.readers.now c.args.waiting.now c.args.queue.now c.loop-reader.waiting c.loop-reader.queue i c.loop-reader-test.true w.in_default.ensures c.loop-reader.invariant)
    ]

pub returns : goal.returns
returns g c = record {
  lists = λ m threads inside. left_none (tree_in g.S.Shape c.args.self.now) (table_in c.args.self.now) c.args.first c.args.node c.args.readers.now c.loop-reader.waiting c.loop-reader.queue c.args.queue.now.size c.loop-reader.reader-index m (omega arith) (c.loop-reader.invariant.lists m threads inside);
  stays = c.loop-reader.invariant.stays;
}
