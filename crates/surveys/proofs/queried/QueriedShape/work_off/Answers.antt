use Rattle.std.proofs.Common.{◌<◌, sym, subst}
use Rattle.std.specs.List.{AllByRecursion}
use Rattle.queues.specs.Threads.{rest}
use Rattle.queues.proofs.Within.{stays_both}
use Rattle.surveys.specs.Waking.{woken}
use Rattle.surveys.specs.Queried.{tree_in, table_in}
use Rattle.surveys.proofs.Requeues.{requeued_none, requeued_some}
use Rattle.surveys.proofs.queried.QueriedShape.work_off.Goals as goal

pub returns-then-not-put : goal.returns-then-not-put
returns-then-not-put g c =
    let is = sym (rw c.node_count.ensures at c.if-not-put.ensures.says) in
    record {
      values = rw c.node_count.ensures at c.if-not-put.ensures.after;
      lists = λ l threads inside. requeued_none (tree_in g.S.Shape c.args.self.now) (table_in c.args.self.now) c.args.entry _ c.args.grade (rest l) c.take.new.waiting c.take.new.self is (c.take.ensures.lists l threads).1;
      stays = c.take.ensures.stays;
    }

pub returns : goal.returns
returns g c =
    let t = tree_in g.S.Shape c.args.self.now in
    let q = table_in c.args.self.now in
    let readers = c.readers_of.result.now in
    let other = rw c.node_count.ensures at c.if-not-put.ensures.says in
    record {
      values = rw c.node_count.ensures at c.if-not-put.ensures.after;
      lists = λ l threads inside.
          requeued_some t q c.args.entry _ c.args.grade (rest l) c.wake.new.waiting c.wake.new.queue (λ e. other (sym e)) readers c.readers_of.ensures.lists
          (c.wake.ensures.lists (rest l) (c.take.ensures.lists l threads).1 (subst (λ n. AllByRecursion (λ e. e < n) (woken t q c.args.entry.first c.args.entry.node readers)) (sym c.take.ensures.stays.size) (inside readers c.readers_of.ensures.lists)));
      stays = stays_both c.take.ensures.stays c.wake.ensures.stays;
    }
