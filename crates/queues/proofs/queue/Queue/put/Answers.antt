use Rattle.std.proofs.Common.{true, false, rules}
use Rattle.queues.proofs.Lists.{put_lists}
use Rattle.queues.proofs.queue.Queue.put.Goals as goal

pub returns-then-not-is_free-clause-lists : goal.returns-then-not-is_free-clause-lists
returns-then-not-is_free-clause-lists c = put_lists _ _ _ _ _ false (search rules) (search rules) (search rules)

pub returns-clause-lists : goal.returns-clause-lists
returns-clause-lists c = put_lists _ _ _ _ _ true (search rules) (search rules) (search rules)
