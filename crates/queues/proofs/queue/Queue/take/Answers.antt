use Rattle.std.proofs.Common.{rules}
use Rattle.queues.proofs.Lists.{take_lists}
use Rattle.queues.proofs.queue.Queue.take.Goals as goal

pub returns-then-self-clause-lists : goal.returns-then-self-clause-lists
returns-then-self-clause-lists c = take_lists _ _ _ _ _ (search rules) (search rules) (search rules)

pub returns-clause-lists : goal.returns-clause-lists
returns-clause-lists c = take_lists _ _ _ _ _ (search rules) (search rules) (search rules)
