-- The work that a step takes up.
use Rattle.std.proofs.Common.{◌≡◌, ℕ, ◌*◌, None, sym, subst}
use Rattle.queries.specs.Table.{Table, blocks_terms}
use Rattle.queues.specs.declared.queue.Queue.{Queue}
use Rattle.queues.specs.Calls.{rising_queue}
use Rattle.surveys.specs.declared.survey.Survey.{Survey}
use Rattle.surveys.specs.Stepping.{FirstStale, TakesUp}
pub use Rattle.surveys.specs.Stepping.TakesUp.{goes_on}
use Rattle.surveys.specs.Stepping.TakesUp.{begins}

pub begins_with : (q : Table) (nodes : ℕ) (v : Survey) (b : ℕ) (queue : Queue) → v.current ≡ None → FirstStale v b → queue ≡ rising_queue (blocks_terms q b * nodes) → TakesUp q nodes v (record { block = b; queue = queue })
begins_with q nodes v b queue none stale is = subst (λ x. TakesUp q nodes v (record { block = b; queue = x })) (sym is) (begins b none stale)

pub ruleset takes_up = (goes_on, begins_with)
