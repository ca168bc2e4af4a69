-- The places of the waiting table that steps write to.
use Rattle.std.proofs.Common.{ℕ, ◌*◌, ◌≤◌, Bool, List, length, Some, None, Option, inl, inr, ◌∙◌, le_refl, mul-le-mul_right, arith}
use Rattle.std.proofs.lemmas.Bool.{cases_lt}
use Rattle.queries.specs.Table.{Table, Admitted, blocks_terms}
use Rattle.queues.specs.declared.queue.Queue.{Queue}
use Rattle.queues.specs.Calls.{StaysWithin, head_of}
use Rattle.queues.proofs.Within.{within_same}
use Rattle.surveys.specs.declared.survey.Survey.{Survey}
use Rattle.surveys.specs.declared.survey.Work.{Work}
use Rattle.surveys.specs.Held.{queue_places, WaitsWithin}
use Rattle.surveys.specs.Stepping.{TakesUp, Stored}
use Rattle.surveys.specs.Stepping.TakesUp.{goes_on, begins}
use Rattle.surveys.proofs.Spanning.{no_terms, span_inside}

pub waits_same : (n : ℕ) (v : Survey) (w : List ℕ) → WaitsWithin n v w v w
waits_same n v w = record { table = within_same (queue_places n v.current) w; queue = le_refl (queue_places n v.current) }

-- one step after others
pub waits_both : {n : ℕ} {v v' v'' : Survey} {w w' w'' : List ℕ} → WaitsWithin n v w v' w' → WaitsWithin n v' w' v'' w'' → WaitsWithin n v w v'' w''
waits_both h k = record {
  table = record { same_length = k.table.same_length ∙ h.table.same_length; beyond = λ p d past. k.table.beyond p d (omega (arith, h.queue)) ∙ h.table.beyond p d past };
  queue = omega (arith, h.queue, k.queue);
}

least_places : (n : ℕ) (o : Option Work) → n ≤ queue_places n o
least_places n None = le_refl n
least_places n (Some w) = omega arith

block_inside : {q : Table} → Admitted q → (b : ℕ) → blocks_terms q b ≤ length q.terms
block_inside {q} a b = elim (cases_lt b (length q.blocks)) [ inl stands ↦ omega (arith, span_inside a b stands) | inr past ↦ omega (arith, no_terms q b past) ]

taken_inside : {q : Table} {nodes : ℕ} {v : Survey} {w : Work} → Admitted q → TakesUp q nodes v w → w.queue.size ≤ queue_places (length q.terms * nodes) v.current
taken_inside a (goes_on w e) = rw e (omega arith)
taken_inside {q} {nodes} a (begins b e h) = rw e (mul-le-mul_right nodes (block_inside a b))

stored_inside : (n : ℕ) (o : Option ℕ) (v : Survey) (w : Work) (v' : Survey) (all : Bool) → Stored o v w v' all → w.queue.size ≤ queue_places n v.current → queue_places n v'.current ≤ queue_places n v.current
stored_inside n None v w v' all stored inside = rw stored.0 (least_places n v.current)
stored_inside n (Some e) v w v' all stored inside = rw stored.0 (omega (arith, least_places n v.current))

pub step_waits : {q : Table} {nodes : ℕ} {v : Survey} {work : Work} → Admitted q → TakesUp q nodes v work → (queue : Queue) (waiting waiting' : List ℕ) → StaysWithin work.queue waiting queue waiting' → (v' : Survey) (all : Bool) → Stored (head_of queue) v (record { block = work.block; queue = queue }) v' all → WaitsWithin (length q.terms * nodes) v waiting v' waiting'
step_waits {q} {nodes} {v} {work} a up queue waiting waiting' stays v' all stored =
    let inside : work.queue.size ≤ queue_places (length q.terms * nodes) v.current = taken_inside a up in
    record {
      table = record { same_length = stays.table.same_length; beyond = λ p d past. stays.table.beyond p d (omega arith) };
      queue = stored_inside (length q.terms * nodes) (head_of queue) v (record { block = work.block; queue = queue }) v' all stored (omega (arith, stays.size));
    }
