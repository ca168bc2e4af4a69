-- Writes to the front of a table, one after the other.
use Rattle.std.proofs.Common.{ℕ, List, refl, ◌∙◌, arith}
use Rattle.queues.specs.declared.queue.Queue.{Queue}
use Rattle.queues.specs.Calls.{StaysWithin}
use Rattle.queues.specs.Within.{Within}

pub within_same : {A : Type 0} (n : ℕ) (w : List A) → Within n w w
within_same n w = record { same_length = refl; beyond = λ p d h. refl }

pub stays_same : (q : Queue) (w : List ℕ) → StaysWithin q w q w
stays_same q w = record { size = refl; table = within_same q.size w }

-- one call after another
pub stays_both : {q q' q'' : Queue} {w w' w'' : List ℕ} → StaysWithin q w q' w' → StaysWithin q' w' q'' w'' → StaysWithin q w q'' w''
stays_both h k = record {
  size = k.size ∙ h.size;
  table = record { same_length = k.table.same_length ∙ h.table.same_length; beyond = λ p d le. k.table.beyond p d (omega (arith, h.size)) ∙ h.table.beyond p d le };
}
