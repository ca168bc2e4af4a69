-- What each call answers and leaves, for every table and every queue: also where something else has written to the table.
-- A place of the table is 0 (the entry is not threaded), 1 (it is, and is the last) or e + 2 (it is, and the next is e).
use Rattle.std.specs.Prelude.{◌≡◌, ℕ, ◌+◌, ◌-◌, min, Bool, cond, ◌&&◌, List, ◌++◌, length, drop, replicate, Some, None, Option, ◌==◌, nat_lt, slice_index, slice_set}
use Rattle.queues.specs.declared.queue.Ends.{Ends}
use Rattle.queues.specs.declared.queue.Queue.{Queue}
use Rattle.queues.specs.Within.{Within}

-- Only the places of the entries below the size n are read and written: another reads as 0, and a write there changes nothing.
-- So it is past the table's end too, by what `slice_index` and `slice_set` mean.
abbrev pub place_of : ℕ → List ℕ → ℕ → ℕ
place_of n w e = cond (nat_lt e n) (slice_index w e) 0

abbrev pub written : ℕ → List ℕ → ℕ → ℕ → List ℕ
written n w e p = cond (nat_lt e n) (slice_set w e p) w

abbrev pub between : ℕ → ℕ → Option Ends
between h t = Some (record { head = h; tail = t })

-- take, put, clear: the queue keeps its size, and the table its length and its places from that size on.
-- Said at each call, since the table is lent and no type can hold it.
pub record StaysWithin (q : Queue) (w : List ℕ) (q' : Queue) (w' : List ℕ) : Type 0 where
  pub size : q'.size ≡ q.size
  pub table : Within q.size w w'

-- rising
abbrev pub rising_queue : ℕ → Queue
rising_queue n = record { fresh = 0; size = n; ends = None }

-- clear: 0 at the places below n
abbrev pub wiped : ℕ → List ℕ → List ℕ
wiped n w = replicate (min n (length w)) 0 ++ drop (min n (length w)) w

abbrev pub emptied : Queue → Queue
emptied q = record { fresh = q.size; size = q.size; ends = None }

-- head, is_empty
abbrev pub front : Option Ends → Option ℕ
front None = None
front (Some s) = Some s.head

abbrev pub head_of : Queue → Option ℕ
head_of q = cond (nat_lt q.fresh q.size) (Some q.fresh) (front q.ends)

-- the ends once an entry whose place held p is taken off the front
abbrev pub onward : ℕ → ℕ → Option Ends
onward p t = cond (nat_lt p 2) None (between (p - 2) t)

-- take: from the rising run, or else the first of the threaded entries
abbrev pub table_wiped : ℕ → Option Ends → List ℕ → List ℕ
table_wiped n None w = w
table_wiped n (Some s) w = written n w s.head 0

abbrev pub ends_taken : ℕ → Option Ends → List ℕ → Option Ends
ends_taken n None w = None
ends_taken n (Some s) w = onward (place_of n w s.head) s.tail

abbrev pub table_unthreaded : Queue → List ℕ → List ℕ
table_unthreaded q w = table_wiped q.size q.ends w

abbrev pub queue_unthreaded : Queue → List ℕ → Queue
queue_unthreaded q w = record { fresh = q.fresh; size = q.size; ends = ends_taken q.size q.ends w }

abbrev pub table_taken : Queue → List ℕ → List ℕ
table_taken q w = cond (nat_lt q.fresh q.size) w (table_unthreaded q w)

abbrev pub queue_taken : Queue → List ℕ → Queue
queue_taken q w =
    cond (nat_lt q.fresh q.size) (record { fresh = q.fresh + 1; size = q.size; ends = q.ends }) (queue_unthreaded q w)

-- put: an entry of the queue, in the table, that is neither in the rising run nor threaded
abbrev pub free : Queue → List ℕ → ℕ → Bool
free q w e = nat_lt e q.fresh && (nat_lt e q.size && (nat_lt e 131072 && (nat_lt e (length w) && slice_index w e == 0)))

abbrev pub table_joined : ℕ → Option Ends → List ℕ → ℕ → List ℕ
table_joined n None w e = written n w e 1
table_joined n (Some s) w e = written n (written n w s.tail (e + 2)) e 1

abbrev pub ends_joined : Option Ends → ℕ → Option Ends
ends_joined None e = between e e
ends_joined (Some s) e = between s.head e

abbrev pub table_threaded : Queue → List ℕ → ℕ → List ℕ
table_threaded q w e = table_joined q.size q.ends w e

abbrev pub queue_threaded : Queue → ℕ → Queue
queue_threaded q e = record { fresh = q.fresh; size = q.size; ends = ends_joined q.ends e }
