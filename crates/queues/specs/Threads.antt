-- The list of the entries that wait, the longest waiting first, and how the table and the queue hold it.
use Rattle.std.specs.Prelude.{◌≡◌, ℕ, ◌+◌, ◌-◌, ◌<◌, ◌≤◌, ◌⊎◌, List, [], ◌∷◌, ◌++◌, length, Some, None, Option, slice_index}
use Rattle.std.specs.List.{range_with_len, AllByRecursion}
use Rattle.queues.specs.declared.queue.Ends.{Ends}
use Rattle.queues.specs.declared.queue.Queue.{Queue}
use Rattle.queues.specs.Calls.{between}

-- an element of the list: by recursion, since Distinct and Linked go down the list, where the library's Contains goes by place
abbrev pub In : ℕ → List ℕ → Type 0
In e [] = ⊥
In e (x ∷ l) = (x ≡ e) ⊎ In e l

-- no entry stands twice
abbrev pub Distinct : List ℕ → Type 0
Distinct [] = Unit {0}
Distinct (x ∷ l) = (In x l → ⊥) × Distinct l

-- what the place of the entry before the list l says
abbrev pub leads : List ℕ → ℕ
leads [] = 1
leads (x ∷ l) = x + 2

-- the place of each entry of the list leads to the next
abbrev pub Linked : List ℕ → List ℕ → Type 0
Linked w [] = Unit {0}
Linked w (x ∷ l) = (slice_index w x ≡ leads l) × Linked w l

abbrev pub newest : ℕ → List ℕ → ℕ
newest x [] = x
newest x (y ∷ l) = newest y l

abbrev pub ends_of : List ℕ → Option Ends
ends_of [] = None
ends_of (x ∷ l) = between x (newest x l)

-- the list l of entries below m is threaded through the table w, and no other place of the entries below n says that its entry is
pub record Chain (w : List ℕ) (m n : ℕ) (l : List ℕ) : Type 0 where
  pub started : m ≤ n
  pub range : n ≤ 131072
  pub room : n ≤ length w
  pub inside : AllByRecursion (λ e. e < m) l
  pub distinct : Distinct l
  pub linked : Linked w l
  pub others : (e : ℕ) → e < n → (In e l → ⊥) → slice_index w e ≡ 0

-- the rising run of the entries that were not taken yet
abbrev pub run : Queue → List ℕ
run q = range_with_len q.fresh (q.size - q.fresh)

-- the list l waits: the rising run first, then the threaded entries
pub record Threads (w : List ℕ) (q : Queue) (l : List ℕ) : Type 0 where
  pub back : List ℕ
  pub list : l ≡ run q ++ back
  pub ends : q.ends ≡ ends_of back
  pub chain : Chain w q.fresh q.size back

abbrev pub first : List ℕ → Option ℕ
first [] = None
first (x ∷ l) = Some x

abbrev pub rest : List ℕ → List ℕ
rest [] = []
rest (x ∷ l) = l
