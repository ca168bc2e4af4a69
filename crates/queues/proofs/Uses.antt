-- What a caller's proof wants of the list of those that wait.
use Rattle.std.proofs.Common.{◌≡◌, ℕ, ◌-◌, ◌<◌, ◌≤◌, Bool, true, false, ◌⊎◌, List, [], ◌∷◌, ◌++◌, length, get_or, Some, None, MatchBool, sym, refl, ap, ◌∙◌, subst, inl, inr, ⊎_elim, arith}
use Rattle.std.specs.List.{range_with_len, AllByRecursion}
use Rattle.std.proofs.lemmas.List.{append-nil}
use Rattle.std.proofs.ByRecursion.{All-append, All-weaker}
use Rattle.std.proofs.lemmas.Bool.{cases_eq}
use Rattle.queues.specs.declared.queue.Queue.{Queue}
use Rattle.queues.specs.Calls.{front, rising_queue}
use Rattle.queues.specs.Threads.{In, Distinct, Linked, ends_of, Threads, run, first, rest}
use Rattle.queues.proofs.Entries as entries
use Rattle.queues.proofs.Lists as lists

-- The entries of the list are the queue's, and none stands twice.
pub threads_inside : (w : List ℕ) (q : Queue) (l : List ℕ) → Threads w q l → AllByRecursion (λ e. e < q.size) l
threads_inside w q l t =
    rw t.list (All-append (λ e. e < q.size) (run q) t.back
    (entries.inside_counting q.fresh (q.size - q.fresh) q.size (omega (arith, t.chain.started)))
    (All-weaker (λ e. e < q.fresh) (λ e. e < q.size) (λ e h. omega (arith, t.chain.started)) t.back t.chain.inside))

pub threads_below : (w : List ℕ) (q : Queue) (l : List ℕ) (e : ℕ) → Threads w q l → In e l → e < q.size
threads_below w q l e t i = entries.all_in (λ k. k < q.size) l e (threads_inside w q l t) i

pub threads_distinct : (w : List ℕ) (q : Queue) (l : List ℕ) → Threads w q l → Distinct l
threads_distinct w q l t =
    rw t.list (entries.distinct_append (run q) t.back (entries.distinct_counting q.fresh (q.size - q.fresh)) t.chain.distinct
    (λ e i j. omega (arith, (entries.in_counting e q.fresh (q.size - q.fresh) i).0, entries.all_in (λ k. k < q.fresh) t.back e t.chain.inside j)))

-- A table and a queue hold one list at most.
linked_one : (w : List ℕ) (x : ℕ) (l m : List ℕ) → Linked w (x ∷ l) → Linked w (x ∷ m) → l ≡ m
linked_one w x [] [] h k = refl
linked_one w x [] (z ∷ m) h k = absurd (omega (arith, h.0, k.0))
linked_one w x (y ∷ l) [] h k = absurd (omega (arith, h.0, k.0))
linked_one w x (y ∷ l) (z ∷ m) h k =
    let e : z ≡ y = omega (arith, h.0, k.0) in
    let k' : Linked w (y ∷ m) = subst (λ j. Linked w (j ∷ m)) e k.1 in
    let r : l ≡ m = linked_one w y l m h.1 k' in cc

back_one : (w l m : List ℕ) → ends_of l ≡ ends_of m → Linked w l → Linked w m → l ≡ m
back_one w [] [] e h k = refl
back_one w [] (z ∷ m) e h k = cc
back_one w (y ∷ l) [] e h k = cc
back_one w (y ∷ l) (z ∷ m) e h k =
    let f = ap front e in
    let s : z ≡ y = cc in
    let k' : Linked w (y ∷ m) = subst (λ j. Linked w (j ∷ m)) s k in
    let r : l ≡ m = linked_one w y l m h k' in cc

pub threads_one : (w : List ℕ) (q : Queue) (l m : List ℕ) → Threads w q l → Threads w q m → l ≡ m
threads_one w q l m h k =
    h.list ∙ (ap (λ b. run q ++ b) (back_one w h.back k.back (sym h.ends ∙ k.ends) h.chain.linked k.chain.linked) ∙ sym k.list)

-- A start, and the end of a block: another can then begin on the same table.
pub rising_threads : (w : List ℕ) (n : ℕ) → ((k : ℕ) → k < n → get_or w k 0 ≡ 0) → n ≤ length w → n ≤ 131072 → Threads w (rising_queue n) (range_with_len 0 n)
rising_threads w n z b a =
    record {
      back = [];
      list = let e : n ≡ n - 0 = omega arith in ap (range_with_len 0) e ∙ sym (append-nil (range_with_len 0 (n - 0)));
      ends = refl;
      chain = lists.chain_none w 0 n (omega arith) a b z;
    }

pub threads_done : (w : List ℕ) (q : Queue) → Threads w q [] → (k : ℕ) → k < q.size → get_or w k 0 ≡ 0
threads_done w q t k lt =
    ⊎_elim (λ z. z) (λ m. absurd (lists.waits_in w q [] k t lt (inr m))) (cases_eq (get_or w k 0) 0)

-- What `take` and `put` answered.
pub first_some : (l : List ℕ) (e : ℕ) → Some e ≡ first l → l ≡ e ∷ rest l
first_some [] e h = cc
first_some (x ∷ l) e h = cc

pub first_none : (l : List ℕ) → None ≡ first l → l ≡ []
first_none [] e = refl
first_none (x ∷ l) e = cc

-- who waits after a take: all but the entry that was taken
pub rest_in : (l : List ℕ) (e k : ℕ) → Some e ≡ first l → In k l → (e ≡ k) ⊎ In k (rest l)
rest_in l e k h i = subst (λ m. In k m) (first_some l e h) i

-- who waits after a put, whatever it answered: the entry, and who waited before
pub put_in : (w : List ℕ) (q : Queue) (l : List ℕ) (e : ℕ) (r : Bool) → MatchBool r ((In e l → ⊥) × Threads w q (l ++ e ∷ [])) (In e l × Threads w q l) → (m : List ℕ) × Threads w q m × In e m × ((k : ℕ) → In k l → In k m)
put_in w q l e true h = (l ++ e ∷ [], h.1, entries.append_in e l (e ∷ []) (inr (inl refl)), λ k i. entries.append_in k l (e ∷ []) (inl i))
put_in w q l e false h = (l, h.1, h.0, λ k i. i)

pub in_push : (k : ℕ) (l : List ℕ) (e : ℕ) → In k (l ++ e ∷ []) → In k l ⊎ (e ≡ k)
in_push k l e i = ⊎_elim inl (⊎_elim inr (λ n. absurd n)) (entries.in_append k l (e ∷ []) i)
