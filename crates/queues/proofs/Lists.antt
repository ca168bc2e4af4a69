-- What the calls do to the list of those that wait, from what they leave in every case.
use Rattle.std.proofs.Common.{◌≡◌, ℕ, ◌+◌, ◌-◌, ◌<◌, ◌≤◌, Bool, true, false, cond, ltb, ◌⊎◌, List, [], ◌∷◌, ◌++◌, length, get_or, Some, MatchBool, Option, sym, ap, ◌∙◌, inl, inr, ⊎_elim, arith}
use Rattle.std.specs.List.{range_with_len}
use Rattle.std.proofs.lemmas.List.{append_assoc}
use Rattle.std.proofs.ByRecursion.{All-weaker}
use Rattle.std.proofs.lemmas.Bool.{cases_lt, le-ltb, lt-ltb, ltb-true, eq-eqb, eqb-true, cond-true, cond-false, and_from, and_parts, both_ways}
use Rattle.queues.specs.declared.queue.Queue.{Queue}
use Rattle.queues.specs.Calls.{front, head_of, ends_taken, table_unthreaded, queue_unthreaded, table_taken, queue_taken, free, table_threaded, queue_threaded}
use Rattle.queues.specs.Threads.{In, Chain, Threads, run, first, rest}
use Rattle.queues.proofs.Entries.{in_or_out, in_append, append_in, in_counting, counting_in, counting_more, counting_none}
use Rattle.queues.proofs.Chains.{linked_marked, front_is, ends_taken_is, chain_taken, ends_joined_is, chain_put}

-- the list begins with the run, or is threaded as a whole
list_fresh : (w : List ℕ) (q : Queue) (l : List ℕ) (t : Threads w q l) → q.fresh < q.size → l ≡ q.fresh ∷ (range_with_len (q.fresh + 1) (q.size - (q.fresh + 1)) ++ t.back)
list_fresh w q l t lt = t.list ∙ ap (λ r. r ++ t.back) (counting_more q.fresh q.size lt)

list_threaded : (w : List ℕ) (q : Queue) (l : List ℕ) (t : Threads w q l) → q.size ≤ q.fresh → l ≡ t.back
list_threaded w q l t le = t.list ∙ ap (λ r. r ++ t.back) (counting_none q.fresh q.size le)

-- head, is_empty
pub head_first : (w : List ℕ) (q : Queue) (l : List ℕ) → Threads w q l → head_of q ≡ first l
head_first w q l t =
    ⊎_elim
    (λ lt. cond-true (ltb q.fresh q.size) (Some q.fresh) (front q.ends) (lt-ltb _ _ lt) ∙ sym (ap first (list_fresh w q l t lt)))
    (λ le. cond-false (ltb q.fresh q.size) (Some q.fresh) (front q.ends) (le-ltb _ _ le)
    ∙ (ap front t.ends ∙ (front_is t.back ∙ sym (ap first (list_threaded w q l t le)))))
    (cases_lt q.fresh q.size)

-- take
taken_fresh : (w : List ℕ) (q : Queue) (l : List ℕ) → q.fresh < q.size → Threads w q l → Threads w (record { fresh = q.fresh + 1; size = q.size; ends = q.ends }) (rest l)
taken_fresh w q l lt t =
    record {
      back = t.back;
      list = ap rest (list_fresh w q l t lt);
      ends = t.ends;
      chain = record {
        started = omega arith;
        range = t.chain.range;
        room = t.chain.room;
        inside = All-weaker (λ e. e < q.fresh) (λ e. e < q.fresh + 1) (λ e h. omega arith) t.back t.chain.inside;
        distinct = t.chain.distinct;
        linked = t.chain.linked;
        others = t.chain.others;
      };
    }

taken_threaded : (w : List ℕ) (q : Queue) (l : List ℕ) → q.size ≤ q.fresh → Threads w q l → Threads (table_unthreaded q w) (queue_unthreaded q w) (rest l)
taken_threaded w q l le t =
    record {
      back = rest t.back;
      list = ap rest (list_threaded w q l t le) ∙ sym (ap (λ r. r ++ rest t.back) (counting_none q.fresh q.size le));
      ends = ap (λ o. ends_taken q.size o w) t.ends ∙ ends_taken_is w t.back q.fresh q.size t.chain;
      chain = rw t.ends (chain_taken w q.fresh q.size t.back t.chain);
    }

pub taken_lists : (w : List ℕ) (q : Queue) (l : List ℕ) → Threads w q l → Threads (table_taken q w) (queue_taken q w) (rest l)
taken_lists w q l t =
    ⊎_elim
    (λ lt. rw (lt-ltb q.fresh q.size lt) (taken_fresh w q l lt t))
    (λ le. rw (le-ltb q.fresh q.size le) (taken_threaded w q l le t))
    (cases_lt q.fresh q.size)

pub take_lists : (w w' : List ℕ) (q q' : Queue) (r : Option ℕ) → r ≡ head_of q → w' ≡ table_taken q w → q' ≡ queue_taken q w → (l : List ℕ) → Threads w q l → (r ≡ first l) × Threads w' q' (rest l)
take_lists w w' q q' r er ew eq l t = (er ∙ head_first w q l t, rw (ew, eq) (taken_lists w q l t))

-- put
pub free_parts : (q : Queue) (w : List ℕ) (e : ℕ) → free q w e ≡ true → (e < q.fresh) × (get_or w e 0 ≡ 0)
free_parts q w e f =
    let a = and_parts (ltb e q.fresh) _ f in
    let b = and_parts (ltb e q.size) _ a.1 in
    let c = and_parts (ltb e 131072) _ b.1 in
    let d = and_parts (ltb e (length w)) _ c.1 in
    (ltb-true e q.fresh a.0, eqb-true _ 0 d.1)

pub parts_free : (q : Queue) (w l : List ℕ) (e : ℕ) → Chain w q.fresh q.size l → e < q.fresh → get_or w e 0 ≡ 0 → free q w e ≡ true
parts_free q w l e c lt z =
    and_from _ _ (lt-ltb e q.fresh lt)
    (and_from _ _ (lt-ltb e q.size (omega (arith, c.started)))
    (and_from _ _ (lt-ltb e 131072 (omega (arith, c.started, c.range)))
    (and_from _ _ (lt-ltb e (length w) (omega (arith, c.started, c.room))) (eq-eqb _ 0 z))))

-- an entry waits that is in the run, or whose place is not 0
pub waits_in : (w : List ℕ) (q : Queue) (l : List ℕ) (e : ℕ) → Threads w q l → e < q.size → (q.fresh ≤ e) ⊎ (get_or w e 0 ≡ 0 → ⊥) → In e l
waits_in w q l e t lt (inl le) =
    rw t.list (append_in e (run q) t.back (inl (counting_in e q.fresh (q.size - q.fresh) le (omega arith))))
waits_in w q l e t lt (inr m) =
    rw t.list (append_in e (run q) t.back (inr (⊎_elim (λ i. i) (λ o. absurd (m (t.chain.others e lt o))) (in_or_out e t.back))))

pub in_waits : (w : List ℕ) (q : Queue) (l : List ℕ) (e : ℕ) → Threads w q l → In e l → (q.fresh ≤ e) ⊎ (get_or w e 0 ≡ 0 → ⊥)
in_waits w q l e t i =
    ⊎_elim (λ j. inl (in_counting e q.fresh (q.size - q.fresh) j).0) (λ j. inr (linked_marked w t.back e t.chain.linked j))
    (in_append e (run q) t.back (rw t.list at i))

put_threads : (w : List ℕ) (q : Queue) (l : List ℕ) (e : ℕ) → Threads w q l → e < q.fresh → (In e l → ⊥) → Threads (table_threaded q w e) (queue_threaded q e) (l ++ e ∷ [])
put_threads w q l e t lt o =
    record {
      back = t.back ++ e ∷ [];
      list = ap (λ m. m ++ e ∷ []) t.list ∙ append_assoc (run q) t.back (e ∷ []);
      ends = rw t.ends (ends_joined_is t.back e);
      chain = rw t.ends (chain_put w q.fresh q.size t.back e t.chain lt (λ i. o (rw t.list (append_in e (run q) t.back (inr i)))));
    }

pub put_lists : (w w' : List ℕ) (q q' : Queue) (e : ℕ) (r : Bool) → r ≡ free q w e → w' ≡ cond r (table_threaded q w e) w → q' ≡ cond r (queue_threaded q e) q → (l : List ℕ) → Threads w q l → e < q.size → MatchBool r ((In e l → ⊥) × Threads w' q' (l ++ e ∷ [])) (In e l × Threads w' q' l)
put_lists w w' q q' e true er ew eq l t lt =
    let p = free_parts q w e (sym er) in
    let o : In e l → ⊥ = λ i. ⊎_elim (λ le. omega (arith, p.0)) (λ m. m p.1) (in_waits w q l e t i) in
    (o, rw (ew, eq) (put_threads w q l e t p.0 o))
put_lists w w' q q' e false er ew eq l t lt = (
  waits_in w q l e t lt (⊎_elim (λ h. inr (λ z. both_ways (free q w e) (sym er) (parts_free q w t.back e t.chain h z))) inl (cases_lt e q.fresh)),
  rw (ew, eq) t,
)

-- rising, clear: nothing is threaded where each place is 0
pub chain_none : (w : List ℕ) (m n : ℕ) → m ≤ n → n ≤ 131072 → n ≤ length w → ((k : ℕ) → k < n → get_or w k 0 ≡ 0) → Chain w m n []
chain_none w m n s a b z =
    record { started = s; range = a; room = b; inside = tt; distinct = tt; linked = tt; others = λ e lt _. z e lt }
