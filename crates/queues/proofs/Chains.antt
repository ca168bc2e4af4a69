-- A list that is threaded through a table: what taking its first entry and putting one more at its end leave.
use Rattle.std.proofs.Common.{◌≡◌, ℕ, ◌+◌, ◌-◌, ◌<◌, ltb, ◌≢◌, List, [], ◌∷◌, ◌++◌, length, get_or, set, None, sym, refl, ap, ◌∙◌, subst, inl, inr, ⊎_elim, arith}
use Rattle.std.proofs.lemmas.List.{get_or-set_same, get_or-set_other, length-set}
use Rattle.std.proofs.ByRecursion.{All-push}
use Rattle.std.proofs.lemmas.Bool.{cases_eq, le-ltb, lt-ltb, cond-true, cond-false}
use Rattle.queues.specs.Calls.{place_of, written, between, onward, front, table_wiped, ends_taken, table_joined, ends_joined}
use Rattle.queues.specs.Threads.{In, Distinct, leads, Linked, newest, ends_of, Chain, first, rest}
use Rattle.queues.proofs.Entries.{append_in, all_in, distinct_append, newest_in, newest_push}

-- a write at an entry below n, and what any write leaves
pub written_in : (n : ℕ) (w : List ℕ) (e p : ℕ) → e < n → written n w e p ≡ set w e p
written_in n w e p lt = cond-true (ltb e n) (set w e p) w (lt-ltb e n lt)

-- the place of a threaded entry is not 0
pub linked_marked : (w l : List ℕ) (e : ℕ) → Linked w l → In e l → get_or w e 0 ≡ 0 → ⊥
linked_marked w [] e k i z = absurd i
linked_marked w (x ∷ []) e k (inl s) z = omega (arith, k.0, ap (λ j. get_or w j 0) s)
linked_marked w (x ∷ y ∷ l) e k (inl s) z = omega (arith, k.0, ap (λ j. get_or w j 0) s)
linked_marked w (x ∷ l) e k (inr i) z = linked_marked w l e k.1 i z

-- a write outside the list
linked_kept : (w l : List ℕ) (e p : ℕ) → Linked w l → (In e l → ⊥) → Linked (set w e p) l
linked_kept w [] e p k o = tt
linked_kept w (x ∷ l) e p k o =
    (get_or-set_other w e x p 0 (λ s. o (inl s)) ∙ k.0, linked_kept w l e p k.1 (λ i. o (inr i)))

-- take
pub front_is : (l : List ℕ) → front (ends_of l) ≡ first l
front_is [] = refl
front_is (x ∷ l) = refl

onward_next : (y t : ℕ) → onward (y + 2) t ≡ between y t
onward_next y t =
    cond-false (ltb (y + 2) 2) None (between (y + 2 - 2) t) (le-ltb (y + 2) 2 (omega arith)) ∙ ap (λ h. between h t) (omega arith)

place_in : (w l : List ℕ) (m n x : ℕ) → Chain w m n (x ∷ l) → place_of n w x ≡ leads l
place_in w l m n x c = cond-true (ltb x n) (get_or w x 0) 0 (lt-ltb x n (omega (arith, c.inside.0, c.started))) ∙ c.linked.0

pub ends_taken_is : (w l : List ℕ) (m n : ℕ) → Chain w m n l → ends_taken n (ends_of l) w ≡ ends_of (rest l)
ends_taken_is w [] m n c = refl
ends_taken_is w (x ∷ []) m n c = ap (λ p. onward p x) (place_in w [] m n x c)
ends_taken_is w (x ∷ y ∷ l) m n c = ap (λ p. onward p (newest y l)) (place_in w (y ∷ l) m n x c) ∙ onward_next y (newest y l)

chain_rest : (w : List ℕ) (m n x : ℕ) (l : List ℕ) → Chain w m n (x ∷ l) → Chain (set w x 0) m n l
chain_rest w m n x l c =
    record {
      started = c.started;
      range = c.range;
      room = simp length-set c.room;
      inside = c.inside.1;
      distinct = c.distinct.1;
      linked = linked_kept w l x 0 c.linked.1 c.distinct.0;
      others = λ e lt o. ⊎_elim
          (λ s. subst (λ j. get_or (set w x 0) j 0 ≡ 0) (sym s) (get_or-set_same w x 0 0 (omega (arith, c.room, c.started, c.inside.0))))
          (λ d. get_or-set_other w x e 0 0 d ∙ c.others e lt (⊎_elim (λ s. d (sym s)) o))
          (cases_eq e x);
    }

pub chain_taken : (w : List ℕ) (m n : ℕ) (l : List ℕ) → Chain w m n l → Chain (table_wiped n (ends_of l) w) m n (rest l)
chain_taken w m n [] c = c
chain_taken w m n (x ∷ l) c =
    rw (written_in n w x 0 (omega (arith, c.inside.0, c.started))) (chain_rest w m n x l c)

-- put
pub ends_joined_is : (l : List ℕ) (e : ℕ) → ends_joined (ends_of l) e ≡ ends_of (l ++ e ∷ [])
ends_joined_is [] e = refl
ends_joined_is (x ∷ l) e = ap (λ t. between x t) (sym (newest_push x l e))

-- the table once e is put behind the list l
abbrev joined : List ℕ → List ℕ → ℕ → List ℕ
joined w [] e = set w e 1
joined w (x ∷ l) e = set (set w (newest x l) (e + 2)) e 1

newest_below : (w l : List ℕ) (m n x : ℕ) → Chain w m n (x ∷ l) → newest x l < n
newest_below w l m n x c = omega (arith, c.started, all_in (λ e. e < m) (x ∷ l) (newest x l) c.inside (newest_in x l))

table_joined_is : (w l : List ℕ) (m n e : ℕ) → Chain w m n l → e < n → table_joined n (ends_of l) w e ≡ joined w l e
table_joined_is w [] m n e c lt = written_in n w e 1 lt
table_joined_is w (x ∷ l) m n e c lt =
    written_in n (written n w (newest x l) (e + 2)) e 1 lt ∙ ap (λ v. set v e 1) (written_in n w (newest x l) (e + 2) (newest_below w l m n x c))

linked_more : (w : List ℕ) (x : ℕ) (l : List ℕ) (e : ℕ) → e < length w → newest x l < length w → Distinct (x ∷ l) → (In e (x ∷ l) → ⊥) → Linked w (x ∷ l) → Linked (set (set w (newest x l) (e + 2)) e 1) ((x ∷ l) ++ e ∷ [])
linked_more w x [] e le lt d o k =
    (get_or-set_other (set w x (e + 2)) e x 1 0 (λ s. o (inl s)) ∙ get_or-set_same w x (e + 2) 0 lt, (get_or-set_same (set w x (e + 2)) e 1 0 (simp length-set le), tt))
linked_more w x (y ∷ l) e le lt d o k = (
  get_or-set_other (set w (newest y l) (e + 2)) e x 1 0 (λ s. o (inl s))
      ∙ (get_or-set_other w (newest y l) x (e + 2) 0 (λ s. d.0 (subst (λ j. In j (y ∷ l)) (sym s) (newest_in y l))) ∙ k.0),
  linked_more w y l e le lt d.1 (λ i. o (inr i)) k.1,
)

joined_linked : (w l : List ℕ) (m n e : ℕ) → Chain w m n l → e < n → (In e l → ⊥) → Linked (joined w l e) (l ++ e ∷ [])
joined_linked w [] m n e c lt o = (get_or-set_same w e 1 0 (omega (arith, c.room)), tt)
joined_linked w (x ∷ l) m n e c lt o =
    linked_more w x l e (omega (arith, c.room)) (omega (arith, c.room, newest_below w l m n x c)) c.distinct o c.linked

joined_length : (w l : List ℕ) (e : ℕ) → length (joined w l e) ≡ length w
joined_length w [] e = simp length-set
joined_length w (x ∷ l) e = simp length-set

-- putting e writes e's place, and that of a threaded entry
joined_others : (w l : List ℕ) (e k : ℕ) → k ≢ e → (In k l → ⊥) → get_or (joined w l e) k 0 ≡ get_or w k 0
joined_others w [] e k d o = get_or-set_other w e k 1 0 d
joined_others w (x ∷ l) e k d o =
    get_or-set_other (set w (newest x l) (e + 2)) e k 1 0 d
    ∙ get_or-set_other w (newest x l) k (e + 2) 0 (λ s. o (subst (λ j. In j (x ∷ l)) (sym s) (newest_in x l)))

chain_joined : (w : List ℕ) (m n : ℕ) (l : List ℕ) (e : ℕ) → Chain w m n l → e < m → (In e l → ⊥) → Chain (joined w l e) m n (l ++ e ∷ [])
chain_joined w m n l e c lt o =
    record {
      started = c.started;
      range = c.range;
      room = rw (joined_length w l e) c.room;
      inside = All-push (λ k. k < m) l e c.inside lt;
      distinct = distinct_append l (e ∷ []) c.distinct (λ n. n, tt) (λ k i. ⊎_elim (λ s. o (rw (← s) at i)) (λ n. n));
      linked = joined_linked w l m n e c (omega (arith, c.started)) o;
      others = λ k below out.
          let ol : In k l → ⊥ = λ i. out (append_in k l (e ∷ []) (inl i)) in
          joined_others w l e k (λ s. out (append_in k l (e ∷ []) (inr (inl (sym s))))) ol ∙ c.others k below ol;
    }

pub chain_put : (w : List ℕ) (m n : ℕ) (l : List ℕ) (e : ℕ) → Chain w m n l → e < m → (In e l → ⊥) → Chain (table_joined n (ends_of l) w e) m n (l ++ e ∷ [])
chain_put w m n l e c lt o =
    rw (table_joined_is w l m n e c (omega (arith, c.started))) (chain_joined w m n l e c lt o)
