-- The entries of the readers of a term, and what is left of them to be put in a queue.
use Rattle.std.proofs.Common.{◌≡◌, ℕ, ◌+◌, ◌<◌, ◌≤◌, Bool, true, false, cond, eqb, List, [], ◌∷◌, ◌++◌, length, get_or, drop, Some, None, MatchBool, Option, sym, refl, ap, ◌∙◌, subst, inl, inr, arith}
use Rattle.std.specs.List.{slice_get, AllByRecursion}
use Rattle.std.proofs.lemmas.List.{append_assoc, append-nil, get_or_past, at_drop_more, at_drop_all}
use Rattle.std.proofs.lemmas.Option.{slice_get-get_or, slice_get_past}
use Rattle.std.proofs.lemmas.Bool.{cases_lt, eq-eqb, ne_eqb, or_left, or_right, or_from}
use Rattle.shapes.specs.Tree.{Tree, Laws as TreeLaws, back}
use Rattle.queries.specs.declared.term.Term.{Term}
use Rattle.queries.specs.declared.term.Term.TheVariants.{Mark, Turn, Meet, Join, SomeNeighbour, EveryNeighbour, Lowest, Highest}
use Rattle.queries.specs.Table.{Table}
use Rattle.queues.specs.declared.queue.Queue.{Queue}
use Rattle.queues.specs.Calls.{StaysWithin}
use Rattle.queues.specs.Threads.{In, Threads}
use Rattle.queues.proofs.Within.{stays_same, stays_both}
use Rattle.surveys.specs.Waking.{reader_node_lem, numbered, reading_entry_lem, in_front, woken, waits, added_by}
use Rattle.surveys.proofs.Evaluation.{found_at}

-- a reader that is no term reads nothing
pub reads_nothing : (t : Tree) (q : Table) (first y r : ℕ) → slice_get q.terms r ≡ None → reading_entry_lem t q first y r ≡ None
reads_nothing t q first y r e = elim (cases_lt r (length q.terms)) [
  | inl h ↦ let some = slice_get-get_or q.terms r Lowest h in cc
  | inr h ↦ ap (λ m. numbered first t.count r (reader_node_lem t m y)) (get_or_past q.terms r Lowest h)
]

pub reads_found : (t : Tree) (q : Table) (first y r : ℕ) (m : Term) (o : Option ℕ) → Some m ≡ slice_get q.terms r → o ≡ reader_node_lem t m y → numbered first t.count r o ≡ reading_entry_lem t q first y r
reads_found t q first y r m o e h = ap (numbered first t.count r) (h ∙ ap (λ m. reader_node_lem t m y) (found_at q.terms r m e))

pub found_below : (terms : List Term) (i : ℕ) (m : Term) → Some m ≡ slice_get terms i → i < length terms
found_below terms i m e = elim (cases_lt i (length terms)) [
  | inl h ↦ h
  | inr h ↦ let none = slice_get_past terms i h in cc
]

-- a reader of a node stands at a node
at_inside : (t : Tree) → (x y : ℕ) → x < t.count → Some y ≡ Some x → y < t.count
at_inside t x y h e = let same : y ≡ x = cc in omega arith

pub reader_inside : (t : Tree) → TreeLaws t → (m : Term) (x y : ℕ) → x < t.count → Some y ≡ reader_node_lem t m x → y < t.count
reader_inside t laws (Mark a) x y h e = cc
reader_inside t laws (Turn a) x y h e = at_inside t x y h e
reader_inside t laws (Meet a b) x y h e = at_inside t x y h e
reader_inside t laws (Join a b) x y h e = at_inside t x y h e
reader_inside t laws (SomeNeighbour axis a) x y h e = laws.inside (back axis) x y (sym e)
reader_inside t laws (EveryNeighbour axis a) x y h e = laws.inside (back axis) x y (sym e)
reader_inside t laws Lowest x y h e = cc
reader_inside t laws Highest x y h e = cc

-- the test of waiting
pub in_waits : (e : ℕ) (l : List ℕ) → In e l → waits e l ≡ true
in_waits e [] h = absurd h
in_waits e (x ∷ l) (inl same) = or_left (eqb x e) (waits e l) (eq-eqb x e same)
in_waits e (x ∷ l) (inr h) = or_right (eqb x e) (waits e l) (in_waits e l h)

pub out_waits : (e : ℕ) (l : List ℕ) → (In e l → ⊥) → waits e l ≡ false
out_waits e [] h = refl
out_waits e (x ∷ l) h = or_from (eqb x e) (waits e l) (ne_eqb x e (λ same. h (inl same))) (out_waits e l (λ i. h (inr i)))

pub added_waits : (l : List ℕ) (e : ℕ) (es : List ℕ) → In e l → added_by l (e ∷ es) ≡ added_by l es
added_waits l e es h = ap (λ b. cond b (added_by l es) (e ∷ added_by (l ++ (e ∷ [])) es)) (in_waits e l h)

pub added_new : (l : List ℕ) (e : ℕ) (es : List ℕ) → (In e l → ⊥) → added_by l (e ∷ es) ≡ e ∷ added_by (l ++ (e ∷ [])) es
added_new l e es h = ap (λ b. cond b (added_by l es) (e ∷ added_by (l ++ (e ∷ [])) es)) (out_waits e l h)

-- a list that waits, with entries left to put, on the way to a final list
pub record Putting (w : List ℕ) (queue : Queue) (size : ℕ) (left final : List ℕ) : Type 0 where
  pub list : List ℕ
  pub threads : Threads w queue list
  pub inside : AllByRecursion (λ e. e < size) left
  pub leads : list ++ added_by list left ≡ final

pub put_one : (w w' : List ℕ) (q q' : Queue) (size e : ℕ) (left final : List ℕ) (b : Bool) → q.size ≡ size →
    ((l : List ℕ) → Threads w q l → e < q.size → MatchBool b ((In e l → ⊥) × Threads w' q' (l ++ e ∷ [])) (In e l × Threads w' q' l)) →
    Putting w q size (e ∷ left) final → Putting w' q' size left final
put_one w w' q q' size e left final true same put p =
    let r = put p.list p.threads (omega (arith, p.inside.0)) in
    record {
      list = p.list ++ (e ∷ []);
      threads = r.1;
      inside = p.inside.1;
      leads = append_assoc p.list (e ∷ []) (added_by (p.list ++ (e ∷ [])) left) ∙ (sym (ap (λ a. p.list ++ a) (added_new p.list e left r.0)) ∙ p.leads);
    }
put_one w w' q q' size e left final false same put p =
    let r = put p.list p.threads (omega (arith, p.inside.0)) in
    record { list = p.list; threads = r.1; inside = p.inside.1; leads = sym (ap (λ a. p.list ++ a) (added_waits p.list e left r.0)) ∙ p.leads }

-- a loop over the readers
module _ (t : Tree) (q : Table) (first y : ℕ) (readers : List ℕ) where
  abbrev pub LeftToPut : List ℕ → Queue → ℕ → ℕ → List ℕ → Type 0
  LeftToPut w queue size i l = Putting w queue size (woken t q first y (drop i readers)) (l ++ added_by l (woken t q first y readers))

  pub left_all : (w : List ℕ) (queue : Queue) (l : List ℕ) → Threads w queue l → AllByRecursion (λ e. e < queue.size) (woken t q first y readers) → LeftToPut w queue queue.size 0 l
  left_all w queue l threads inside = record { list = l; threads = threads; inside = inside; leads = refl }

  pub left_none : (w : List ℕ) (queue : Queue) (size i : ℕ) (l : List ℕ) → length readers ≤ i → LeftToPut w queue size i l → Threads w queue (l ++ added_by l (woken t q first y readers))
  left_none w queue size i l end p =
      subst (λ m. Threads w queue m) (sym (append-nil p.list) ∙ (ap (λ e. p.list ++ added_by p.list e) (sym (at_drop_all (woken t q first y) readers i end)) ∙ p.leads)) p.threads

  -- what is left begins with the entry of the next reader
  left_next : (w : List ℕ) (queue : Queue) (size i : ℕ) (l : List ℕ) (o : Option ℕ) → i < length readers → o ≡ reading_entry_lem t q first y (get_or readers i 0) → LeftToPut w queue size i l →
      Putting w queue size (in_front o (woken t q first y (drop (i + 1) readers))) (l ++ added_by l (woken t q first y readers))
  left_next w queue size i l o h e p =
      subst (λ m. Putting w queue size m (l ++ added_by l (woken t q first y readers)))
      (at_drop_more (woken t q first y) readers i 0 h ∙ ap (λ o. in_front o (woken t q first y (drop (i + 1) readers))) (sym e)) p

  pub left_skip : (w : List ℕ) (queue : Queue) (size i : ℕ) (l : List ℕ) → i < length readers → None ≡ reading_entry_lem t q first y (get_or readers i 0) → LeftToPut w queue size i l → LeftToPut w queue size (i + 1) l
  left_skip w queue size i l h e p = left_next w queue size i l None h e p

  pub left_put : (w w' : List ℕ) (queue queue' : Queue) (size i e : ℕ) (l : List ℕ) (b : Bool) → queue.size ≡ size → i < length readers → Some e ≡ reading_entry_lem t q first y (get_or readers i 0) →
      ((l : List ℕ) → Threads w queue l → e < queue.size → MatchBool b ((In e l → ⊥) × Threads w' queue' (l ++ e ∷ [])) (In e l × Threads w' queue' l)) →
      LeftToPut w queue size i l → LeftToPut w' queue' size (i + 1) l
  left_put w w' queue queue' size i e l b same h is put p = put_one w w' queue queue' size e (woken t q first y (drop (i + 1) readers)) (l ++ added_by l (woken t q first y readers)) b same put (left_next w queue size i l (Some e) h is p)

  -- what the loop keeps, from the table w₀ and the queue q₀ on
  pub record WokenSoFar (w₀ : List ℕ) (q₀ : Queue) (w : List ℕ) (queue : Queue) (i : ℕ) : Type 0 where
    pub stays : StaysWithin q₀ w₀ queue w
    pub lists : (l : List ℕ) → Threads w₀ q₀ l → AllByRecursion (λ e. e < q₀.size) (woken t q first y readers) → LeftToPut w queue q₀.size i l

  pub so_far_none : (w₀ : List ℕ) (q₀ : Queue) → WokenSoFar w₀ q₀ w₀ q₀ 0
  so_far_none w₀ q₀ = record { stays = stays_same q₀ w₀; lists = left_all w₀ q₀ }

  pub so_far_skip : (w₀ : List ℕ) (q₀ : Queue) (w : List ℕ) (queue : Queue) (i : ℕ) → i < length readers → None ≡ reading_entry_lem t q first y (get_or readers i 0) → WokenSoFar w₀ q₀ w queue i → WokenSoFar w₀ q₀ w queue (i + 1)
  so_far_skip w₀ q₀ w queue i h e s = record { stays = s.stays; lists = λ l threads inside. left_skip w queue q₀.size i l h e (s.lists l threads inside) }

  pub so_far_put : (w₀ : List ℕ) (q₀ : Queue) (w w' : List ℕ) (queue queue' : Queue) (i e : ℕ) (b : Bool) → i < length readers → Some e ≡ reading_entry_lem t q first y (get_or readers i 0) →
      StaysWithin queue w queue' w' →
      ((l : List ℕ) → Threads w queue l → e < queue.size → MatchBool b ((In e l → ⊥) × Threads w' queue' (l ++ e ∷ [])) (In e l × Threads w' queue' l)) →
      WokenSoFar w₀ q₀ w queue i → WokenSoFar w₀ q₀ w' queue' (i + 1)
  so_far_put w₀ q₀ w w' queue queue' i e b h is stays put s = record {
    stays = stays_both s.stays stays;
    lists = λ l threads inside. left_put w w' queue queue' q₀.size i e l b s.stays.size h is put (s.lists l threads inside);
  }
