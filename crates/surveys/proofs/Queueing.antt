-- The entries that a change queues, as the rules tell them.
use Rattle.std.proofs.Common.{◌≡◌, ℕ, zero, suc, ◌+◌, ◌-◌, ◌*◌, ◌<◌, ◌≤◌, ◌⊎◌, List, [], ◌∷◌, ◌++◌, map, length, get_or, Some, None, Option, sym, refl, ap, ◌∙◌, subst, inl, inr, add-mul, arith}
use Rattle.std.specs.List.{ContainsAt as Has, AllByRecursion}
use Rattle.std.proofs.lemmas.Nat.{mul-le}
use Rattle.std.proofs.ByRecursion.{All-from_get_or}
use Rattle.std.proofs.lemmas.Bool.{cases_eq}
use Rattle.shapes.specs.declared.axis.Axis.{Axis}
use Rattle.shapes.specs.declared.axis.Axis.TheVariants.{First, Next, Owner, Previous}
use Rattle.shapes.specs.Tree.{Tree, Laws as TreeLaws, along, back}
use Rattle.queries.specs.declared.term.Term.{Term}
use Rattle.queries.specs.Queries.{Reader, ListsReaders}
use Rattle.queries.specs.Table.{Table, Admitted, Reads, by_turn, by_meet_left, by_meet_right, by_join_left, by_join_right, by_some, by_every, term_at, block_of, blocks_terms}
use Rattle.queries.proofs.Deals.{Dealt}
use Rattle.meaning.specs.Readings.{Reading}
use Rattle.meaning.specs.Readings.Reading.{turned, met_left, met_right, joined_left, joined_right, some_there, every_there}
use Rattle.meaning.proofs.Readings.{reading_reads}
use Rattle.queues.specs.Threads.{In as Waits}
use Rattle.queues.proofs.Entries.{in_or_out, in_append, append_in}
use Rattle.surveys.specs.Places.{Place, In, Lists}
use Rattle.surveys.specs.Rules.{Opening, EntryOf, Queued}
use Rattle.surveys.specs.Standing.{place_in}
use Rattle.surveys.specs.Stepping.{first_of}
use Rattle.surveys.specs.Waking.{reader_node_lem, reading_entry_lem, numbered, in_front, woken, added_by}
use Rattle.surveys.proofs.Numbering.{Rises, place_waits, waits_place, place_waits_as, places_rise, number_of_entry}
use Rattle.surveys.proofs.Spanning.{span_has}
use Rattle.surveys.proofs.Wakes.{added_waits, added_new, reader_inside}

-- what is added: the entries that are not there yet, in their order
pub added_in : (e : ℕ) (es l : List ℕ) → Waits e (added_by l es) → Waits e es × (Waits e l → ⊥)
added_in e [] l h = absurd h
added_in e (x ∷ es) l h = elim (in_or_out x l) [
  | inl there ↦ let r = added_in e es l (subst (Waits e) (added_waits l x es there) h) in (inr r.0, r.1)
  | inr new ↦ elim (subst (Waits e) (added_new l x es new) h) [
    | inl same ↦ (inl same, λ i. new (subst (λ k. Waits k l) (sym same) i))
    | inr later ↦ let r = added_in e es (l ++ (x ∷ [])) later in (inr r.0, λ i. r.1 (append_in e l (x ∷ []) (inl i)))
  ]
]

pub in_added : (e : ℕ) (es l : List ℕ) → Waits e es → (Waits e l → ⊥) → Waits e (added_by l es)
in_added e [] l h out = absurd h
in_added e (x ∷ es) l h out = elim (in_or_out x l) [
  | inl there ↦ subst (Waits e) (sym (added_waits l x es there)) (elim h [ inl same ↦ absurd (out (subst (λ k. Waits k l) same there)) | inr i ↦ in_added e es l i out ])
  | inr new ↦ subst (Waits e) (sym (added_new l x es new)) (elim (cases_eq x e) [
    | inl same ↦ inl same
    | inr other ↦ elim h [
      | inl same ↦ inl same
      | inr i ↦ inr (in_added e es (l ++ (x ∷ [])) i (λ w. elim (in_append e l (x ∷ []) w) [ inl k ↦ out k | inr last ↦ elim last [ inl same ↦ other same | inr none ↦ none ] ]))
    ]
  ])
]

added_all : (P : ℕ → Type 0) (es l : List ℕ) → AllByRecursion P es → AllByRecursion P (added_by l es)
added_all P [] l h = tt
added_all P (x ∷ es) l h = elim (in_or_out x l) [
  | inl there ↦ subst (AllByRecursion P) (sym (added_waits l x es there)) (added_all P es l h.1)
  | inr new ↦ subst (AllByRecursion P) (sym (added_new l x es new)) (h.0, added_all P es (l ++ (x ∷ [])) h.1)
]

pub added_rises : (es l : List ℕ) → Rises es → Rises (added_by l es)
added_rises [] l h = tt
added_rises (x ∷ es) l h = elim (in_or_out x l) [
  | inl there ↦ subst Rises (sym (added_waits l x es there)) (added_rises es l h.1)
  | inr new ↦ subst Rises (sym (added_new l x es new)) (added_all (λ y. x < y) es (l ++ (x ∷ [])) h.0, added_rises es (l ++ (x ∷ [])) h.1)
]

-- a list by its places
pub rises_from : (l : List ℕ) → ((a b : ℕ) → a < b → b < length l → get_or l a 0 < get_or l b 0) → Rises l
rises_from [] h = tt
rises_from (x ∷ l) h = (All-from_get_or (λ y. x < y) l 0 (λ i below. h 0 (suc i) (omega arith) (omega arith)), rises_from l (λ a b less below. h (suc a) (suc b) (omega arith) (omega arith)))

pub has_later : (x y : ℕ) (l : List ℕ) → Has l y → Has (x ∷ l) y
has_later x y l h = (suc h.0, omega (arith, h.1), λ d. h.2 d)

pub in_has : (e : ℕ) (l : List ℕ) → Waits e l → Has l e
in_has e [] h = absurd h
in_has e (x ∷ l) (inl same) = (0, omega arith, λ d. same)
in_has e (x ∷ l) (inr h) = has_later x e l (in_has e l h)

pub has_in : (e : ℕ) (l : List ℕ) (k : ℕ) → k < length l → get_or l k 0 ≡ e → Waits e l
has_in e [] k h is = absurd (omega arith)
has_in e (x ∷ l) zero h is = inl is
has_in e (x ∷ l) (suc k) h is = inr (has_in e l k (omega arith) is)

-- the node at which a term reads, as the rules tell it
module _ (t : Tree) (laws : TreeLaws t) where
  back_back : (axis : Axis) (x y : ℕ) → along t (back axis) y ≡ Some x → along t axis x ≡ Some y
  back_back First x y h = laws.reversed Owner y x h
  back_back Next x y h = laws.reversed Previous y x h
  back_back Owner x y h = laws.reversed First y x h
  back_back Previous x y h = laws.reversed Next y x h

  here : {m : Term} {j x y : ℕ} → Some y ≡ Some x → Reading t m x j x → Reading t m x j y
  here {m} {j} {x} {y} e r = let same : x ≡ y = cc in subst (Reading t m x j) same r

  pub node_reads : {m : Term} {j : ℕ} (x y : ℕ) → Reads m j → reader_node_lem t m y ≡ Some x → Reading t m x j y
  node_reads x y (by_turn a) e = here e (turned a x)
  node_reads x y (by_meet_left a b) e = here e (met_left a b x)
  node_reads x y (by_meet_right a b) e = here e (met_right a b x)
  node_reads x y (by_join_left a b) e = here e (joined_left a b x)
  node_reads x y (by_join_right a b) e = here e (joined_right a b x)
  node_reads x y (by_some axis a) e = some_there axis a x y (back_back axis x y e)
  node_reads x y (by_every axis a) e = every_there axis a x y (back_back axis x y e)

  pub reads_node : {m : Term} {j x y : ℕ} → Reading t m x j y → reader_node_lem t m y ≡ Some x
  reads_node (turned a x) = refl
  reads_node (met_left a b x) = refl
  reads_node (met_right a b x) = refl
  reads_node (joined_left a b x) = refl
  reads_node (joined_right a b x) = refl
  reads_node (some_there axis a x y e) = laws.reversed axis x y e
  reads_node (every_there axis a x y e) = laws.reversed axis x y e

-- a reader in the list, with the node at which it reads
pub record WokenBy (t : Tree) (q : Table) (first y : ℕ) (rs : List ℕ) (e : ℕ) : Type 0 where
  pub reader : ℕ
  pub node : ℕ
  pub listed : Waits reader rs
  pub reads : reader_node_lem t (term_at q reader) y ≡ Some node
  pub number : e ≡ (reader - first) * t.count + node

module _ (t : Tree) (q : Table) (first y : ℕ) where
  front_number : (r e : ℕ) (o : Option ℕ) (l : List ℕ) → o ≡ reader_node_lem t (term_at q r) y → Waits e (in_front (numbered first t.count r o) l) → ((x : ℕ) × ((reader_node_lem t (term_at q r) y ≡ Some x) × (e ≡ (r - first) * t.count + x))) ⊎ Waits e l
  front_number r e None l is h = inr h
  front_number r e (Some x) l is (inl same) = inl (x, (sym is, sym same))
  front_number r e (Some x) l is (inr h) = inr h

  pub woken_by : (e : ℕ) (rs : List ℕ) → Waits e (woken t q first y rs) → WokenBy t q first y rs e
  woken_by e [] h = absurd h
  woken_by e (r ∷ rs) h = elim (front_number r e (reader_node_lem t (term_at q r) y) (woken t q first y rs) refl h) [
    | inl k ↦ record { reader = r; node = k.0; listed = inl refl; reads = k.1.0; number = k.1.1 }
    | inr g ↦ let k = woken_by e rs g in record { reader = k.reader; node = k.node; listed = inr k.listed; reads = k.reads; number = k.number }
  ]

  number_front : (r x : ℕ) (o : Option ℕ) (l : List ℕ) → o ≡ Some x → Waits ((r - first) * t.count + x) (in_front (numbered first t.count r o) l)
  number_front r x o l e = subst (λ o. Waits ((r - first) * t.count + x) (in_front (numbered first t.count r o) l)) (sym e) (inl refl)

  later_front : (e : ℕ) (o : Option ℕ) (l : List ℕ) → Waits e l → Waits e (in_front o l)
  later_front e None l h = h
  later_front e (Some x) l h = inr h

  pub by_woken : (r x : ℕ) (rs : List ℕ) → Waits r rs → reader_node_lem t (term_at q r) y ≡ Some x → Waits ((r - first) * t.count + x) (woken t q first y rs)
  by_woken r x [] h reads = absurd h
  by_woken r x (d ∷ rs) (inl same) reads = subst (λ r. Waits ((r - first) * t.count + x) (woken t q first y (d ∷ rs))) same (number_front d x (reader_node_lem t (term_at q d) y) (woken t q first y rs) (ap (λ r. reader_node_lem t (term_at q r) y) same ∙ reads))
  by_woken r x (d ∷ rs) (inr h) reads = later_front ((r - first) * t.count + x) (reading_entry_lem t q first y d) (woken t q first y rs) (by_woken r x rs h reads)

  -- rising readers have rising entries
  module _ (laws : TreeLaws t) (inside : y < t.count) where
    front_all : (P : ℕ → Type 0) (r : ℕ) (o : Option ℕ) (l : List ℕ) → ((x : ℕ) → o ≡ Some x → P ((r - first) * t.count + x)) → AllByRecursion P l → AllByRecursion P (in_front (numbered first t.count r o) l)
    front_all P r None l p h = h
    front_all P r (Some x) l p h = (p x refl, h)

    pub woken_all : (P : ℕ → Type 0) (rs : List ℕ) → AllByRecursion (λ r. (x : ℕ) → x < t.count → P ((r - first) * t.count + x)) rs → AllByRecursion P (woken t q first y rs)
    woken_all P [] h = tt
    woken_all P (r ∷ rs) h = front_all P r (reader_node_lem t (term_at q r) y) (woken t q first y rs) (λ x e. h.0 x (reader_inside t laws (term_at q r) y x inside (sym e))) (woken_all P rs h.1)

    front_rises : (r : ℕ) (o : Option ℕ) (l : List ℕ) → ((x : ℕ) → o ≡ Some x → AllByRecursion (λ e. (r - first) * t.count + x < e) l) → Rises l → Rises (in_front (numbered first t.count r o) l)
    front_rises r None l p h = h
    front_rises r (Some x) l p h = (p x refl, h)

    pub woken_rises : (rs : List ℕ) → Rises rs → AllByRecursion (λ r. first ≤ r) rs → Rises (woken t q first y rs)
    woken_rises [] h from = tt
    woken_rises (r ∷ rs) h from =
        front_rises r (reader_node_lem t (term_at q r) y) (woken t q first y rs)
        (λ x e. woken_all (λ e. (r - first) * t.count + x < e) rs (above x (reader_inside t laws (term_at q r) y x inside (sym e)) rs h.0))
        (woken_rises rs h.1 from.1)
      where
        later : (x : ℕ) → x < t.count → (d : ℕ) → r < d → (z : ℕ) → (r - first) * t.count + x < (d - first) * t.count + z
        later x node d less z = let low : first ≤ r = from.0 in omega (arith, add-mul (r - first) 1 t.count, mul-le (r - first + 1) t.count (d - first) t.count (omega arith) (omega arith))

        above : (x : ℕ) → x < t.count → (ds : List ℕ) → AllByRecursion (λ d. r < d) ds → AllByRecursion (λ d. (z : ℕ) → z < t.count → (r - first) * t.count + x < (d - first) * t.count + z) ds
        above x node [] h = tt
        above x node (d ∷ ds) h = (λ z _. later x node d h.0 z, above x node ds h.1)

-- the list that the rules ask for
module _ {G : Type 0} (o : Opening G) (a : Admitted o.query) (laws : TreeLaws o.tree) (b j y : ℕ) (own : block_of o.query j ≡ b) (stands : b < length o.query.blocks) (inside : y < o.tree.count) (readers : List ℕ) (lists : ListsReaders o.query j readers) where
  reader_of : (r : ℕ) → Waits r readers → Reader o.query j r
  reader_of r h = lists.only r (in_has r readers h)

  reader_dealt : (r : ℕ) → Waits r readers → Dealt o.query.blocks r b
  reader_dealt r h = let k = reader_of r h in span_has a b r k.stands (k.same_block ∙ own)

  all_of : (P : ℕ → Type 0) (rs : List ℕ) → ((r : ℕ) → Waits r rs → P r) → AllByRecursion P rs
  all_of P [] h = tt
  all_of P (r ∷ rs) h = (h r (inl refl), all_of P rs (λ d i. h d (inr i)))

  reader_entry : (r x : ℕ) → Waits r readers → x < o.tree.count → EntryOf o b r x
  reader_entry r x h node = let k = reader_of r h in record { term = k.stands; dealt_here = k.same_block ∙ own; node = node }

  pub readers_inside : AllByRecursion (λ e. e < blocks_terms o.query b * o.tree.count) (woken o.tree o.query (first_of o.query b) y readers)
  readers_inside =
      woken_all o.tree o.query (first_of o.query b) y laws inside (λ e. e < blocks_terms o.query b * o.tree.count) readers
      (all_of (λ r. (x : ℕ) → x < o.tree.count → (r - first_of o.query b) * o.tree.count + x < blocks_terms o.query b * o.tree.count) readers
      (λ r h x node. (number_of_entry o a laws.countable.0 b stands r x (reader_entry r x h node)).0))

  pub queued_listed : (rest : List ℕ) → Lists (Queued o b j y (map (place_in o b) rest)) (map (place_in o b) (added_by rest (woken o.tree o.query (first_of o.query b) y readers)))
  queued_listed rest = record {
    sound = λ p i. let k = place_waits o b p (added_by rest es) i in subst (Queued o b j y (map (place_in o b) rest)) (sym k.1.1) (sound k.0 (added_in k.0 es rest k.1.0));
    whole = whole;
    rising = places_rise o b laws.countable.0 (added_by rest es) (added_rises es rest (woken_rises o.tree o.query (first_of o.query b) y laws inside readers (rises_from readers lists.rising) (all_of (λ r. first_of o.query b ≤ r) readers (λ r h. (reader_dealt r h).low))));
  }
    where
      es : List ℕ
      es = woken o.tree o.query (first_of o.query b) y readers

      entry_reads : (r x : ℕ) → Waits r readers → reader_node_lem o.tree (term_at o.query r) y ≡ Some x → ((r, x) ≡ place_in o b ((r - first_of o.query b) * o.tree.count + x)) × (EntryOf o b r x × Reading o.tree (term_at o.query r) x j y)
      entry_reads r x h e =
          let entry : EntryOf o b r x = reader_entry r x h (reader_inside o.tree laws (term_at o.query r) y x inside (sym e)) in
          ((number_of_entry o a laws.countable.0 b stands r x entry).1, (entry, node_reads o.tree laws x y (reader_of r h).reads e))

      sound : (e : ℕ) → Waits e es × (Waits e rest → ⊥) → Queued o b j y (map (place_in o b) rest) (place_in o b e)
      sound e h =
          let k = woken_by o.tree o.query (first_of o.query b) y e readers h.0 in
          let r = entry_reads k.reader k.node k.listed k.reads in
          let at : (k.reader, k.node) ≡ place_in o b e = r.0 ∙ ap (place_in o b) (sym k.number) in
          record {
            entry = subst (λ (p : Place). EntryOf o b p.0 p.1) at r.1.0;
            reads = subst (λ (p : Place). Reading o.tree (term_at o.query p.0) p.1 j y) at r.1.1;
            waits_not = λ i. h.1 (place_waits_as o b e rest i);
          }

      whole : (p : Place) → Queued o b j y (map (place_in o b) rest) p → In p (map (place_in o b) (added_by rest es))
      whole p w =
          let reader : Reader o.query j p.0 = record { stands = w.entry.term; same_block = w.entry.dealt_here ∙ sym own; reads = reading_reads w.reads } in
          let has = lists.all p.0 reader in
          let listed : Waits p.0 readers = has_in p.0 readers has.0 has.1 (has.2 0) in
          let e = (p.0 - first_of o.query b) * o.tree.count + p.1 in
          let at : p ≡ place_in o b e = (number_of_entry o a laws.countable.0 b stands p.0 p.1 w.entry).1 in
          subst (λ z. In z (map (place_in o b) (added_by rest es))) (sym at)
          (waits_place o b e (added_by rest es) (in_added e es rest (by_woken o.tree o.query (first_of o.query b) y p.0 p.1 readers listed (reads_node o.tree laws w.reads))
          (λ i. w.waits_not (subst (λ z. In z (map (place_in o b) rest)) (sym at) (waits_place o b e rest i)))))
