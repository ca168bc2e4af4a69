-- How many steps a block can still make: its queue, and how far the entries that its entries read can still move.
use Rattle.std.proofs.Common.{◌≡◌, ℕ, ◌+◌, ◌*◌, ◌<◌, ◌≤◌, List, ◌∷◌, length, get_or, sum_by, ap, ◌∙◌, inl, inr, mul-le-mul_right, mul_assoc, mul_comm, mul-one, mul-add, arith}
use native.Mathlib.Decide.{ℕ_discrete}
use Rattle.std.proofs.ByRecursion.{All-from_get_or, sum_by_le}
use Rattle.std.proofs.lemmas.List.{length-append}
use Rattle.queries.specs.Table.{term_at, block_of, blocks_terms, direction}
use Rattle.meaning.specs.Readings.{Reading}
use Rattle.meaning.specs.Solutions.{Grades}
use Rattle.meaning.proofs.Better.{better_equal}
use Rattle.meaning.proofs.Readings.{read_stands}
use Rattle.surveys.specs.Places.{Place, In, Lists}
use Rattle.surveys.specs.Rules.{Opening, State, EntryOf, Steps}
use Rattle.surveys.proofs.BlockSizes.{few_entries}
use Rattle.surveys.proofs.Entries.{entries}
use Rattle.surveys.proofs.Order.{listed_once}
use Rattle.surveys.proofs.Readings.{Accepted, AgreeOwn, AgreeRead, BetterAt, reads_term}
use Rattle.surveys.proofs.Ready.{Ready}
use Rattle.surveys.proofs.Room.{room, room_bounded, room_falls, operands_sum, operands_bounded, operands_mono, operands_fall}
use Rattle.surveys.proofs.Sums.{sumBy_mono, sumBy_falls}
use Rattle.surveys.proofs.Taken.{head_entry, values_rise, other_block_stays}

-- how far each value can still move
abbrev pub rooms : {G : Type 0} → Opening G → Grades G → Grades ℕ
rooms o v j z = room o.kind (direction o.query j) (v j z)

-- how far the entries that an entry reads can still move
abbrev pub read_rooms : {G : Type 0} → Opening G → Grades G → Place → ℕ
read_rooms o v p = operands_sum o.tree (rooms o v) (term_at o.query p.0) p.1

-- the steps that block b can still make with these entries waiting
abbrev pub left_in : {G : Type 0} → Opening G → Grades G → ℕ → List Place → ℕ
left_in o v b queue = length queue + sum_by (read_rooms o v) (entries o b).0

-- the steps that it can make from its start on
abbrev pub all_of : {G : Type 0} → Opening G → ℕ → ℕ
all_of o b = o.tree.count * (1 + 2 * o.kind.height) * blocks_terms o.query b

parts_of_all : (n h t : ℕ) → n * (1 + h) * t ≡ t * n + t * n * h
parts_of_all n h t = rw (mul_comm (n * (1 + h)) t, mul-add n 1 h, mul-one n, mul-add t n (n * h), mul_assoc t n h)

module _ {G : Type 0} (o : Opening G) (f : Accepted o) where
  room_mono : (v w : Grades G) (j z : ℕ) → BetterAt o j (v j z) (w j z) → rooms o w j z ≤ rooms o v j z
  room_mono v w j z h = elim (room_falls f.kind (direction o.query j) (v j z) (w j z) h) [ inl e ↦ e.1 | inr l ↦ omega arith ]

  read_bounded : (v : Grades G) (p : Place) → read_rooms o v p ≤ 2 * o.kind.height
  read_bounded v p = operands_bounded o.tree (rooms o v) o.kind.height (λ j z. room_bounded f.kind (direction o.query j) (v j z)) (term_at o.query p.0) p.1

  -- a block begins with all its entries waiting
  pub left_begins : (v : Grades G) (b : ℕ) (queue : List Place) → Lists (λ p. EntryOf o b p.0 p.1) queue → left_in o v b queue ≤ all_of o b
  left_begins v b queue lists =
      let h : ℕ = 2 * o.kind.height in
      let n : ℕ = blocks_terms o.query b * o.tree.count in
      let same : (entries o b).0 ≡ queue = listed_once (entries o b).1 lists in
      let short : length queue ≤ n = few_entries o.tree f.admitted b queue lists in
      let each : sum_by (read_rooms o v) queue ≤ length queue * h =
      sum_by_le (read_rooms o v) h queue (All-from_get_or (λ p. read_rooms o v p ≤ h) queue (0, 0) (λ i l. read_bounded v (get_or queue i (0, 0)))) in
      let all : all_of o b ≡ n + n * h = parts_of_all o.tree.count h (blocks_terms o.query b) in
      rw same (omega (arith, mul-le-mul_right h short))

  -- where nothing that a block reads changes, it has no more steps left
  pub left_stays : (v w : Grades G) (b : ℕ) (queue : List Place) → AgreeOwn o b v w → AgreeRead o b v w → left_in o w b queue ≤ left_in o v b queue
  left_stays v w b queue own read = omega (arith, sumBy_mono (read_rooms o w) (read_rooms o v) (entries o b).0 λ p i. operands_mono o.tree (rooms o w) (rooms o v) (term_at o.query p.0) p.1 (same p ((entries o b).1.sound p i)))
    where
      same : (p : Place) → EntryOf o b p.0 p.1 → (j z : ℕ) → Reading o.tree (term_at o.query p.0) p.1 j z → rooms o w j z ≤ rooms o v j z
      same p e j z r =
          let stands = read_stands f.tree f.admitted e r in
          let agree : v j z ≡ w j z = elim (ℕ_discrete (block_of o.query j) b) [
            | yes here ↦ own j z (record { term = stands.term; dealt_here = here; node = stands.node })
            | no other ↦ read j z (reads_term e r) other stands.node
          ] in
          omega (arith, ap (room o.kind (direction o.query j)) agree)

module _ {G : Type 0} (o : Opening G) (f : Accepted o) (s s' : State G) (st : Steps o s s') (r : Ready o s.marks s.values s.settled st.block ((st.term, st.node) ∷ st.rest)) where
  read_better : (p : Place) → EntryOf o st.block p.0 p.1 → (j z : ℕ) → Reading o.tree (term_at o.query p.0) p.1 j z → BetterAt o j (s.values j z) (s'.values j z)
  read_better p e j z reading =
      let stands = read_stands f.tree f.admitted e reading in
      elim (ℕ_discrete (block_of o.query j) st.block) [
        | yes here ↦ values_rise o f s s' st r j z (record { term = stands.term; dealt_here = here; node = stands.node })
        | no other ↦ better_equal f.kind (direction o.query j) (s.values j z) (s'.values j z) (other_block_stays o f s s' st r (block_of o.query j) j z stands other)
      ]

  less : (p : Place) → EntryOf o st.block p.0 p.1 → (j z : ℕ) → Reading o.tree (term_at o.query p.0) p.1 j z → rooms o s'.values j z ≤ rooms o s.values j z
  less p e j z reading = room_mono o f s.values s'.values j z (read_better p e j z reading)

  falls : (p : Place) → In p (entries o st.block).0 → read_rooms o s'.values p ≤ read_rooms o s.values p
  falls p i = operands_mono o.tree (rooms o s'.values) (rooms o s.values) (term_at o.query p.0) p.1 (less p ((entries o st.block).1.sound p i))

  -- what a step adds to the queue is made up for by what is left to the readers
  added_few : length st.added + sum_by (read_rooms o s'.values) (entries o st.block).0 ≤ sum_by (read_rooms o s.values) (entries o st.block).0
  added_few = elim (room_falls f.kind (direction o.query st.term) (s.values st.term st.node) (s'.values st.term st.node) (values_rise o f s s' st r st.term st.node (head_entry o f s s' st r))) [
    | inl e ↦ rw (st.unchanged e.0) (omega (arith, sumBy_mono (read_rooms o s'.values) (read_rooms o s.values) (entries o st.block).0 falls))
    | inr l ↦
        let lists = st.changed (λ e. omega (arith, ap (room o.kind (direction o.query st.term)) e)) in
        sumBy_falls (read_rooms o s.values) (read_rooms o s'.values) (entries o st.block).0 st.added (entries o st.block).1.rising lists.rising
        (λ p i. (entries o st.block).1.whole p (lists.sound p i).entry)
        falls
        (λ p i. operands_fall o.tree (rooms o s'.values) (rooms o s.values) (less p (lists.sound p i).entry) (lists.sound p i).reads l)
  ]

  -- a step leaves its block with fewer steps
  pub left_falls : left_in o s'.values st.block s'.queue < left_in o s.values st.block ((st.term, st.node) ∷ st.rest)
  left_falls =
      let longer : length s'.queue ≡ length st.rest + length st.added = ap length st.queue ∙ length-append st.rest st.added in
      omega (arith, added_few)
