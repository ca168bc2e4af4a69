-- The entries of a block by their numbers.
use Rattle.std.proofs.Common.{◌≡◌, ℕ, zero, suc, ◌+◌, ◌-◌, ◌*◌, ◌/◌, ◌%◌, ◌<◌, ◌⊎◌, List, [], ◌∷◌, map, length, sym, refl, ap, ◌∙◌, subst, ap₂, inl, inr, add-mul, arith}
use Rattle.std.specs.List.{range_with_len, AllByRecursion}
use Rattle.std.proofs.lemmas.Nat.{div-add-mod', div-mul-add, mod-mul-add, div_below, mod_below, mul-le}
use Rattle.std.proofs.lemmas.Bool.{cases_order}
use Rattle.queries.specs.Table.{Admitted, blocks_terms}
use Rattle.queries.proofs.Deals.{Dealt}
use Rattle.queues.specs.Threads.{In as Waits}
use Rattle.queues.proofs.Entries.{counting_in, in_counting}
use Rattle.surveys.specs.Places.{Place, In, Before, Rising, Lists}
use Rattle.surveys.specs.Places.In.{first, later}
use Rattle.surveys.specs.Places.Rising.{none, one_more}
use Rattle.surveys.specs.Rules.{Opening, EntryOf}
use Rattle.surveys.specs.Standing.{place_in}
use Rattle.surveys.specs.Stepping.{first_of}
use Rattle.surveys.proofs.Membership.{in_none, in_cons}
use Rattle.surveys.proofs.Spanning.{span_inside, in_span, span_has}

-- numbers in rising order
abbrev pub Rises : List ℕ → Type 0
Rises [] = Unit {0}
Rises (x ∷ l) = AllByRecursion (λ y. x < y) l × Rises l

pub counting_above : (m a n : ℕ) → m < a → AllByRecursion (λ y. m < y) (range_with_len a n)
counting_above m a zero h = tt
counting_above m a (suc n) h = (h, counting_above m (a + 1) n (omega arith))

pub counting_rises : (a n : ℕ) → Rises (range_with_len a n)
counting_rises a zero = tt
counting_rises a (suc n) = (counting_above a (a + 1) n (omega arith), counting_rises (a + 1) n)

-- a quotient and a remainder tell the number
pub same_number : (n d e : ℕ) → d / n ≡ e / n → d % n ≡ e % n → d ≡ e
same_number n d e h k = sym (div-add-mod' d n) ∙ ap₂ (λ a b. a * n + b) h k ∙ div-add-mod' e n

-- with n places to a row, a later number stands in a later row, or later in the same row
pub row_order : (n d e : ℕ) → 0 < n → d < e → (d / n < e / n) ⊎ ((d / n ≡ e / n) × (d % n < e % n))
row_order n d e pos h = elim (cases_order (d / n) (e / n)) [
  | inl same ↦ inr (same, omega (arith, div-add-mod' d n, div-add-mod' e n, ap (λ k. k * n) same))
  | inr other ↦ elim other [
    | inl less ↦ inl less
    | inr more ↦ absurd (omega (arith, div-add-mod' d n, div-add-mod' e n, mod_below d n pos, mod_below e n pos, add-mul (e / n) 1 n, mul-le (e / n + 1) n (d / n) n (omega arith) (omega arith)))
  ]
]

module _ {G : Type 0} (o : Opening G) (b : ℕ) where
  -- no two numbers have the same place
  pub place_once : (d e : ℕ) → place_in o b d ≡ place_in o b e → d ≡ e
  place_once d e h = same_number o.tree.count d e (omega (arith, ap (λ (p : Place). p.0) h)) (ap (λ (p : Place). p.1) h)

  pub place_order : 0 < o.tree.count → (d e : ℕ) → d < e → Before (place_in o b d) (place_in o b e)
  place_order pos d e h = elim (row_order o.tree.count d e pos h) [ inl less ↦ inl (omega arith) | inr same ↦ inr (omega (arith, same.0), same.1) ]

  -- membership by numbers and by places
  pub waits_place : (e : ℕ) (l : List ℕ) → Waits e l → In (place_in o b e) (map (place_in o b) l)
  waits_place e [] h = absurd h
  waits_place e (x ∷ l) (inl same) = subst (λ k. In (place_in o b k) (map (place_in o b) (x ∷ l))) same (first (map (place_in o b) l))
  waits_place e (x ∷ l) (inr h) = later (place_in o b x) (map (place_in o b) l) (waits_place e l h)

  pub place_waits : (p : Place) (l : List ℕ) → In p (map (place_in o b) l) → (e : ℕ) × (Waits e l × (p ≡ place_in o b e))
  place_waits p [] h = absurd (in_none h)
  place_waits p (x ∷ l) h = elim (in_cons h) [
    | inl same ↦ (x, (inl refl, same))
    | inr g ↦ let r = place_waits p l g in (r.0, (inr r.1.0, r.1.1))
  ]

  pub place_waits_as : (e : ℕ) (l : List ℕ) → In (place_in o b e) (map (place_in o b) l) → Waits e l
  place_waits_as e l h = let r = place_waits (place_in o b e) l h in subst (λ k. Waits k l) (sym (place_once e r.0 r.1.1)) r.1.0

  -- rising numbers have rising places
  before_all : 0 < o.tree.count → (x : ℕ) (l : List ℕ) → AllByRecursion (λ y. x < y) l → (r : Place) → In r (map (place_in o b) l) → Before (place_in o b x) r
  before_all pos x [] h r i = absurd (in_none i)
  before_all pos x (y ∷ l) h r i = elim (in_cons i) [
    | inl same ↦ subst (λ z. Before (place_in o b x) z) (sym same) (place_order pos x y h.0)
    | inr g ↦ before_all pos x l h.1 r g
  ]

  pub places_rise : 0 < o.tree.count → (l : List ℕ) → Rises l → Rising (map (place_in o b) l)
  places_rise pos [] h = none
  places_rise pos (x ∷ l) h = one_more (place_in o b x) (map (place_in o b) l) (before_all pos x l h.0) (places_rise pos l h.1)

module _ {G : Type 0} (o : Opening G) (a : Admitted o.query) (pos : 0 < o.tree.count) (b : ℕ) (stands : b < length o.query.blocks) where
  pub entry_of_number : (e : ℕ) → e < blocks_terms o.query b * o.tree.count → EntryOf o b (place_in o b e).0 (place_in o b e).1
  entry_of_number e h =
      let row : e / o.tree.count < blocks_terms o.query b = div_below e o.tree.count (blocks_terms o.query b) pos h in
      record {
        term = omega (arith, span_inside a b stands, row);
        dealt_here = in_span a b _ stands (omega arith) (omega (arith, row));
        node = mod_below e o.tree.count pos;
      }

  pub number_of_entry : (i x : ℕ) → EntryOf o b i x → (((i - first_of o.query b) * o.tree.count + x < blocks_terms o.query b * o.tree.count) × ((i, x) ≡ place_in o b ((i - first_of o.query b) * o.tree.count + x)))
  number_of_entry i x h =
      let d : Dealt o.query.blocks i b = span_has a b i h.term h.dealt_here in
      let n = o.tree.count in
      let f = first_of o.query b in
      let node : x < n = h.node in
      let row : i - f < blocks_terms o.query b = omega (arith, d.low, d.high) in
      let term : i ≡ f + ((i - f) * n + x) / n = omega (arith, div-mul-add (i - f) n x node, d.low) in
      (omega (arith, add-mul (i - f) 1 n, mul-le (i - f + 1) n (blocks_terms o.query b) n (omega arith) (omega arith)), ap₂ (λ i x. (i, x)) term (sym (mod-mul-add (i - f) n x node)))

  -- all entries of the block, in rising order
  pub entries_listed : Lists (λ p. EntryOf o b p.0 p.1) (map (place_in o b) (range_with_len 0 (blocks_terms o.query b * o.tree.count)))
  entries_listed = record {
    sound = λ p i.
        let r = place_waits o b p (range_with_len 0 (blocks_terms o.query b * o.tree.count)) i in
        let below = (in_counting r.0 0 (blocks_terms o.query b * o.tree.count) r.1.0).1 in
        subst (λ z. EntryOf o b z.0 z.1) (sym r.1.1) (entry_of_number r.0 (omega (arith, below)));
    whole = λ p h.
        let r = number_of_entry p.0 p.1 h in
        subst (λ z. In z (map (place_in o b) (range_with_len 0 (blocks_terms o.query b * o.tree.count)))) (sym r.1)
        (waits_place o b _ (range_with_len 0 (blocks_terms o.query b * o.tree.count)) (counting_in _ 0 (blocks_terms o.query b * o.tree.count) (omega arith) (omega (arith, r.0))));
    rising = places_rise o b pos (range_with_len 0 (blocks_terms o.query b * o.tree.count)) (counting_rises 0 (blocks_terms o.query b * o.tree.count));
  }
