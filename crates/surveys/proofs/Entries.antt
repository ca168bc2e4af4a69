-- The entries of a block, and those that a change queues, can be listed.
use Rattle.std.proofs.Common.{◌≡◌, ℕ, zero, suc, ◌+◌, ◌-◌, ◌<◌, ◌≤◌, ltb, ◌⊎◌, List, [], ◌∷◌, length, get_or, Some, refl, ap, ◌∙◌, subst, inl, inr, arith}
use native.Mathlib.Decide.{ℕ_discrete, dec_lt}
use Rattle.std.proofs.lemmas.Bool.{cond-true, cond-false, lt-ltb, le-ltb}
use Rattle.shapes.specs.Tree.{Tree, along}
use Rattle.queries.specs.declared.block.Block.{Block}
use Rattle.queries.specs.declared.term.Term.{Term}
use Rattle.queries.specs.declared.term.Term.TheVariants.{Mark, Turn, Meet, Join, SomeNeighbour, EveryNeighbour, Lowest, Highest}
use Rattle.queries.specs.Table.{term_at, block_of, dealt, total, no_block}
use Rattle.meaning.specs.Readings.{Reading}
use Rattle.meaning.specs.Readings.Reading.{turned, met_left, met_right, joined_left, joined_right, some_there, every_there}
use Rattle.surveys.specs.Places.{Place, In, Lists}
use Rattle.surveys.specs.Rules.{Opening, EntryOf, Queued}
use Rattle.surveys.proofs.Decisions.{both, either, iff, not?, option?, place?}
use Rattle.surveys.proofs.Listed.{listed}
use Rattle.surveys.proofs.Membership.{in_none, in_cons}
use Rattle.surveys.proofs.Readings.{Accepted}

-- what a term reads at a node, by its kind
abbrev ReadingAs : Tree → Term → ℕ → ℕ → ℕ → Type 0
ReadingAs t (Mark a) x j y = ⊥
ReadingAs t (Turn a) x j y = (a ≡ j) × (x ≡ y)
ReadingAs t (Meet a b) x j y = ((a ≡ j) ⊎ (b ≡ j)) × (x ≡ y)
ReadingAs t (Join a b) x j y = ((a ≡ j) ⊎ (b ≡ j)) × (x ≡ y)
ReadingAs t (SomeNeighbour axis a) x j y = (a ≡ j) × (along t axis x ≡ Some y)
ReadingAs t (EveryNeighbour axis a) x j y = (a ≡ j) × (along t axis x ≡ Some y)
ReadingAs t Lowest x j y = ⊥
ReadingAs t Highest x j y = ⊥

reading_as : {t : Tree} {m : Term} {x j y : ℕ} → Reading t m x j y → ReadingAs t m x j y
reading_as (turned a x) = (refl, refl)
reading_as (met_left a b x) = (inl refl, refl)
reading_as (met_right a b x) = (inr refl, refl)
reading_as (joined_left a b x) = (inl refl, refl)
reading_as (joined_right a b x) = (inr refl, refl)
reading_as (some_there axis a x y e) = (refl, e)
reading_as (every_there axis a x y e) = (refl, e)

as_reading : (t : Tree) (m : Term) (x j y : ℕ) → ReadingAs t m x j y → Reading t m x j y
as_reading t (Mark a) x j y h = elim h [ ]
as_reading t (Turn a) x j y h = rw (← h.0, ← h.1) (turned a x)
as_reading t (Meet a b) x j y h = elim h.0 [ inl e ↦ rw (← e, ← h.1) (met_left a b x) | inr e ↦ rw (← e, ← h.1) (met_right a b x) ]
as_reading t (Join a b) x j y h = elim h.0 [ inl e ↦ rw (← e, ← h.1) (joined_left a b x) | inr e ↦ rw (← e, ← h.1) (joined_right a b x) ]
as_reading t (SomeNeighbour axis a) x j y h = rw (← h.0) (some_there axis a x y h.1)
as_reading t (EveryNeighbour axis a) x j y h = rw (← h.0) (every_there axis a x y h.1)
as_reading t Lowest x j y h = elim h [ ]
as_reading t Highest x j y h = elim h [ ]

reading_as? : (t : Tree) (m : Term) (x j y : ℕ) → Dec (ReadingAs t m x j y)
reading_as? t (Mark a) x j y = no (λ h. h)
reading_as? t (Turn a) x j y = place? a x j y
reading_as? t (Meet a b) x j y = both (either (ℕ_discrete a j) (ℕ_discrete b j)) (λ _. ℕ_discrete x y)
reading_as? t (Join a b) x j y = both (either (ℕ_discrete a j) (ℕ_discrete b j)) (λ _. ℕ_discrete x y)
reading_as? t (SomeNeighbour axis a) x j y = both (ℕ_discrete a j) (λ _. option? (along t axis x) y)
reading_as? t (EveryNeighbour axis a) x j y = both (ℕ_discrete a j) (λ _. option? (along t axis x) y)
reading_as? t Lowest x j y = no (λ h. h)
reading_as? t Highest x j y = no (λ h. h)

reading? : (t : Tree) (m : Term) (x j y : ℕ) → Dec (Reading t m x j y)
reading? t m x j y = iff (as_reading t m x j y) reading_as (reading_as? t m x j y)

waits? : (p : Place) (ps : List Place) → Dec (In p ps)
waits? p [] = no in_none
waits? p (r ∷ ps) = elim (place? p.0 p.1 r.0 r.1) [
  | yes e ↦ yes (subst (λ z. In p (z ∷ ps)) (λ k. (e.0 k, e.1 k)) (In.first ps))
  | no n ↦ elim (waits? p ps) [ yes h ↦ yes (In.later r ps h) | no m ↦ no (λ h. elim (in_cons h) [ inl e ↦ n (ap (λ z. z.0) e, ap (λ z. z.1) e) | inr g ↦ m g ]) ]
]

-- every block that is not empty has a term
first_term : (bs : List Block) (b : ℕ) → b < length bs → 1 ≤ (get_or bs b no_block).terms → (i : ℕ) × ((i < total bs) × (dealt bs i ≡ b))
first_term [] b h l = absurd (omega arith)
first_term (c ∷ bs) zero h l = (0, (omega arith, cond-true (ltb 0 c.terms) 0 (suc (dealt bs (0 - c.terms))) (lt-ltb 0 c.terms l)))
first_term (c ∷ bs) (suc b) h l =
    let r = first_term bs b (omega arith) l in
    let below = r.1.0 in
    let back : (c.terms + r.0) - c.terms ≡ r.0 = omega arith in
    (c.terms + r.0, (omega arith, cond-false (ltb (c.terms + r.0) c.terms) 0 (suc (dealt bs ((c.terms + r.0) - c.terms))) (le-ltb (c.terms + r.0) c.terms (omega arith)) ∙ ap (λ z. suc (dealt bs z)) back ∙ ap suc r.1.1))

module _ {G : Type 0} (o : Opening G) where
  entry? : (b i x : ℕ) → Dec (EntryOf o b i x)
  entry? b i x = iff (λ h. record { term = h.0; dealt_here = h.1.0; node = h.1.1 }) (λ e. (e.term, (e.dealt_here, e.node))) (both (dec_lt i (length o.query.terms)) (λ _. both (ℕ_discrete (block_of o.query i) b) (λ _. dec_lt x o.tree.count)))

  queued? : (b j y : ℕ) (waiting : List Place) (p : Place) → Dec (Queued o b j y waiting p)
  queued? b j y waiting p =
      iff (λ h. record { entry = h.0; reads = h.1.0; waits_not = h.1.1 }) (λ w. (w.entry, (w.reads, w.waits_not)))
      (both (entry? b p.0 p.1) (λ _. both (reading? o.tree (term_at o.query p.0) p.1 j y) (λ _. not? (waits? p waiting))))

  pub entries : (b : ℕ) → (ps : List Place) × Lists (λ p. EntryOf o b p.0 p.1) ps
  entries b = listed (λ p. EntryOf o b p.0 p.1) (λ p. entry? b p.0 p.1) (length o.query.terms) o.tree.count (λ p e. (e.term, e.node))

  pub queued : (b j y : ℕ) (waiting : List Place) → (ps : List Place) × Lists (Queued o b j y waiting) ps
  queued b j y waiting = listed (Queued o b j y waiting) (queued? b j y waiting) (length o.query.terms) o.tree.count (λ p w. (w.entry.term, w.entry.node))

  -- every block has an entry
  pub some_entry : Accepted o → (b : ℕ) → b < length o.query.blocks → (entries b).0 ≡ [] → ⊥
  some_entry f b stands e =
      let r = first_term o.query.blocks b stands (f.admitted.sized.no_empty_block b stands) in
      let entry : EntryOf o b r.0 0 = record { term = omega (arith, r.1.0, f.admitted.sized.all_dealt); dealt_here = r.1.1; node = f.tree.countable.0 } in
      in_none (rw e at ((entries b).1.whole (r.0, 0) entry))
