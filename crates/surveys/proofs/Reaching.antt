-- Whether a tag reaches a block is decided: a reached block has a term with the tag, or one that reads a reached block before it.
use Rattle.std.proofs.Common.{◌≡◌, ℕ, zero, suc, ◌<◌, ◌⊎◌, length, refl, ap, subst, inl, inr, arith}
use native.Mathlib.Decide.{ℕ_discrete, dec_lt}
use Rattle.shapes.specs.declared.axis.Axis.{Axis}
use Rattle.queries.specs.declared.term.Term.{Term}
use Rattle.queries.specs.declared.term.Term.TheVariants.{Mark, Turn, Meet, Join, SomeNeighbour, EveryNeighbour, Lowest, Highest}
use Rattle.queries.specs.Table.{Table, Admitted, Reads, Reaches, by_turn, by_meet_left, by_meet_right, by_join_left, by_join_right, by_some, by_every, term_at, block_of}
use Rattle.surveys.proofs.Decisions.{both, either, iff}

-- some number below n
pub some_below : (P : ℕ → Type 0) → ((i : ℕ) → Dec (P i)) → (n : ℕ) → Dec ((i : ℕ) × ((i < n) × P i))
some_below P d zero = no (λ h. let l = h.1.0 in omega arith)
some_below P d (suc n) = elim (d n) [
  | yes p ↦ yes (n, (omega arith, p))
  | no here ↦ elim (some_below P d n) [
    | yes h ↦ yes (h.0, (let l = h.1.0 in omega arith, h.1.1))
    | no below ↦ no (λ h. elim (ℕ_discrete h.0 n) [ yes e ↦ here (rw e at h.1.1) | no other ↦ below (h.0, (let l = h.1.0 in omega arith, h.1.1)) ])
  ]
]

-- what each term reads
turn_reads : {a j : ℕ} → Reads (Turn a) j → j ≡ a
turn_reads (by_turn a) = refl

meet_reads : {a b j : ℕ} → Reads (Meet a b) j → (j ≡ a) ⊎ (j ≡ b)
meet_reads (by_meet_left a b) = inl refl
meet_reads (by_meet_right a b) = inr refl

join_reads : {a b j : ℕ} → Reads (Join a b) j → (j ≡ a) ⊎ (j ≡ b)
join_reads (by_join_left a b) = inl refl
join_reads (by_join_right a b) = inr refl

some_reads : {x : Axis} {a j : ℕ} → Reads (SomeNeighbour x a) j → j ≡ a
some_reads (by_some x a) = refl

every_reads : {x : Axis} {a j : ℕ} → Reads (EveryNeighbour x a) j → j ≡ a
every_reads (by_every x a) = refl

-- some term that a term reads
abbrev SomeRead : (ℕ → Type 0) → Term → Type 0
SomeRead P m = (j : ℕ) × (Reads m j × P j)

module _ (P : ℕ → Type 0) (d : (j : ℕ) → Dec (P j)) where
  one_operand : (m : Term) (a : ℕ) → Reads m a → ((j : ℕ) → Reads m j → j ≡ a) → Dec (SomeRead P m)
  one_operand m a reads only = iff (λ p. (a, (reads, p))) (λ h. subst P (only h.0 h.1.0) h.1.1) (d a)

  two_operands : (m : Term) (a b : ℕ) → Reads m a → Reads m b → ((j : ℕ) → Reads m j → (j ≡ a) ⊎ (j ≡ b)) → Dec (SomeRead P m)
  two_operands m a b left right only =
      iff (λ h. elim h [ inl p ↦ (a, (left, p)) | inr p ↦ (b, (right, p)) ])
      (λ h. elim (only h.0 h.1.0) [ inl e ↦ inl (subst P e h.1.1) | inr e ↦ inr (subst P e h.1.1) ])
      (either (d a) (d b))

  some_read? : (m : Term) → Dec (SomeRead P m)
  some_read? (Mark a) = no (λ h. elim h.1.0 [ ])
  some_read? (Turn a) = one_operand (Turn a) a (by_turn a) (λ j. turn_reads)
  some_read? (Meet a b) = two_operands (Meet a b) a b (by_meet_left a b) (by_meet_right a b) (λ j. meet_reads)
  some_read? (Join a b) = two_operands (Join a b) a b (by_join_left a b) (by_join_right a b) (λ j. join_reads)
  some_read? (SomeNeighbour x a) = one_operand (SomeNeighbour x a) a (by_some x a) (λ j. some_reads)
  some_read? (EveryNeighbour x a) = one_operand (EveryNeighbour x a) a (by_every x a) (λ j. every_reads)
  some_read? Lowest = no (λ h. elim h.1.0 [ ])
  some_read? Highest = no (λ h. elim h.1.0 [ ])

mark? : (m : Term) (a : ℕ) → Dec (m ≡ Mark a)
mark? (Mark b) a = iff (ap Mark) (λ h. cc) (ℕ_discrete b a)
mark? (Turn b) a = no (λ h. cc)
mark? (Meet b c) a = no (λ h. cc)
mark? (Join b c) a = no (λ h. cc)
mark? (SomeNeighbour x b) a = no (λ h. cc)
mark? (EveryNeighbour x b) a = no (λ h. cc)
mark? Lowest a = no (λ h. cc)
mark? Highest a = no (λ h. cc)

module _ (q : Table) (admitted : Admitted q) (tag : ℕ) where
  -- term j stands in a reached block before block b
  abbrev ReachedBefore : ℕ → ℕ → Type 0
  ReachedBefore b j = (block_of q j < b) × Reaches q tag (block_of q j)

  -- term i is why block b is reached
  abbrev Cause : ℕ → ℕ → Type 0
  Cause b i = (block_of q i ≡ b) × ((term_at q i ≡ Mark tag) ⊎ SomeRead (ReachedBefore b) (term_at q i))

  reached_caused : {b : ℕ} → Reaches q tag b → (i : ℕ) × ((i < length q.terms) × Cause b i)
  reached_caused (Reaches.by_mark i h is) = (i, (h, (refl, inl is)))
  reached_caused (Reaches.by_reading i j h reads r) = elim (ℕ_discrete (block_of q j) (block_of q i)) [
    | yes same ↦ rw same at (reached_caused r)
    | no other ↦ (i, (h, (refl, inr (j, (reads, (omega (arith, admitted.no_later_block i h j reads), r))))))
  ]

  caused_reached : {b : ℕ} → (i : ℕ) × ((i < length q.terms) × Cause b i) → Reaches q tag b
  caused_reached c = subst (Reaches q tag) c.1.1.0 (elim c.1.1.1 [
    | inl is ↦ Reaches.by_mark c.0 c.1.0 is
    | inr read ↦ Reaches.by_reading c.0 read.0 c.1.0 read.1.0 read.1.1.1
  ])

  cause? : (b : ℕ) → ((c : ℕ) → c < b → Dec (Reaches q tag c)) → (i : ℕ) → Dec (Cause b i)
  cause? b earlier i = both (ℕ_discrete (block_of q i) b) (λ e. either (mark? (term_at q i) tag) (some_read? (ReachedBefore b) (λ j. both (dec_lt (block_of q j) b) (earlier (block_of q j))) (term_at q i)))

  reaches_below? : (n b : ℕ) → b < n → Dec (Reaches q tag b)
  reaches_below? zero b below = absurd (omega arith)
  reaches_below? (suc n) b below = iff caused_reached reached_caused (some_below (Cause b) (cause? b (λ c l. reaches_below? n c (omega arith))) (length q.terms))

  pub reaches? : (b : ℕ) → Dec (Reaches q tag b)
  reaches? b = reaches_below? (suc b) b (omega arith)
