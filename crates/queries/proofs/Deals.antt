-- Terms dealt into blocks in order.
use Rattle.std.proofs.Common.{◌≡◌, ℕ, zero, suc, ◌+◌, ◌-◌, ◌<◌, ◌≤◌, List, [], ◌∷◌, map, length, get_or, take, fold, min, refl, ap, ◌∙◌, inl, inr, add-one, arith}
use Rattle.std.proofs.lemmas.List.{length-map, get_or-map, take_all}
use Rattle.std.proofs.lemmas.Bool.{cases_lt, lt-ltb, le-ltb}
use Rattle.queries.specs.declared.block.Block.{Block}
use Rattle.queries.specs.declared.rows.BlockRow.{BlockRow}
use Rattle.queries.specs.Rows.{block_in, no_row}
use Rattle.queries.specs.Table.{dealt, total, no_block}

dealt_here : (b : Block) (bs : List Block) (i : ℕ) → i < b.terms → dealt (b ∷ bs) i ≡ 0
dealt_here b bs i h = rw (lt-ltb i b.terms h)

dealt_later : (b : Block) (bs : List Block) (i : ℕ) → b.terms ≤ i → dealt (b ∷ bs) i ≡ suc (dealt bs (i - b.terms))
dealt_later b bs i h = rw (le-ltb i b.terms h)

-- the terms of the blocks before block k
abbrev pub before : List Block → ℕ → ℕ
before bs k = total (take k bs)

pub before_more : (bs : List Block) (k : ℕ) → k < length bs → before bs (k + 1) ≡ before bs k + (get_or bs k no_block).terms
before_more [] k h = absurd (omega arith)
before_more (b ∷ bs) zero h = omega arith
before_more (b ∷ bs) (suc k) h = ap (before (b ∷ bs)) (add-one (suc k)) ∙ omega (arith, before_more bs k (omega arith), ap (before bs) (add-one k))

-- a term is dealt into the block whose span it is in
pub in_block : (bs : List Block) (k i : ℕ) → k < length bs → before bs k ≤ i → i < before bs k + (get_or bs k no_block).terms → dealt bs i ≡ k
in_block [] k i h low high = absurd (omega arith)
in_block (b ∷ bs) zero i h low high = dealt_here b bs i (omega arith)
in_block (b ∷ bs) (suc k) i h low high = dealt_later b bs i (omega arith) ∙ ap suc (in_block bs k (i - b.terms) (omega arith) (omega arith) (omega arith))

-- and only there
pub record Dealt (bs : List Block) (i k : ℕ) : Type 0 where
  pub stands : k < length bs
  pub low : before bs k ≤ i
  pub high : i < before bs k + (get_or bs k no_block).terms

pub dealt_in : (bs : List Block) (i : ℕ) → i < total bs → Dealt bs i (dealt bs i)
dealt_in [] i h = absurd (omega arith)
dealt_in (b ∷ bs) i h = elim (cases_lt i b.terms) [ inl l ↦ here l | inr l ↦ later l (dealt_in bs (i - b.terms) (omega arith)) ]
  where
    here : i < b.terms → Dealt (b ∷ bs) i (dealt (b ∷ bs) i)
    here l = rw (dealt_here b bs i l) (record { stands = omega arith; low = omega arith; high = omega arith })

    later : b.terms ≤ i → Dealt bs (i - b.terms) (dealt bs (i - b.terms)) → Dealt (b ∷ bs) i (dealt (b ∷ bs) i)
    later l d = rw (dealt_later b bs i l) (record { stands = omega arith; low = omega arith; high = omega arith })

-- past all blocks there is none
pub dealt_past : (bs : List Block) (i : ℕ) → total bs ≤ i → dealt bs i ≡ length bs
dealt_past [] i h = refl
dealt_past (b ∷ bs) i h = dealt_later b bs i (omega arith) ∙ ap suc (dealt_past bs (i - b.terms) (omega arith))

-- blocks rise with terms
pub dealt_rises : (bs : List Block) (i j : ℕ) → i ≤ j → dealt bs i ≤ dealt bs j
dealt_rises [] i j h = omega arith
dealt_rises (b ∷ bs) i j h = elim (cases_lt i b.terms) [ inl l ↦ here l | inr l ↦ later l (dealt_rises bs (i - b.terms) (j - b.terms) (omega arith)) ]
  where
    here : i < b.terms → dealt (b ∷ bs) i ≤ dealt (b ∷ bs) j
    here l = rw (dealt_here b bs i l) (omega arith)

    later : b.terms ≤ i → dealt bs (i - b.terms) ≤ dealt bs (j - b.terms) → dealt (b ∷ bs) i ≤ dealt (b ∷ bs) j
    later l d = rw (dealt_later b bs i l, dealt_later b bs j (omega arith)) (omega arith)

-- the blocks before are some of all
pub before_le : (bs : List Block) (k : ℕ) → before bs k ≤ total bs
before_le [] zero = omega arith
before_le [] (suc k) = omega arith
before_le (b ∷ bs) zero = omega arith
before_le (b ∷ bs) (suc k) = omega (arith, before_le bs k)

-- a term is dealt before block k just where it stands before that block's terms
pub dealt_before : (bs : List Block) (k i : ℕ) → k ≤ length bs → i < before bs k → dealt bs i < k
dealt_before [] k i h low = absurd (omega (arith, before_le [] k))
dealt_before (b ∷ bs) zero i h low = absurd (omega arith)
dealt_before (b ∷ bs) (suc k) i h low = elim (cases_lt i b.terms) [ inl l ↦ here l | inr l ↦ later l (dealt_before bs k (i - b.terms) (omega arith) (omega arith)) ]
  where
    here : i < b.terms → dealt (b ∷ bs) i < suc k
    here l = rw (dealt_here b bs i l) (omega arith)

    later : b.terms ≤ i → dealt bs (i - b.terms) < k → dealt (b ∷ bs) i < suc k
    later l d = rw (dealt_later b bs i l) (omega arith)

pub dealt_from : (bs : List Block) (k i : ℕ) → k ≤ length bs → before bs k ≤ i → k ≤ dealt bs i
dealt_from bs zero i h low = omega arith
dealt_from [] (suc k) i h low = absurd (omega arith)
dealt_from (b ∷ bs) (suc k) i h low = rw (dealt_later b bs i (omega arith)) (omega (arith, dealt_from bs k (i - b.terms) (omega arith) (omega arith)))

-- the next term, where no block is empty and the terms before are dealt up to block k
module _ (bs : List Block) (full : (b : ℕ) → b < length bs → 1 ≤ (get_or bs b no_block).terms) (k i : ℕ) (low : before bs k ≤ i) (high : i ≤ before bs (k + 1)) (there : i < total bs) where
  starts : (b : ℕ) → before bs b ≤ i → b < length bs
  starts b h = elim (cases_lt b (length bs)) [ inl l ↦ l | inr l ↦ absurd (omega (arith, ap total (take_all b bs l))) ]

  pub this_stands : k < length bs
  this_stands = starts k low

  pub of_next : i ≡ before bs (k + 1) → Dealt bs i (k + 1)
  of_next e =
      let next : k + 1 < length bs = starts (k + 1) (omega arith) in
      record { stands = next; low = omega arith; high = omega (arith, full (k + 1) next) }

  pub of_this : (i ≡ before bs (k + 1) → ⊥) → Dealt bs i k
  of_this other = record { stands = this_stands; low = low; high = omega (arith, before_more bs k this_stands) }

-- the block of a term that is dealt
pub dealt_is : (bs : List Block) (i k : ℕ) → Dealt bs i k → dealt bs i ≡ k
dealt_is bs i k d = in_block bs k i d.stands d.low d.high

-- blocks as rows tell them
module _ (rs : List BlockRow) where
  pub told_more : (k : ℕ) → k < length rs → before (map block_in rs) (k + 1) ≡ before (map block_in rs) k + (get_or rs k no_row).terms
  told_more k h = before_more (map block_in rs) k (rw length-map h) ∙ ap (λ b. before (map block_in rs) k + b.terms) (get_or-map block_in rs k no_row no_block h)

  pub told_all : (k : ℕ) → length rs ≤ k → before (map block_in rs) k ≡ total (map block_in rs)
  told_all k h = ap total (take_all k (map block_in rs) (rw length-map h))

-- the terms of all blocks that rows tell, added up by a sum that stays at the greatest number
pub summed : (rs : List BlockRow) (most n : ℕ) → n ≤ most → fold (λ (k : ℕ) (row : BlockRow). min (k + row.terms) most) n rs ≡ min (n + total (map block_in rs)) most
summed [] most n h = omega arith
summed (x ∷ xs) most n h = omega (arith, summed xs most (min (n + x.terms) most) (omega arith))
