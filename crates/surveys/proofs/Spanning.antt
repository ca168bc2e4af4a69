-- The terms of a block of an admitted query.
use Rattle.std.proofs.Common.{◌≡◌, ℕ, ◌+◌, ◌-◌, ◌*◌, ◌/◌, ◌<◌, ◌≤◌, length, ap, subst, ap₂, inl, inr, mul-zero, arith}
use Rattle.std.proofs.lemmas.Nat.{div_below, mul-le}
use Rattle.std.proofs.lemmas.List.{get_or_past}
use Rattle.std.proofs.lemmas.Bool.{cases_eq, cases_lt}
use Rattle.queries.specs.declared.block.Block.{Block}
use Rattle.queries.specs.declared.block.Span.{Span}
use Rattle.queries.specs.Queries.{Spans}
use Rattle.queries.specs.Table.{Table, Admitted, block_of, blocks_terms, no_block}
use Rattle.queries.specs.Workings.{span_of}
use Rattle.queries.proofs.Deals.{before_more, before_le, in_block, Dealt, dealt_in}
use Rattle.surveys.specs.Stepping.{first_of, term_of}

-- past the blocks there are no terms
pub no_terms : (q : Table) (b : ℕ) → length q.blocks ≤ b → blocks_terms q b ≡ 0
no_terms q b h = ap (λ (k : Block). k.terms) (get_or_past q.blocks b no_block h)

-- a number below a block's size, by the terms before a row of n
pub row_of : (n m e : ℕ) → e < m * n → (0 < n) × (e / n < m)
row_of n m e h =
    let pos : 0 < n = elim (cases_eq n 0) [ inl z ↦ absurd (omega (arith, ap (λ k. m * k) z, mul-zero m)) | inr some ↦ omega arith ] in
    (pos, div_below e n m pos h)

module _ {q : Table} (a : Admitted q) where
  -- a block with a term stands
  pub block_has : (b : ℕ) → 0 < blocks_terms q b → b < length q.blocks
  block_has b h = elim (cases_lt b (length q.blocks)) [ inl stands ↦ stands | inr past ↦ absurd (omega (arith, no_terms q b past)) ]

  -- the terms of a block stand among the others
  pub span_inside : (b : ℕ) → b < length q.blocks → first_of q b + blocks_terms q b ≤ length q.terms
  span_inside b h = omega (arith, before_more q.blocks b h, before_le q.blocks (b + 1), a.sized.all_dealt)

  pub in_span : (b i : ℕ) → b < length q.blocks → first_of q b ≤ i → i < first_of q b + blocks_terms q b → block_of q i ≡ b
  in_span b i h low high = in_block q.blocks b i h low high

  pub span_has : (b i : ℕ) → i < length q.terms → block_of q i ≡ b → Dealt q.blocks i b
  span_has b i h e = subst (Dealt q.blocks i) e (dealt_in q.blocks i (omega (arith, a.sized.all_dealt)))

  -- a span with just the terms of a block is the block's
  pub span_is : (b : ℕ) (s : Span) → Spans q b s → s ≡ span_of q b
  span_is b s h =
      let some : 1 ≤ blocks_terms q b = a.sized.no_empty_block b h.stands in
      let room : first_of q b + blocks_terms q b ≤ length q.terms = span_inside b h.stands in
      let low = h.all (first_of q b) (omega arith) (in_span b (first_of q b) h.stands (omega arith) (omega arith)) in
      let last = first_of q b + blocks_terms q b - 1 in
      let high = h.all last (omega arith) (in_span b last h.stands (omega arith) (omega arith)) in
      let first = h.inside s.first (omega arith) (omega arith) in
      let end = h.inside (s.end - 1) (omega arith) (omega arith) in
      let begins = span_has b s.first first.0 first.1 in
      let ends = span_has b (s.end - 1) end.0 end.1 in
      let f : s.first ≡ (span_of q b).first = omega arith in
      let e : s.end ≡ (span_of q b).end = omega arith in
      ap₂ (λ f e. record { first = f; end = e }) f e

  pub spans_first : (b : ℕ) (s : Span) → Spans q b s → s.first ≡ first_of q b
  spans_first b s h = ap (λ (s : Span). s.first) (span_is b s h)

  pub spans_terms : (b : ℕ) (s : Span) → Spans q b s → (s.first ≤ s.end) × (s.end - s.first ≡ blocks_terms q b)
  spans_terms b s h = let e = ap (λ (s : Span). s.end) (span_is b s h) in let f = spans_first b s h in (omega arith, omega arith)

  -- a block has few entries
  pub few_terms : (b : ℕ) → blocks_terms q b ≤ 64
  few_terms b = elim (cases_lt b (length q.blocks)) [ inl stands ↦ omega (arith, span_inside b stands, a.sized.few_terms) | inr past ↦ omega (arith, no_terms q b past) ]

  pub few_entries : (b n : ℕ) → n ≤ 2048 → blocks_terms q b * n ≤ 131072
  few_entries b n h = mul-le (blocks_terms q b) n 64 2048 (few_terms b) h

  -- the entry e of a block is at a term
  pub term_stands : (b n e : ℕ) → e < blocks_terms q b * n → term_of q n b e < length q.terms
  term_stands b n e h =
      let row : e / n < blocks_terms q b = (row_of n (blocks_terms q b) e h).1 in
      omega (arith, span_inside b (block_has b (omega arith)))
