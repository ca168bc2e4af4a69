-- The pass over the terms finds the blocks that a tag reaches.
use Rattle.std.proofs.Common.{◌≡◌, ℕ, zero, suc, ◌<◌, ◌≤◌, Bool, true, false, cond, ◌&&◌, ◌||◌, eqb, ltb, ◌⊎◌, List, length, Some, None, Decides, unwrap_or, sym, refl, ap, ◌∙◌, subst, inl, inr, arith}
use Rattle.std.proofs.lemmas.Bool.{cases_lt, lt-ltb, le-ltb, eqb-true, eq-eqb, and_parts, and_from, or_cases, or_left, or_right, false≢true}
use Rattle.queries.specs.declared.term.Term.{Term}
use Rattle.queries.specs.declared.term.Term.TheVariants.{Mark, Turn, Meet, Join, SomeNeighbour, EveryNeighbour, Lowest, Highest}
use Rattle.queries.specs.Table.{Table, term_at, block_of, Admitted, Reads, by_turn, by_meet_left, by_meet_right, by_join_left, by_join_right, by_some, by_every, Says, Reaches, by_mark, by_reading}
use Rattle.queries.specs.declared.workings.DealtTerm.{DealtTerm}
use Rattle.queries.specs.Workings.{nth_term, touched, reached_before}
use Rattle.queries.proofs.Deals.{dealt_rises}
use Rattle.queries.proofs.Kept.{DealtAs, in_some_block}

-- a test that is decided says so
says : {P : Type 0} (r : Bool) → Decides r P → Says r P
says true d = ((λ t. d.0 refl), λ p. tt)
says false d = ((λ no_way. absurd no_way), λ p. false≢true (d.1 p))

-- what touches: the mark of the tag, or a reading of a reached block
module _ (ds : List DealtTerm) (tag : ℕ) (reached : ℕ → Bool) where
  by_either : (t : Term) (a b : ℕ) → Reads t a → Reads t b → (reached (nth_term ds a).block || reached (nth_term ds b).block) ≡ true → (t ≡ Mark tag) ⊎ ((j : ℕ) × Reads t j × (reached (nth_term ds j).block ≡ true))
  by_either t a b p q e = elim (or_cases (reached (nth_term ds a).block) (reached (nth_term ds b).block) e) [ inl l ↦ inr (a, p, l) | inr r ↦ inr (b, q, r) ]

  pub touches_by : (t : Term) → touched ds tag reached t ≡ true → (t ≡ Mark tag) ⊎ ((j : ℕ) × Reads t j × (reached (nth_term ds j).block ≡ true))
  touches_by (Mark a) e = inl (ap Mark (eqb-true a tag e))
  touches_by (Turn a) e = by_either (Turn a) a a (by_turn a) (by_turn a) e
  touches_by (Meet a b) e = by_either (Meet a b) a b (by_meet_left a b) (by_meet_right a b) e
  touches_by (Join a b) e = by_either (Join a b) a b (by_join_left a b) (by_join_right a b) e
  touches_by (SomeNeighbour x a) e = by_either (SomeNeighbour x a) a a (by_some x a) (by_some x a) e
  touches_by (EveryNeighbour x a) e = by_either (EveryNeighbour x a) a a (by_every x a) (by_every x a) e
  touches_by Lowest e = absurd (false≢true e)
  touches_by Highest e = absurd (false≢true e)

  pub mark_touches : touched ds tag reached (Mark tag) ≡ true
  mark_touches = eq-eqb tag tag refl

  pub reading_touches : {t : Term} {j : ℕ} → Reads t j → reached (nth_term ds j).block ≡ true → touched ds tag reached t ≡ true
  reading_touches (by_turn a) h = or_left (reached (nth_term ds a).block) _ h
  reading_touches (by_meet_left a b) h = or_left (reached (nth_term ds a).block) _ h
  reading_touches (by_meet_right a b) h = or_right (reached (nth_term ds a).block) _ h
  reading_touches (by_join_left a b) h = or_left (reached (nth_term ds a).block) _ h
  reading_touches (by_join_right a b) h = or_right (reached (nth_term ds a).block) _ h
  reading_touches (by_some x a) h = or_left (reached (nth_term ds a).block) _ h
  reading_touches (by_every x a) h = or_left (reached (nth_term ds a).block) _ h

module _ (q : Table) (admitted : Admitted q) (ds : List DealtTerm) (dealt_as : DealtAs q ds) (tag : ℕ) where
  -- what is found is reached
  found : (k b : ℕ) → k ≤ length q.terms → reached_before ds tag k b ≡ true → Reaches q tag b
  found zero b l e = absurd (false≢true e)
  found (suc k) b l e = step (found k) (or_cases (reached_before ds tag k b) _ e)
    where
      step : ((c : ℕ) → k ≤ length q.terms → reached_before ds tag k c ≡ true → Reaches q tag c) → (reached_before ds tag k b ≡ true) ⊎ ((eqb (nth_term ds k).block b && touched ds tag (reached_before ds tag k) (nth_term ds k).term) ≡ true) → Reaches q tag b
      step before (inl h) = before b (omega arith) h
      step before (inr h) =
          let both = and_parts (eqb (nth_term ds k).block b) _ h in
          let at_b : block_of q k ≡ b = sym (dealt_as.blocks k l) ∙ eqb-true (nth_term ds k).block b both.0 in
          subst (Reaches q tag) at_b (elim (touches_by ds tag (reached_before ds tag k) (nth_term ds k).term both.1) [
            | inl m ↦ by_mark k l (sym (dealt_as.terms k) ∙ m)
            | inr p ↦
                (let reads = subst (λ t. Reads t p.0) (dealt_as.terms k) p.1 in
                by_reading k p.0 l reads (subst (Reaches q tag) (dealt_as.blocks p.0 (admitted.operands_stand k l p.0 reads)) (before (nth_term ds p.0).block (omega arith) p.2)))
          ])

  -- what is found stays found
  stays : (k m b : ℕ) → k ≤ m → reached_before ds tag k b ≡ true → reached_before ds tag m b ≡ true
  stays k zero b l e = subst (λ n. reached_before ds tag n b ≡ true) (zero_only k l) e
    where
      zero_only : (n : ℕ) → n ≤ 0 → n ≡ 0
      zero_only n h = omega arith
  stays k (suc m) b l e = elim (cases_lt k (suc m)) [ inl h ↦ or_left (reached_before ds tag m b) _ (stays k m b (omega arith) e) | inr h ↦ subst (λ n. reached_before ds tag n b ≡ true) (same h) e ]
    where
      same : suc m ≤ k → k ≡ suc m
      same h = omega arith

  -- a block before that of term i is found by the terms before i
  early : (i k b : ℕ) → k ≤ length q.terms → i ≤ k → b < block_of q i → reached_before ds tag k b ≡ true → reached_before ds tag i b ≡ true
  early i zero b l r h e = absurd (false≢true e)
  early i (suc k) b l r h e = elim (cases_lt i (suc k)) [ inl more ↦ step more (early i k b (omega arith) (omega arith) h) (or_cases (reached_before ds tag k b) _ e) | inr last ↦ subst (λ n. reached_before ds tag n b ≡ true) (same last) e ]
    where
      same : suc k ≤ i → suc k ≡ i
      same h = omega arith

      step : i < suc k → (reached_before ds tag k b ≡ true → reached_before ds tag i b ≡ true) → (reached_before ds tag k b ≡ true) ⊎ ((eqb (nth_term ds k).block b && touched ds tag (reached_before ds tag k) (nth_term ds k).term) ≡ true) → reached_before ds tag i b ≡ true
      step more before (inl f) = before f
      step more before (inr f) = absurd (omega (arith, dealt_as.blocks k l, eqb-true (nth_term ds k).block b (and_parts (eqb (nth_term ds k).block b) _ f).0, dealt_rises q.blocks i k (omega arith)))

  -- a term that touches its block
  at_term : (i : ℕ) → i < length q.terms → touched ds tag (reached_before ds tag i) (term_at q i) ≡ true → reached_before ds tag (length q.terms) (block_of q i) ≡ true
  at_term i h e = stays (suc i) (length q.terms) (block_of q i) h (or_right (reached_before ds tag i (block_of q i)) _ (and_from (eqb (nth_term ds i).block (block_of q i)) _ (eq-eqb _ _ (dealt_as.blocks i h)) (ap (touched ds tag (reached_before ds tag i)) (dealt_as.terms i) ∙ e)))

  -- what is reached is found
  reached_found : {b : ℕ} → Reaches q tag b → reached_before ds tag (length q.terms) b ≡ true
  reached_found (by_mark i h e) = at_term i h (ap (touched ds tag (reached_before ds tag i)) e ∙ mark_touches ds tag (reached_before ds tag i))
  reached_found (by_reading i j h r reaches) = step (reached_found reaches) (cases_lt (block_of q j) (block_of q i))
    where
      there : j < length q.terms
      there = admitted.operands_stand i h j r

      step : reached_before ds tag (length q.terms) (block_of q j) ≡ true → (block_of q j < block_of q i) ⊎ (block_of q i ≤ block_of q j) → reached_before ds tag (length q.terms) (block_of q i) ≡ true
      step f (inl earlier) = at_term i h (reading_touches ds tag (reached_before ds tag i) r (ap (reached_before ds tag i) (dealt_as.blocks j there) ∙ early i (length q.terms) (block_of q j) (omega arith) (omega arith) earlier f))
      step f (inr own) = subst (λ b. reached_before ds tag (length q.terms) b ≡ true) (same own (admitted.no_later_block i h j r)) f
        where
          same : block_of q i ≤ block_of q j → block_of q j ≤ block_of q i → block_of q j ≡ block_of q i
          same l m = omega arith

  pub reached_decided : (b : ℕ) → Decides (reached_before ds tag (length q.terms) b) (Reaches q tag b)
  reached_decided b = (found (length q.terms) b (omega arith), reached_found)

  -- a tag that is not there reaches nothing, and a block that is not there is not reached
  pub tag_stands : {b : ℕ} → Reaches q tag b → tag < q.tags
  tag_stands (by_mark i h e) = admitted.tag_stands i h tag e
  tag_stands (by_reading i j h r reaches) = tag_stands reaches

  pub block_stands : {b : ℕ} → Reaches q tag b → b < length q.blocks
  block_stands (by_mark i h e) = in_some_block q admitted i h
  block_stands (by_reading i j h r reaches) = in_some_block q admitted i h

  -- what is listed for the blocks, and no past them
  pub reached_says : (b : ℕ) (r : Bool) → r ≡ unwrap_or (cond (ltb b (length q.blocks)) (Some (reached_before ds tag (length q.terms) b)) None) false → Says r (Reaches q tag b)
  reached_says b r e = elim (cases_lt b (length q.blocks)) [ inl h ↦ here h | inr h ↦ past h ]
    where
      here : b < length q.blocks → Says r (Reaches q tag b)
      here h =
          let same : r ≡ reached_before ds tag (length q.terms) b = e ∙ rw (lt-ltb b (length q.blocks) h) refl in
          says r (subst (λ x. Decides x (Reaches q tag b)) (sym same) (reached_decided b))

      past : length q.blocks ≤ b → Says r (Reaches q tag b)
      past h =
          let no : r ≡ false = e ∙ rw (le-ltb b (length q.blocks) h) refl in
          says r ((λ yes. absurd (false≢true (sym no ∙ yes))), (λ reaches. absurd (omega (arith, block_stands reaches))))
