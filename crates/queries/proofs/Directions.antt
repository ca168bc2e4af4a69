-- Which tables are admitted, and the rules on directions.
use Rattle.std.proofs.Common.{◌≡◌, ℕ, zero, suc, ◌<◌, ◌≤◌, length, get_or, sym, refl, ap, ◌∙◌, subst, arith}
use Rattle.std.proofs.lemmas.List.{length-map, get_or-map}
use Rattle.queries.specs.declared.term.Term.TheVariants.{Mark, Lowest}
use Rattle.queries.specs.Admission.{Admissible, Fits, Framed}
use Rattle.queries.specs.Operands.{operands_of}
use Rattle.queries.specs.Queries.{lowest_alone}
use Rattle.queries.specs.Rows.{Rows, no_row, block_in, told}
use Rattle.queries.specs.Table.{Table, Admitted, Directed, Reads, term_at, solution_at, blocks_terms, no_block}
use Rattle.queries.proofs.Operands.{none_read, turn_read}
use Rattle.queries.proofs.Rules.{as_many}

-- a direction goes by the block, and a turn reads an earlier block, so an admitted query is directed
pub directed : {q : Table} → Admitted q → Directed q
directed {q} admitted = record {
  turn_unlike = λ i a h e same. absurd (omega (arith, admitted.turn_earlier i h a e));
  others_like = λ i j h r steady same. ap (solution_at q) same;
}

-- no block is empty, where the frame is right
pub no_empty_block : (r : Rows) → Framed r → (b : ℕ) → b < length (told r).blocks → 1 ≤ blocks_terms (told r) b
no_empty_block r framed b h =
    let there : b < length r.blocks = subst (λ n. b < n) (length-map r.blocks block_in) h in
    let same : blocks_terms (told r) b ≡ (get_or r.blocks b no_row).terms = ap (λ k. k.terms) (get_or-map block_in r.blocks b no_row no_block there) in
    rw same (framed.blocks b there).0

-- what a table tells that keeps every rule of admission is admitted
pub told_admitted_lem : (r : Rows) → Admissible r → Admitted (told r)
told_admitted_lem r ok = record {
  sized = record {
    few_tags = ok.framed.sizes.few_tags;
    some_term = rw (as_many r) ok.framed.sizes.some_term;
    few_terms = rw (as_many r) ok.framed.sizes.few_terms;
    no_empty_block = no_empty_block r ok.framed;
    all_dealt = ok.framed.sum ∙ sym (as_many r);
  };
  tag_stands = λ i h. (fits i h).stands.tag;
  operands_stand = λ i h. (fits i h).stands.operands;
  no_later_block = λ i h. (fits i h).no_later_block;
  turn_earlier = λ i h. (fits i h).turn_earlier;
}
  where
    fits : (i : ℕ) → i < length (told r).terms → Fits r i
    fits i h = ok.terms i (subst (λ n. i < n) (as_many r) h)

-- the lowest term alone is all terms, and in all blocks
only_lowest : (i : ℕ) → term_at lowest_alone i ≡ Lowest
only_lowest zero = refl
only_lowest (suc i) = refl

lowest_reads_none : (i j : ℕ) → Reads (term_at lowest_alone i) j → ⊥
lowest_reads_none i j r = none_read (term_at lowest_alone i) (ap operands_of (only_lowest i)) j r

pub lowest_admitted : Admitted lowest_alone
lowest_admitted = record {
  sized = record { few_tags = omega arith; some_term = omega arith; few_terms = omega arith; no_empty_block = full; all_dealt = refl };
  tag_stands = λ i h a e. absurd (no_lowest a (sym (only_lowest i) ∙ e));
  operands_stand = λ i h j r. absurd (lowest_reads_none i j r);
  no_later_block = λ i h j r. absurd (lowest_reads_none i j r);
  turn_earlier = λ i h a e. absurd (lowest_reads_none i a (turn_read (term_at lowest_alone i) a e));
}
  where
    full : (b : ℕ) → b < 1 → 1 ≤ blocks_terms lowest_alone b
    full zero h = omega arith
    full (suc b) h = absurd (omega arith)

    no_lowest : (a : ℕ) → Lowest ≡ Mark a → ⊥
    no_lowest a e = let z : ◌≡◌ {A = ℕ} 0 1 = cc in omega arith
