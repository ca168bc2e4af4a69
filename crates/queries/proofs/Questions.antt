-- What a query keeps worked out answers its questions.
use Rattle.std.proofs.Common.{◌≡◌, ℕ, ◌+◌, ◌<◌, ◌≤◌, Bool, true, eqb, List, [], length, sym, ◌∙◌, subst, arith}
use Rattle.std.proofs.lemmas.Bool.{and_parts, and_from, eqb-true, eq-eqb}
use Rattle.queries.specs.declared.query.Query.{Query}
use Rattle.queries.specs.declared.workings.DealtTerm.{DealtTerm}
use Rattle.queries.specs.Operands.{operands_of, either_is}
use Rattle.queries.specs.Queries.{table_of, Spans, Reader, ListsReaders}
use Rattle.queries.specs.Table.{Table, Reads, total, Admitted}
use Rattle.queries.specs.Workings.{listed, nth_term, span_of, reads_within, readers_in, reached_before}
use Rattle.queries.proofs.Deals.{Dealt, in_block, dealt_in, dealt_past, before_more, before_le}
use Rattle.queries.proofs.Kept.{DealtAs, dealt}
use Rattle.queries.proofs.Operands.{reads_test, test_reads}
use Rattle.queries.proofs.Readers.{kept_only, kept_all, kept_rises}

-- the rules are the struct's own
pub rules_kept : (q : Query) → Admitted (table_of q)
rules_kept q = q.rules

-- what a query keeps for a tag: whether it reaches each block
abbrev pub reached_row : Query → ℕ → List Bool
reached_row q tag = listed (reached_before (dealt q) tag (length (table_of q).terms)) (length (table_of q).blocks)

module _ (q : Table) (all_dealt : total q.blocks ≡ length q.terms) where
  -- the terms of a block
  pub spans_right : (b : ℕ) → b < length q.blocks → Spans q b (span_of q b)
  spans_right b h = record {
    stands = h;
    inside = λ i low high. (omega (arith, before_more q.blocks b h, before_le q.blocks (b + 1)), in_block q.blocks b i h low high);
    all = λ i there e. let d = subst (Dealt q.blocks i) e (dealt_in q.blocks i (omega arith)) in (d.low, d.high);
  }

  -- a term that is not there is read by none
  pub none_past : (t : ℕ) → length q.terms ≤ t → ListsReaders q t []
  none_past t h = record {
    rising = λ a b l k. absurd (omega arith);
    only = λ j has. absurd (omega (arith, has.1));
    all = λ j r. absurd (omega (arith, r.same_block, (dealt_in q.blocks j (omega (arith, r.stands))).stands, dealt_past q.blocks t (omega arith)));
  }

-- the readers of a term
module _ (q : Table) (ds : List DealtTerm) (dealt_as : DealtAs q ds) where
  pub readers_right : (t : ℕ) → t < length q.terms → ListsReaders q t (readers_in ds t)
  readers_right t h = record {
    rising = kept_rises (reads_within ds t) 0 (length ds);
    only = λ j has. only j (kept_only (reads_within ds t) (length ds) j has);
    all = λ j r. kept_all (reads_within ds t) (length ds) j (rw dealt_as.count r.stands) (passes j r);
  }
    where
      only : (j : ℕ) → (j < length ds) × (reads_within ds t j ≡ true) → Reader q t j
      only j (within, e) =
          let there = subst (λ n. j < n) dealt_as.count within in
          let both = and_parts (eqb (nth_term ds j).block (nth_term ds t).block) (either_is (operands_of (nth_term ds j).term) t) e in
          record {
            stands = there;
            same_block = sym (dealt_as.blocks j there) ∙ eqb-true _ _ both.0 ∙ dealt_as.blocks t h;
            reads = subst (λ u. Reads u t) (dealt_as.terms j) (test_reads (nth_term ds j).term t both.1);
          }

      passes : (j : ℕ) → Reader q t j → reads_within ds t j ≡ true
      passes j r = and_from (eqb (nth_term ds j).block (nth_term ds t).block) (either_is (operands_of (nth_term ds j).term) t) (eq-eqb _ _ (dealt_as.blocks j r.stands ∙ r.same_block ∙ sym (dealt_as.blocks t h))) (reads_test (subst (λ u. Reads u t) (sym (dealt_as.terms j)) r.reads))
