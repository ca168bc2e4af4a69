-- The queries of the examples are admitted.
use Rattle.std.proofs.Common.{ℕ, ◌<◌, ◌≤◌, length, refl, subst, arith, lit<, lit≤}
use Rattle.queries.specs.declared.block.Solution.{Solution}
use Rattle.queries.specs.declared.term.Term.{Term}
use Rattle.queries.specs.declared.term.Term.TheVariants.{Mark, Turn, Meet, Join, SomeNeighbour, EveryNeighbour, Lowest, Highest}
use Rattle.queries.specs.Table.{Table, Admitted, Sized, Reads, by_turn, by_meet_left, by_meet_right, by_join_left, by_join_right, by_some, by_every, term_at, block_of}
use Rattle.meaning.specs.Examples.{reach, cycle, itself}
use Rattle.meaning.proofs.Sums.{below_suc}

-- term i may read term j
abbrev Readable : Table → ℕ → ℕ → Type 0
Readable q i j = (j < length q.terms) × (block_of q j ≤ block_of q i)

-- the rules for term i, by its form
abbrev Fits : Table → ℕ → Term → Type 0
Fits q i (Mark a) = a < q.tags
Fits q i (Turn a) = Readable q i a × (block_of q a < block_of q i)
Fits q i (Meet a b) = Readable q i a × Readable q i b
Fits q i (Join a b) = Readable q i a × Readable q i b
Fits q i (SomeNeighbour x a) = Readable q i a
Fits q i (EveryNeighbour x a) = Readable q i a
Fits q i Lowest = Unit {0}
Fits q i Highest = Unit {0}

fits_reads : (q : Table) (i : ℕ) {m : Term} {j : ℕ} → Reads m j → Fits q i m → Readable q i j
fits_reads q i (by_turn a) f = f.0
fits_reads q i (by_meet_left a b) f = f.0
fits_reads q i (by_meet_right a b) f = f.1
fits_reads q i (by_join_left a b) f = f.0
fits_reads q i (by_join_right a b) f = f.1
fits_reads q i (by_some x a) f = f
fits_reads q i (by_every x a) f = f

-- a query whose every term fits is admitted
fits_admitted : {q : Table} → Sized q → ((i : ℕ) → i < length q.terms → Fits q i (term_at q i)) → Admitted q
fits_admitted {q} sized fits = record {
  sized = sized;
  tag_stands = λ i h a e. subst (Fits q i) e (fits i h);
  operands_stand = λ i h j r. (fits_reads q i r (fits i h)).0;
  no_later_block = λ i h j r. (fits_reads q i r (fits i h)).1;
  turn_earlier = λ i h a e. (let f : Fits q i (Turn a) = subst (Fits q i) e (fits i h) in f.1);
}

pub below_one : (P : ℕ → Type 0) → P 0 → (i : ℕ) → i < 1 → P i
below_one P p = below_suc P 0 (λ i h. absurd (omega arith)) p

pub below_two : (P : ℕ → Type 0) → P 0 → P 1 → (i : ℕ) → i < 2 → P i
below_two P p r = below_suc P 1 (below_one P p) r

pub reach_admitted : Admitted reach
reach_admitted =
    fits_admitted
    (record { few_tags = lit≤ tt; some_term = lit≤ tt; few_terms = lit≤ tt; no_empty_block = below_one _ (lit≤ tt); all_dealt = refl })
    (below_suc _ 2 (below_two _ (lit< tt) ((lit< tt, lit≤ tt), (lit< tt, lit≤ tt))) (lit< tt, lit≤ tt))

pub cycle_admitted : (s : Solution) → Admitted (cycle s)
cycle_admitted s =
    fits_admitted
    (record { few_tags = lit≤ tt; some_term = lit≤ tt; few_terms = lit≤ tt; no_empty_block = below_one _ (lit≤ tt); all_dealt = refl })
    (below_two _ (lit< tt, lit≤ tt) (lit< tt, lit≤ tt))

pub itself_admitted : (s : Solution) → Admitted (itself s)
itself_admitted s =
    fits_admitted
    (record { few_tags = lit≤ tt; some_term = lit≤ tt; few_terms = lit≤ tt; no_empty_block = below_one _ (lit≤ tt); all_dealt = refl })
    (below_one _ ((lit< tt, lit≤ tt), (lit< tt, lit≤ tt)))
