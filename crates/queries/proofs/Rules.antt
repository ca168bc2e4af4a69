-- The rules for one term, by its row and by a list of the block of each term.
use Rattle.std.proofs.Common.{◌≡◌, ℕ, ◌<◌, true, false, length, get_or, is_some, Some, Result, Ok, Err, MatchResult, unwrap_or, sym, ap, ◌∙◌, subst}
use Rattle.std.proofs.lemmas.List.{length-map, get_or-map, get_or_default}
use Rattle.std.proofs.lemmas.Bool.{false≢true}
use Rattle.queries.specs.declared.refusal.QueryRefusal.{QueryRefusal}
use Rattle.queries.specs.declared.refusal.QueryRefusal.TheVariants.{Sizes, BadBlock, BlockSum, BadTerm, LaterBlock, OwnTurn, NoMemory}
use Rattle.queries.specs.declared.rows.TermRow.{TermRow}
use Rattle.queries.specs.declared.term.Term.{Term}
use Rattle.queries.specs.declared.term.Term.TheVariants.{Lowest}
use Rattle.queries.specs.Admission.{Stands, Fits, Framed, FineBefore, Admissible, Breaks}
use Rattle.queries.specs.Checks.{standing, reading_up_to, TurnsBefore, FirstFaulty}
use Rattle.queries.specs.Rows.{Rows, term_in, told}
use Rattle.queries.specs.Table.{Reads, term_at, block_of, NoLaterBlock, TurnEarlier}
use Rattle.queries.proofs.Tested.{StandsAlone, ReadsUpTo, standing_decided, reading_decided}

-- the row that a reader of rows sees past the end
abbrev pub none : TermRow
none = record { kind = 0; a = 0; b = 0 }

-- a table tells a term for each row
pub as_many : (r : Rows) → length (told r).terms ≡ length r.terms
as_many r = length-map r.terms (λ row. unwrap_or (term_in row) Lowest)

module _ (r : Rows) (i : ℕ) (here : i < length r.terms) where
  module _ (t : Term) (is : term_in (get_or r.terms i none) ≡ Some t) where
    told_term : term_at (told r) i ≡ t
    told_term = get_or-map (λ row. unwrap_or (term_in row) Lowest) r.terms i none Lowest here ∙ ap (λ o. unwrap_or o Lowest) is

    known : is_some (term_in (get_or r.terms i (record { kind = 12; a = 0; b = 0 }))) ≡ true
    known = ap (λ row. is_some (term_in row)) (get_or_default r.terms i _ none here) ∙ ap is_some is

    pub stands_there : true ≡ standing r.tags (length r.terms) t → Stands r i
    stands_there told_so = record {
      known = known;
      tag = λ a e. s.tag a (sym told_term ∙ e);
      operands = λ j reads. rw (as_many r) (s.operands j (subst (λ u. Reads u j) told_term reads));
    }
      where
        s : StandsAlone r.tags (length r.terms) t
        s = (standing_decided r.tags (length r.terms) t).0 (sym told_so)

    stands_here : Stands r i → StandsAlone r.tags (length r.terms) t
    stands_here s = record {
      tag = λ a e. s.tag a (told_term ∙ e);
      operands = λ j reads. subst (λ n. j < n) (as_many r) (s.operands j (subst (λ u. Reads u j) (sym told_term) reads));
    }

    pub stands_not : false ≡ standing r.tags (length r.terms) t → Stands r i → ⊥
    stands_not other s = false≢true (other ∙ (standing_decided r.tags (length r.terms) t).1 (stands_here s))

    pub later_there : true ≡ reading_up_to (block_of (told r)) (block_of (told r) i) t → NoLaterBlock (told r) i
    later_there told_so j reads = (reading_decided (block_of (told r)) (block_of (told r) i) t).0 (sym told_so) j (subst (λ u. Reads u j) told_term reads)

    later_here : NoLaterBlock (told r) i → ReadsUpTo (block_of (told r)) (block_of (told r) i) t
    later_here h j reads = h j (subst (λ u. Reads u j) (sym told_term) reads)

    pub later_not : false ≡ reading_up_to (block_of (told r)) (block_of (told r) i) t → NoLaterBlock (told r) i → ⊥
    later_not other h = false≢true (other ∙ (reading_decided (block_of (told r)) (block_of (told r) i) t).1 (later_here h))

    pub turn_there : TurnsBefore (block_of (told r)) (block_of (told r) i) t → TurnEarlier (told r) i
    turn_there h a e = h a (sym told_term ∙ e)

    pub turn_here : TurnEarlier (told r) i → TurnsBefore (block_of (told r)) (block_of (told r) i) t
    turn_here h a e = h a (told_term ∙ e)

-- a fault in a term of a table whose frame is right
module _ (r : Rows) (framed : Framed r) where
  fine : (i : ℕ) → i < length r.terms → ((k : ℕ) → k < i → Fits r k) → FineBefore r i
  fine i there before = record { framed = framed; term = there; before = before }

  pub refused : (e : QueryRefusal) → FirstFaulty r e → Breaks r e
  refused Sizes first = absurd first.faulty
  refused (BadBlock b) first = absurd first.faulty
  refused BlockSum first = absurd first.faulty
  refused (BadTerm i) first =
      let f = first.faulty in
      subst (λ k. FineBefore r k × (Stands r k → ⊥)) (sym f.0) (fine first.term first.there first.before, f.1)
  refused (LaterBlock i) first =
      let f = first.faulty in
      subst (λ k. FineBefore r k × Stands r k × (NoLaterBlock (told r) k → ⊥)) (sym f.0) (fine first.term first.there first.before, f.1, f.2)
  refused (OwnTurn i) first =
      let f = first.faulty in
      subst (λ k. FineBefore r k × Stands r k × NoLaterBlock (told r) k × (TurnEarlier (told r) k → ⊥)) (sym f.0) (fine first.term first.there first.before, f.1, f.2, f.3)
  refused NoMemory first = absurd first.faulty

  -- what the terms of such a table show
  pub checked : (result : Result (Unit {0}) QueryRefusal) → MatchResult result (λ _. (i : ℕ) → i < length r.terms → Fits r i) (λ e. FirstFaulty r e) → MatchResult result (λ _. Admissible r) (Breaks r)
  checked (Ok _) h = record { framed = framed; terms = h }
  checked (Err e) h = refused e h
