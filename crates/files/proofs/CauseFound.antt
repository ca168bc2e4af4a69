-- Of the causes to refuse a file that was read, the first one is found, or there is none.
use Rattle.std.proofs.Common.{◌≡◌, ℕ, ◌+◌, ◌≤◌, ◌⊎◌, List, length, Some, inl, inr}
use native.Mathlib.Decide.{ℕ_discrete}
use Rattle.shapes.specs.Depths.{KeepsRule}
use Rattle.shapes.specs.Tree.{Countable}
use Rattle.queries.specs.Admission.{BlockFits, BlocksAddUp, Stands}
use Rattle.queries.specs.Rows.{told}
use Rattle.queries.specs.Table.{NoLaterBlock, TurnEarlier, term_at}
use Rattle.surveys.proofs.Decisions.{both, not?}
use Rattle.files.specs.declared.rows.AskedRow.{AskedRow}
use Rattle.files.specs.declared.tables.Room.{Room}
use Rattle.files.specs.Causes.{HasRoom, HeadFits, MarkStands, IsGradeNumber, Cause, FirstCause, NoCause, depths_in, rows_in, mark_at, node_line, block_line, term_line, mark_line}
use Rattle.files.specs.Causes.{no_shape, no_query, too_short, depth, block, sum, term, later_block, own_turn, no_grade, missing_mark, missing_term, malformed}
use Rattle.files.specs.Causes.Cause.{at_asked, at_block, at_end, at_head, at_mark, at_node, at_term}
use Rattle.files.specs.Contents.{Contents, BlocksThere, Ended, lines_of}
use Rattle.files.proofs.RulesDecided.{adds_up?, asked_missing?, block_fits?, countable?, grade_number?, has_room?, head_fits?, later?, mark_stands?, ended?, rule?, stands?, turn?}
use Rattle.files.proofs.FirstFound.{Found, At, Some as Any, one_found, named_found, either_found, some_found}
use Rattle.files.proofs.FirstFound.At.{at}

module _ (room : Room) (c : Contents) (rest : List ℕ) where
  -- the causes, sorted out
  abbrev Sorted : ℕ → ℕ → Type 0
  Sorted n l =
      At (Countable c.head.nodes → ⊥) 1 1 n l
      ⊎ (At (HeadFits c.head → ⊥) 3 1 n l
      ⊎ (At (HasRoom room c.head → ⊥) 7 1 n l
      ⊎ (Any (λ x. At (KeepsRule (depths_in c) x → ⊥) 2 (node_line x)) (length c.nodes) n l
      ⊎ (Any (λ b. At (BlockFits (rows_in c) b → ⊥) 3 (block_line c b)) (length c.blocks) n l
      ⊎ (Any (λ b. At ((b + 1 ≡ length c.blocks) × (BlocksThere c × (BlocksAddUp (rows_in c) → ⊥))) 3 (block_line c b)) (length c.blocks) n l
      ⊎ (Any (λ i. At (Stands (rows_in c) i → ⊥) 4 (term_line c i)) (length c.terms) n l
      ⊎ (Any (λ i. At (NoLaterBlock (told (rows_in c)) i → ⊥) 5 (term_line c i)) (length c.terms) n l
      ⊎ (Any (λ i. At (TurnEarlier (told (rows_in c)) i → ⊥) 6 (term_line c i)) (length c.terms) n l
      ⊎ (Any (λ j. At (IsGradeNumber c.head.grades (mark_at c j).grade → ⊥) 12 (mark_line c j)) (length c.marks) n l
      ⊎ (Any (λ j. At (MarkStands c.head (mark_at c j) → ⊥) 8 (mark_line c j)) (length c.marks) n l
      ⊎ (At ((r : AskedRow) × ((c.asked ≡ Some r) × (c.head.terms ≤ r.term))) 8 (lines_of c) n l
      ⊎ At (Ended c rest → ⊥) 12 (lines_of c + 1) n l)))))))))))

  found : Found (Cause room c rest) Sorted
  found =
      either_found (one_found 1 1 (λ why. at_head 1 (no_shape why)) (not? (countable? c.head.nodes)))
      (either_found (one_found 3 1 (λ why. at_head 3 (no_query why)) (not? (head_fits? c.head)))
      (either_found (one_found 7 1 (λ why. at_head 7 (too_short why)) (not? (has_room? room c.head)))
      (either_found (some_found _ _ (λ x l. one_found 2 _ (λ why. at_node x 2 l (depth why)) (not? (rule? (depths_in c) x))))
      (either_found (some_found _ _ (λ b l. one_found 3 _ (λ why. at_block b 3 l (block why)) (not? (block_fits? (rows_in c) b))))
      (either_found (some_found _ _ (λ b l. one_found 3 _ (λ (last, (there, why)). at_block b 3 l (sum last there why)) (both (ℕ_discrete _ _) (λ _. both (both (ℕ_discrete _ _) (λ _. ℕ_discrete _ _)) (λ _. not? (adds_up? (rows_in c)))))))
      (either_found (some_found _ _ (λ i l. one_found 4 _ (λ why. at_term i 4 l (term why)) (not? (stands? (rows_in c) i))))
      (either_found (some_found _ _ (λ i l. one_found 5 _ (λ why. at_term i 5 l (later_block why)) (not? (later? (rows_in c) i))))
      (either_found (some_found _ _ (λ i l. one_found 6 _ (λ why. at_term i 6 l (own_turn why)) (not? (turn? (rows_in c) (term_at (told (rows_in c)) i) i))))
      (either_found (some_found _ _ (λ j l. one_found 12 _ (λ why. at_mark j 12 l (no_grade why)) (not? (grade_number? c.head.grades (mark_at c j).grade))))
      (either_found (some_found _ _ (λ j l. one_found 8 _ (λ why. at_mark j 8 l (missing_mark why)) (not? (mark_stands? c.head (mark_at c j)))))
      (either_found (one_found 8 _ (λ (r, (asks, past)). at_asked 8 (missing_term r asks past)) (asked_missing? c.head c.asked))
      (one_found 12 _ (λ why. at_end 12 (malformed why)) (not? (ended? c rest))))))))))))))

  sorted : {n l : ℕ} → Cause room c rest n l → Sorted n l
  sorted (at_head n (no_shape why)) = inl (at why)
  sorted (at_head n (no_query why)) = inr (inl (at why))
  sorted (at_head n (too_short why)) = inr (inr (inl (at why)))
  sorted (at_node x n l (depth why)) = inr (inr (inr (inl (x, (l, at why)))))
  sorted (at_block x n l (block why)) = inr (inr (inr (inr (inl (x, (l, at why))))))
  sorted (at_block x n l (sum last there why)) = inr (inr (inr (inr (inr (inl (x, (l, at (last, (there, why)))))))))
  sorted (at_term x n l (term why)) = inr (inr (inr (inr (inr (inr (inl (x, (l, at why))))))))
  sorted (at_term x n l (later_block why)) = inr (inr (inr (inr (inr (inr (inr (inl (x, (l, at why)))))))))
  sorted (at_term x n l (own_turn why)) = inr (inr (inr (inr (inr (inr (inr (inr (inl (x, (l, at why))))))))))
  sorted (at_mark x n l (no_grade why)) = inr (inr (inr (inr (inr (inr (inr (inr (inr (inl (x, (l, at why)))))))))))
  sorted (at_mark x n l (missing_mark why)) = inr (inr (inr (inr (inr (inr (inr (inr (inr (inr (inl (x, (l, at why))))))))))))
  sorted (at_asked n (missing_term r asks past)) = inr (inr (inr (inr (inr (inr (inr (inr (inr (inr (inr (inl (at (r, (asks, past))))))))))))))
  sorted (at_end n (malformed why)) = inr (inr (inr (inr (inr (inr (inr (inr (inr (inr (inr (inr (at why))))))))))))

  -- the first cause, or none
  pub first_cause? : ((n : ℕ) × ((l : ℕ) × FirstCause room c rest n l)) ⊎ NoCause room c rest
  first_cause? = elim (named_found (λ n l. sorted) found) [
    | inl f ↦ inl (f.number, (f.line, record { cause = f.has; first = f.least }))
    | inr none ↦ inr none
  ]
