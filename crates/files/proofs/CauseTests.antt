-- The causes to refuse a file that is read to its end, tested.
use Rattle.std.proofs.Common.{◌≡◌, ℕ, ◌+◌, ◌-◌, ◌<◌, Bool, true, false, not, ◌&&◌, ◌||◌, eqb, ltb, leb, List, [], ◌∷◌, length, is_some, Some, None, Option, sym, refl, ap, subst, ◌∙◌, inl, inr, le_trans, arith}
use Rattle.std.proofs.lemmas.Bool.{agree_below, agree_below_at, true≢false, false≢true, or_cases, ltb-true}
use Rattle.std.proofs.lemmas.Bool.Decides.{nat_tests}
use Rattle.shapes.specs.Depths.{KeepsRule}
use Rattle.queries.specs.Admission.{BlockFits, Stands}
use Rattle.queries.specs.Rows.{Rows, told}
use Rattle.queries.specs.Table.{NoLaterBlock, TurnEarlier, term_at}
use Rattle.files.specs.declared.head.GradeKind.{GradeKind}
use Rattle.files.specs.declared.rows.AskedRow.{AskedRow}
use Rattle.files.specs.declared.tables.Room.{Room}
use Rattle.files.specs.Causes.{Before, Cause, FirstCause, HasRoom, IsGradeNumber, MarkStands, NoCause, block_line, depths_in, mark_at, mark_line, node_line, rows_in, term_line}
use Rattle.files.specs.Causes.{no_shape, no_query, too_short, depth, block, sum, term, later_block, own_turn, no_grade, missing_mark, missing_term, malformed}
use Rattle.files.specs.Contents.{Contents, Ended, lines_of, text_of}
use Rattle.files.specs.Files.{Lawful}
use Rattle.files.specs.ModelAnswers.{Ample}
use Rattle.files.proofs.RulesDecided.{count_test, count_decides, head_test, head_decides, room_test, room_decides, rule_test, rule_decides, block_test, block_decides, sum_test, sum_decides, stands_test, stands_decides, later_test, later_decides, turn_test, turn_decides, grade_test, grade_decides, mark_test, mark_decides}
use Rattle.files.proofs.WholeFiles.{Whole, each, each_passes, reads_whole}

-- every ample room has room for what this one has room for
abbrev ample_room : Room
ample_room = record { marks = 4096; values = 16384; waiting = 16384 }

module _ (c : Contents) where
  abbrev asked_fine : Option AskedRow → Bool
  asked_fine None = true
  asked_fine (Some r) = ltb r.term c.head.terms

  -- every test below a number passes, or else what is claimed of its number at its line holds
  abbrev all_or : ℕ → (ℕ → Bool) → (ℕ → Bool) → Bool
  all_or n test claim = agree_below (λ k. test k || claim k) (λ k. true) n

  module _ (claim : ℕ → ℕ → Bool) where
    pub record Checked : Type 0 where
      pub count : (count_test c.head.nodes || claim 1 1) ≡ true
      pub sizes : (head_test c.head || claim 3 1) ≡ true
      pub room : (room_test ample_room c.head || claim 7 1) ≡ true
      pub depths : all_or (length c.nodes) (rule_test (depths_in c)) (λ x. claim 2 (node_line x)) ≡ true
      pub blocks : all_or (length c.blocks) (block_test (rows_in c)) (λ b. claim 3 (block_line c b)) ≡ true
      pub sum : (sum_test (rows_in c) || claim 3 (block_line c (length c.blocks - 1))) ≡ true
      pub terms : all_or (length c.terms) (stands_test (rows_in c)) (λ i. claim 4 (term_line c i)) ≡ true
      pub later : all_or (length c.terms) (later_test (rows_in c)) (λ i. claim 5 (term_line c i)) ≡ true
      pub turns : all_or (length c.terms) (λ i. turn_test (rows_in c) (term_at (told (rows_in c)) i) i) (λ i. claim 6 (term_line c i)) ≡ true
      pub grades : all_or (length c.marks) (λ j. grade_test c.head.grades (mark_at c j).grade) (λ j. claim 12 (mark_line c j)) ≡ true
      pub marks : all_or (length c.marks) (λ j. mark_test c.head (mark_at c j)) (λ j. claim 8 (mark_line c j)) ≡ true
      pub asked : (asked_fine c.asked || claim 8 (lines_of c)) ≡ true
      pub ended : (is_some c.asked || claim 12 (lines_of c + 1)) ≡ true

    abbrev pub checks : List Bool
    checks =
        (count_test c.head.nodes || claim 1 1) ∷ ((head_test c.head || claim 3 1) ∷ ((room_test ample_room c.head || claim 7 1) ∷ (all_or (length c.nodes) (rule_test (depths_in c)) (λ x. claim 2 (node_line x))
        ∷ (all_or (length c.blocks) (block_test (rows_in c)) (λ b. claim 3 (block_line c b)) ∷ ((sum_test (rows_in c) || claim 3 (block_line c (length c.blocks - 1)))
        ∷ (all_or (length c.terms) (stands_test (rows_in c)) (λ i. claim 4 (term_line c i)) ∷ (all_or (length c.terms) (later_test (rows_in c)) (λ i. claim 5 (term_line c i)) ∷ (all_or (length c.terms) (λ i. turn_test (rows_in c) (term_at (told (rows_in c)) i) i) (λ i. claim 6 (term_line c i))
        ∷ (all_or (length c.marks) (λ j. grade_test c.head.grades (mark_at c j).grade) (λ j. claim 12 (mark_line c j)) ∷ (all_or (length c.marks) (λ j. mark_test c.head (mark_at c j)) (λ j. claim 8 (mark_line c j))
        ∷ ((asked_fine c.asked || claim 8 (lines_of c)) ∷ ((is_some c.asked || claim 12 (lines_of c + 1)) ∷ []))))))))))))

    pub checked : each_passes checks ≡ true → Checked
    checked e =
        let p = each checks e in
        let terms = p.1.1.1.1.1.1 in
        let marks = terms.1.1.1 in
        record {
          count = p.0;
          sizes = p.1.0;
          room = p.1.1.0;
          depths = p.1.1.1.0;
          blocks = p.1.1.1.1.0;
          sum = p.1.1.1.1.1.0;
          terms = terms.0;
          later = terms.1.0;
          turns = terms.1.1.0;
          grades = marks.0;
          marks = marks.1.0;
          asked = marks.1.1.0;
          ended = marks.1.1.1.0;
        }

module _ (c : Contents) where
  room_tells : (room : Room) → Ample room → room_test ample_room c.head ≡ true → HasRoom room c.head
  room_tells room ample e =
      let fits = (room_decides ample_room c.head).0 e in
      record { marks = le_trans fits.marks ample.marks; values = le_trans fits.values ample.values; waiting = le_trans fits.waiting ample.waiting }

  asked_stands : (r : AskedRow) → c.asked ≡ Some r → asked_fine c c.asked ≡ true → r.term < c.head.terms
  asked_stands r is e = ltb-true r.term c.head.terms (ap (asked_fine c) (sym is) ∙ e)

  ended_tells : is_some c.asked ≡ true → Ended c []
  ended_tells e = (refl, λ none. true≢false (sym e ∙ ap is_some none))

-- what is claimed, where a test that did not pass would tell what is not so
otherwise : {P : Type 0} (test claim : Bool) → (test ≡ true → P) → (test || claim) ≡ true → (P → ⊥) → claim ≡ true
otherwise test claim tells e not = elim (or_cases test claim e) [ inl passes ↦ absurd (not (tells passes)) | inr claimed ↦ claimed ]

otherwise_at : (P : ℕ → Type 0) (test claim : ℕ → Bool) (n : ℕ) → ((k : ℕ) → test k ≡ true → P k) → agree_below (λ k. test k || claim k) (λ k. true) n ≡ true → (k : ℕ) → k < n → (P k → ⊥) → claim k ≡ true
otherwise_at P test claim n tells e k less not = otherwise (test k) (claim k) (tells k) (agree_below_at (λ k. test k || claim k) (λ k. true) n k e less) not

module _ (c : Contents) (room : Room) (ample : Ample room) (claim : ℕ → ℕ → Bool) (tests : Checked c claim) where
  abbrev r : Rows
  r = rows_in c

  -- so what is claimed holds of every cause
  pub claimed : {n l : ℕ} → Cause room c [] n l → claim n l ≡ true
  claimed (Cause.at_head n (no_shape not)) = otherwise (count_test c.head.nodes) (claim 1 1) (count_decides c.head.nodes).0 tests.count not
  claimed (Cause.at_head n (no_query not)) = otherwise (head_test c.head) (claim 3 1) (head_decides c.head).0 tests.sizes not
  claimed (Cause.at_head n (too_short not)) = otherwise (room_test ample_room c.head) (claim 7 1) (room_tells c room ample) tests.room not
  claimed (Cause.at_node x n less (depth not)) = otherwise_at (KeepsRule (depths_in c)) (rule_test (depths_in c)) (λ x. claim 2 (node_line x)) (length c.nodes) (λ x. (rule_decides (depths_in c) x).0) tests.depths x less not
  claimed (Cause.at_block b n less (block not)) = otherwise_at (BlockFits r) (block_test r) (λ b. claim 3 (block_line c b)) (length c.blocks) (λ b. (block_decides r b).0) tests.blocks b less not
  claimed (Cause.at_block b n less (sum last there not)) =
      let e : length c.blocks - 1 ≡ b = omega arith in
      subst (λ k. claim 3 (block_line c k) ≡ true) e (otherwise (sum_test r) (claim 3 (block_line c (length c.blocks - 1))) (sum_decides r).0 tests.sum not)
  claimed (Cause.at_term i n less (term not)) = otherwise_at (Stands r) (stands_test r) (λ i. claim 4 (term_line c i)) (length c.terms) (λ i. (stands_decides r i).0) tests.terms i less not
  claimed (Cause.at_term i n less (later_block not)) = otherwise_at (NoLaterBlock (told r)) (later_test r) (λ i. claim 5 (term_line c i)) (length c.terms) (λ i. (later_decides r i).0) tests.later i less not
  claimed (Cause.at_term i n less (own_turn not)) = otherwise_at (TurnEarlier (told r)) (λ i. turn_test r (term_at (told r) i) i) (λ i. claim 6 (term_line c i)) (length c.terms) (λ i. (turn_decides r (term_at (told r) i) i).0) tests.turns i less not
  claimed (Cause.at_mark j n less (no_grade not)) = otherwise_at (λ j. IsGradeNumber c.head.grades (mark_at c j).grade) (λ j. grade_test c.head.grades (mark_at c j).grade) (λ j. claim 12 (mark_line c j)) (length c.marks) (λ j. (grade_decides c.head.grades (mark_at c j).grade).0) tests.grades j less not
  claimed (Cause.at_mark j n less (missing_mark not)) = otherwise_at (λ j. MarkStands c.head (mark_at c j)) (λ j. mark_test c.head (mark_at c j)) (λ j. claim 8 (mark_line c j)) (length c.marks) (λ j. (mark_decides c.head (mark_at c j)).0) tests.marks j less not
  claimed (Cause.at_asked n (missing_term r is beyond)) = otherwise (asked_fine c c.asked) (claim 8 (lines_of c)) (asked_stands c r is) tests.asked (λ less. omega arith)
  claimed (Cause.at_end n (malformed not)) = otherwise (is_some c.asked) (claim 12 (lines_of c + 1)) (ended_tells c) tests.ended not

abbrev pub none_claimed : ℕ → ℕ → Bool
none_claimed n l = false

-- whether a cause at its line comes behind this one at its line, or is it
abbrev pub is_first : ℕ → ℕ → ℕ → ℕ → Bool
is_first number line n l = ltb line l || (eqb line l && (eqb number 12 || (not (eqb n 12) && leb number n)))

first_tells : (number line n l : ℕ) → is_first number line n l ≡ true → Before number line n l
first_tells number line n l e = grind (arith, nat_tests)

pub no_cause : (c : Contents) (room : Room) → Ample room → Checked c none_claimed → NoCause room c []
no_cause c room ample tests n l cause = false≢true (claimed c room ample none_claimed tests cause)

pub first_cause : (c : Contents) (room : Room) → Ample room → (number line : ℕ) → Checked c (is_first number line) → Cause room c [] number line → FirstCause room c [] number line
first_cause c room ample number line tests cause = record { cause = cause; first = λ n l other. first_tells number line n l (claimed c room ample (is_first number line) tests other) }

pub lawful : (c : Contents) (asked : ℕ) → Whole c → Checked c none_claimed → c.asked ≡ Some (record { term = asked }) → (rooms : GradeKind → Room) → ((kind : GradeKind) → Ample (rooms kind)) → Lawful rooms (text_of c) c asked
lawful c asked there tests asks rooms ample = record {
  short = there.short;
  reads = reads_whole c there;
  no_cause = no_cause c (rooms c.head.grades) (ample c.head.grades) tests;
  row = record { term = asked };
  asks = asks;
  term = refl;
}
