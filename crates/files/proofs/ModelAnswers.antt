-- The answers to small survey files, computed.
use Rattle.std.proofs.Common.{◌≡◌, ℕ, ◌%◌, ◌^◌, ◌<◌, ◌≤◌, Bool, true, cond, eqb, List, [], ◌∷◌, Some, refl, mod-lt, eqb-true, lit<, arith}
use Rattle.std.specs.Prelude.{◌==◌}
use Rattle.std.specs.List.{list_all}
use Rattle.grades.specs.declared.stage_set.StageSet.{StageSet}
use Rattle.grades.specs.Stages.{stage_set_laws}
use Rattle.grades.specs.StageSets.{stage_sets}
use Rattle.grades.specs.YesNo.{yes_no, yes_no_laws}
use Rattle.shapes.specs.Depths.{DepthTree}
use Rattle.shapes.specs.Mirrors.{mirror}
use Rattle.shapes.specs.MirrorLaws.{mirror_means}
use Rattle.shapes.specs.Tree.{Tree}
use Rattle.queries.specs.Rows.{told}
use Rattle.meaning.specs.Examples.{one_node, two_nodes, three_nodes}
use Rattle.meaning.proofs.Trees.{one_lawful, two_lawful, three_lawful}
use Rattle.files.specs.declared.head.GradeKind.{GradeKind}
use Rattle.files.specs.declared.head.GradeKind.TheVariants.{YesNo, StageSets}
use Rattle.files.specs.declared.head.Hand.TheVariants.{AsListed, Mirrored}
use Rattle.files.specs.declared.tables.Room.{Room}
use Rattle.files.specs.Causes.{Cause, depth, own_turn, rows_in}
use Rattle.files.specs.Causes.Cause.{at_node, at_term}
use Rattle.files.specs.Contents.{Contents, TermsThere, text_of}
use Rattle.files.specs.Files.{Lists, ListsByKind, ListsFor, Refuses, TreeOf, filed_stage_sets, filed_yes_no}
use Rattle.files.specs.Listings.{Filed, listing}
use Rattle.files.specs.ModelAnswers.{ModelAnswers, WithRoom, Refusal, reach, itself, cycle, over, turned, mark, highest_number}
use Rattle.files.proofs.CauseTests.{checked, checks, first_cause, is_first, lawful, no_cause, none_claimed}
use Rattle.files.proofs.ComputedListings.{Computed, Graded, lists_for, opening_on, same_grade, selected, settled_row}
use Rattle.files.proofs.ComputedSteps.{settles_in}
use Rattle.files.proofs.DepthTests.{tested}
use Rattle.files.proofs.LawfulContents.{admitted, tree_laws}
use Rattle.files.proofs.Lengths.{all_tested}
use Rattle.files.proofs.OneOutcomes.{stage_set_numbered, yes_no_numbered}
use Rattle.files.proofs.RefusedCalls.{calls_refused_lem}
use Rattle.files.proofs.WholeFiles.{each, each_passes, reads_whole, whole, whole_tests}

-- a tree of one, two and three nodes from its depths
one_depths : DepthTree (0 ∷ []) one_node
one_depths = tested (0 ∷ []) one_node one_lawful refl refl

two_depths : DepthTree (0 ∷ (1 ∷ [])) two_nodes
two_depths = tested (0 ∷ (1 ∷ [])) two_nodes two_lawful refl refl

three_depths : DepthTree (0 ∷ (1 ∷ (1 ∷ []))) three_nodes
three_depths = tested (0 ∷ (1 ∷ (1 ∷ []))) three_nodes three_lawful refl refl

abbrev yes_nos : Graded Bool
yes_nos = record { filed = filed_yes_no; laws = yes_no_laws; numbered = yes_no_numbered; grade = λ n. n == 1 }

abbrev stages : Graded StageSet
stages = record { filed = filed_stage_sets; laws = stage_set_laws; numbered = stage_set_numbered; grade = λ n. record { stages = n % 2 ^ 32; fits = mod-lt n (lit< tt) } }

module _ {G : Type 0} (g : Graded G) (c : Contents) (t : Tree) (tree_of : TreeOf c c.head.hand t) (asked steps : ℕ) (numbers : ℕ → ℕ) (xs : List ℕ) where
  abbrev k : Filed G
  k = g.filed

  abbrev row : ℕ → G
  row = settled_row k g.grade t (told (rows_in c)) c.marks steps asked

  -- the file is whole and has no cause to be refused, and its survey settles
  abbrev tests : List Bool
  tests =
      each_passes (whole_tests c) ∷ (each_passes (checks c none_claimed) ∷ (list_all (λ m. eqb (k.number (g.grade m.grade)) m.grade) c.marks
      ∷ (settles_in (same_grade k) (opening_on k g.grade t (told (rows_in c)) c.marks) steps ∷ (list_all (λ x. eqb (numbers x) (k.number (row x))) xs ∷ []))))

  listed : each_passes tests ≡ true → selected k t.count row ≡ xs → c.asked ≡ Some (record { term = asked }) →
      (ListsFor k c asked (listing t.count steps numbers xs) → ListsByKind c.head.grades c asked (listing t.count steps numbers xs)) →
      WithRoom λ rooms. Lists rooms (text_of c) (listing t.count steps numbers xs)
  listed e selects asks by_kind rooms ample =
      let p = each tests e in
      let there = whole c p.0 in
      let all_there : TermsThere c = ((there.nodes, there.blocks), there.terms) in
      let fine = checked c none_claimed p.1.0 in
      let none = no_cause c (rooms c.head.grades) (ample c.head.grades) fine in
      let computed : Computed k g.grade c t asked steps numbers xs = record {
        marks = all_tested (λ m. k.number (g.grade m.grade) ≡ m.grade) (λ m. eqb (k.number (g.grade m.grade)) m.grade) (λ m. eqb-true (k.number (g.grade m.grade)) m.grade) c.marks p.1.1.0;
        settles = p.1.1.1.0;
        selects = selects;
        numbered = all_tested (λ x. numbers x ≡ k.number (row x)) (λ x. eqb (numbers x) (k.number (row x))) (λ x. eqb-true (numbers x) (k.number (row x))) xs p.1.1.1.1.0;
      } in
      record {
        contents = c;
        asked = asked;
        lawful = lawful c asked there fine asks rooms ample;
        lists = by_kind (lists_for g c t (tree_laws none all_there c.head.hand t tree_of) tree_of (admitted none all_there) asked steps numbers xs computed);
      }

-- a whole file with a cause, and no sooner one
refused : (c : Contents) (number line : ℕ) → each_passes (whole_tests c) ≡ true → each_passes (checks c (is_first number line)) ≡ true → ((room : Room) → Cause room c [] number line) → Refusal c number line
refused c number line e f cause rooms ample =
    let there = whole c e in
    let room = rooms c.head.grades in
    Refuses.first_cause c [] number line there.short (reads_whole c there) (first_cause c room (ample c.head.grades) number line (checked c (is_first number line) f) (cause room))

-- what holds for each kind of grade
each_kind : (P : GradeKind → Type 0) → P YesNo → P StageSets → (grades : GradeKind) → P grades
each_kind P p q YesNo = p
each_kind P p q StageSets = q

pub model_answers_lem : ModelAnswers
model_answers_lem = record {
  reach_listed = listed yes_nos (reach YesNo AsListed (mark 2 0 1 ∷ [])) three_nodes three_depths 1 10 (λ x. 1) (1 ∷ (2 ∷ [])) refl refl refl (λ l. l);
  reach_mirrored = listed yes_nos (reach YesNo Mirrored (mark 2 0 1 ∷ [])) (mirror three_nodes) (three_nodes, (three_depths, mirror_means three_nodes three_lawful)) 1 9 (λ x. 1) (2 ∷ []) refl refl refl (λ l. l);
  reach_by_stage = listed stages (reach StageSets AsListed (mark 2 0 5 ∷ (mark 1 0 2 ∷ []))) three_nodes three_depths 1 10 (λ x. cond (x == 1) 7 5) (1 ∷ (2 ∷ [])) refl refl refl (λ l. l);
  itself_least = each_kind _
      (listed yes_nos (itself 0 YesNo) one_node one_depths 0 1 (λ x. 0) [] refl refl refl (λ l. l))
      (listed stages (itself 0 StageSets) one_node one_depths 0 1 (λ x. 0) [] refl refl refl (λ l. l));
  itself_greatest = each_kind _
      (listed yes_nos (itself 1 YesNo) one_node one_depths 0 1 (λ x. highest_number YesNo) (0 ∷ []) refl refl refl (λ l. l))
      (listed stages (itself 1 StageSets) one_node one_depths 0 1 (λ x. highest_number StageSets) (0 ∷ []) refl refl refl (λ l. l));
  cycle_greatest_first = each_kind _
      (listed yes_nos (cycle 1 YesNo 0) two_nodes two_depths 0 4 (λ x. highest_number YesNo) (0 ∷ []) refl refl refl (λ l. l))
      (listed stages (cycle 1 StageSets 0) two_nodes two_depths 0 4 (λ x. highest_number StageSets) (0 ∷ []) refl refl refl (λ l. l));
  cycle_greatest_owner = each_kind _
      (listed yes_nos (cycle 1 YesNo 1) two_nodes two_depths 1 4 (λ x. highest_number YesNo) (1 ∷ []) refl refl refl (λ l. l))
      (listed stages (cycle 1 StageSets 1) two_nodes two_depths 1 4 (λ x. highest_number StageSets) (1 ∷ []) refl refl refl (λ l. l));
  cycle_least_first = each_kind _
      (listed yes_nos (cycle 0 YesNo 0) two_nodes two_depths 0 4 (λ x. 0) [] refl refl refl (λ l. l))
      (listed stages (cycle 0 StageSets 0) two_nodes two_depths 0 4 (λ x. 0) [] refl refl refl (λ l. l));
  cycle_least_owner = each_kind _
      (listed yes_nos (cycle 0 YesNo 1) two_nodes two_depths 1 4 (λ x. 0) [] refl refl refl (λ l. l))
      (listed stages (cycle 0 StageSets 1) two_nodes two_depths 1 4 (λ x. 0) [] refl refl refl (λ l. l));
  too_deep = λ grades hand. refused (over (0 ∷ (2 ∷ [])) grades hand) 2 3 refl refl (λ room. at_node 1 2 (lit< tt) (depth (λ keeps. let rises : 2 ≤ 1 = keeps.rises (lit< tt) in omega arith)));
  second_root = λ grades hand. refused (over (0 ∷ (1 ∷ (0 ∷ []))) grades hand) 2 4 refl refl (λ room. at_node 2 2 (lit< tt) (depth (λ keeps. let other : 1 ≤ 0 = keeps.other (lit< tt) in omega arith)));
  turns_itself = λ grades hand. refused (turned grades hand) 6 4 refl refl (λ room. at_term 0 6 (lit< tt) (own_turn (λ earlier. let less : 0 < 0 = earlier 0 refl in omega arith)));
  calls_yes_no = calls_refused_lem yes_no yes_no_laws;
  calls_stage_sets = calls_refused_lem stage_sets stage_set_laws;
}
