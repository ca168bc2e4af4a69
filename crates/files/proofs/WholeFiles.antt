-- Files whose lines are all there are read to their end.
use Rattle.std.proofs.Common.{◌≡◌, ℕ, ◌≤◌, Bool, true, eqb, leb, ◌≢◌, List, [], ◌∷◌, ◌++◌, length, Some, Option, sym, ap, ◌∙◌, append-nil, le_of_eq, le_trans}
use Rattle.std.specs.List.{AllByRecursion, list_all}
use Rattle.std.proofs.lemmas.Bool.{eqb-true, leb-true}
use Rattle.files.specs.declared.rows.AskedRow.{AskedRow}
use Rattle.files.specs.Contents.{Contents, Next, Reads, text_of}
use Rattle.files.specs.Files.{most_bytes}
use Rattle.files.specs.Lines.{RowFits}
use Rattle.files.specs.Rows.{asked_form, block_form, head_form, mark_form, node_form, term_form}
use Rattle.files.proofs.Lengths.{NumbersFit, all_fit_tells, all_tested, asked_fits, length_text, row_fits, row_fits_tells, text_length}

abbrev pub each_passes : List Bool → Bool
each_passes = list_all (λ b. b)

pub each : (tests : List Bool) → each_passes tests ≡ true → AllByRecursion (λ b. b ≡ true) tests
each = all_tested (λ b. b ≡ true) (λ b. b) (λ b e. e)

-- all rows are there that the head says, each number has room, and the text is short
pub record Whole (c : Contents) : Type 0 where
  pub nodes : length c.nodes ≡ c.head.nodes
  pub blocks : length c.blocks ≡ c.head.blocks
  pub terms : length c.terms ≡ c.head.terms
  pub fit : NumbersFit c
  pub short : length (text_of c) ≤ most_bytes

abbrev pub whole_tests : Contents → List Bool
whole_tests c =
    eqb (length c.nodes) c.head.nodes ∷ (eqb (length c.blocks) c.head.blocks ∷ (eqb (length c.terms) c.head.terms ∷ (leb (text_length c) most_bytes
    ∷ (row_fits head_form c.head ∷ (list_all (row_fits node_form) c.nodes ∷ (list_all (row_fits block_form) c.blocks
    ∷ (list_all (row_fits term_form) c.terms ∷ (list_all (row_fits mark_form) c.marks ∷ (asked_fits c.asked ∷ [])))))))))

pub whole : (c : Contents) → each_passes (whole_tests c) ≡ true → Whole c
whole c e =
    let p = each (whole_tests c) e in
    let rows = p.1.1.1.1 in
    let fit : NumbersFit c = record { head = rows.0; nodes = rows.1.0; blocks = rows.1.1.0; terms = rows.1.1.1.0; marks = rows.1.1.1.1.0; asked = rows.1.1.1.1.1.0 } in
    record {
      nodes = eqb-true (length c.nodes) c.head.nodes p.0;
      blocks = eqb-true (length c.blocks) c.head.blocks p.1.0;
      terms = eqb-true (length c.terms) c.head.terms p.1.1.0;
      fit = fit;
      short = le_trans (le_of_eq (length_text c fit)) (leb-true (text_length c) most_bytes p.1.1.1.0);
    }

asked_row_fits : (asked : Option AskedRow) → asked_fits asked ≡ true → (r : AskedRow) → asked ≡ Some r → RowFits asked_form r
asked_row_fits asked e r is = row_fits_tells asked_form r (ap asked_fits (sym is) ∙ e)

-- a line is not empty
no_line : {c : Contents} {line : List ℕ} (more : List ℕ) → Next c line → [] ≢ line ++ more
no_line more (Next.node r less fits) e = cc
no_line more (Next.block r there less fits) e = cc
no_line more (Next.term r there less fits) e = cc
no_line more (Next.mark r there none fits) e = cc
no_line more (Next.asked r there none fits) e = cc

pub reads_whole : (c : Contents) → Whole c → Reads (text_of c) c []
reads_whole c w = record {
  written = sym (append-nil (text_of c));
  in_order = record {
    few_nodes = le_of_eq w.nodes;
    few_blocks = le_of_eq w.blocks;
    few_terms = le_of_eq w.terms;
    blocks_after = λ _. w.nodes;
    terms_after = λ _. (w.nodes, w.blocks);
    marks_after = λ _. ((w.nodes, w.blocks), w.terms);
    asked_after = λ _. ((w.nodes, w.blocks), w.terms);
  };
  fitting = record {
    head = row_fits_tells head_form c.head w.fit.head;
    nodes = all_fit_tells node_form c.nodes w.fit.nodes;
    blocks = all_fit_tells block_form c.blocks w.fit.blocks;
    terms = all_fit_tells term_form c.terms w.fit.terms;
    marks = all_fit_tells mark_form c.marks w.fit.marks;
    asked = asked_row_fits c.asked w.fit.asked;
  };
  stops = λ line more next. no_line more next;
}
