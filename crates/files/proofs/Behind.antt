-- The contents behind a head, section by section: in order, fitting and written as they are.
use Rattle.std.proofs.Common.{◌≡◌, ℕ, ◌≤◌, List, [], ◌++◌, length, Some, None, Option, refl, sym, ap, ◌∙◌, append_assoc, arith}
use Rattle.files.specs.declared.fault.LineCause.{LineCause}
use Rattle.files.specs.declared.rows.AskedRow.{AskedRow}
use Rattle.files.specs.Contents.{Contents, Fitting, InOrder, Next, NodesThere, BlocksThere, TermsThere, asked_text, text_of, node, block, term, mark, asked}
use Rattle.files.specs.Lines.{AllFit, RowFits, row_text, rows_text, NoRow}
use Rattle.files.specs.Reading.{ReadTo, Stopped}
use Rattle.files.specs.Rows.{head_form, node_form, block_form, term_form, mark_form, asked_form}
use Rattle.files.specs.TakingRows.{TakesRows}
use Rattle.files.proofs.RowSections.{Section, all_fit, no_more_than, none_left, all_there, next, either, in_front}

-- the marks and the row that asks, in the last section
pub record Last (c : Contents) (text rest : List ℕ) : Type 0 where
  pub behind : List ℕ
  pub marks : TakesRows mark_form text c.marks behind
  pub asked_written : behind ≡ asked_text c.asked ++ rest
  pub asked_fits : (r : AskedRow) → c.asked ≡ Some r → RowFits asked_form r
  pub no_mark : c.asked ≡ None → NoRow mark_form rest
  pub no_asked : c.asked ≡ None → NoRow asked_form rest

abbrev pub NoMarks : Contents → Type 0
NoMarks c = (c.marks ≡ []) × (c.asked ≡ None)

abbrev pub NoTerms : Contents → Type 0
NoTerms c = (c.terms ≡ []) × NoMarks c

abbrev pub NoBlocks : Contents → Type 0
NoBlocks c = (c.blocks ≡ []) × NoTerms c

abbrev pub Terms : Contents → List ℕ → List ℕ → Type 0
Terms c rest text = Section term_form c.terms c.head.terms text rest (NoMarks c) (λ behind. Last c behind rest)

abbrev pub Blocks : Contents → List ℕ → List ℕ → Type 0
Blocks c rest text = Section block_form c.blocks c.head.blocks text rest (NoTerms c) (Terms c rest)

abbrev pub Nodes : Contents → List ℕ → List ℕ → Type 0
Nodes c rest text = Section node_form c.nodes c.head.nodes text rest (NoBlocks c) (Blocks c rest)

module _ (c : Contents) (rest text : List ℕ) (s : Nodes c rest text) where
  blocks : NodesThere c → (behind : List ℕ) × Blocks c rest behind
  blocks there = next s there

  terms : BlocksThere c → (behind : List ℕ) × Terms c rest behind
  terms there = next (blocks there.0).1 there.1

  last : TermsThere c → (behind : List ℕ) × Last c behind rest
  last there = next (terms there.0).1 there.1

  nodes_there : (NoBlocks c → ⊥) → NodesThere c
  nodes_there more = all_there s more

  blocks_there : (NoTerms c → ⊥) → BlocksThere c
  blocks_there more = let there = nodes_there (λ e. more e.1) in (there, all_there (blocks there).1 more)

  terms_there : (NoMarks c → ⊥) → TermsThere c
  terms_there more = let there = blocks_there (λ e. more e.1) in (there, all_there (terms there).1 more)

  until_terms : (P : Type 0) → (NoTerms c → P) → ((behind : List ℕ) → Terms c rest behind → P) → P
  until_terms P f g = either P s (λ e. f e.1) (λ _ b. either P b f g)

  until_last : (P : Type 0) → (NoMarks c → P) → ((behind : List ℕ) → Last c behind rest → P) → P
  until_last P f g = until_terms P (λ e. f e.1) (λ _ t. either P t f g)

  in_order : InOrder c
  in_order = record {
    few_nodes = no_more_than s;
    few_blocks = either (length c.blocks ≤ c.head.blocks) s (λ e. rw e.0 (omega arith)) (λ _. no_more_than);
    few_terms = until_terms (length c.terms ≤ c.head.terms) (λ e. rw e.0 (omega arith)) (λ _. no_more_than);
    blocks_after = λ more. nodes_there (λ e. more e.0);
    terms_after = λ more. blocks_there (λ e. more e.0);
    marks_after = λ more. terms_there (λ e. more e.0);
    asked_after = λ more. terms_there (λ e. more e.1);
  }

  fitting : RowFits head_form c.head → Fitting c
  fitting fits = record {
    head = fits;
    nodes = all_fit s;
    blocks = either (AllFit block_form c.blocks) s (λ e. rw e.0 tt) (λ _. all_fit);
    terms = until_terms (AllFit term_form c.terms) (λ e. rw e.0 tt) (λ _. all_fit);
    marks = until_last (AllFit mark_form c.marks) (λ e. rw e.0 tt) (λ _ l. l.marks.fit);
    asked = until_last ((r : AskedRow) → c.asked ≡ Some r → RowFits asked_form r) (λ e r is. absurd (cc (e.1, is))) (λ _ l. l.asked_fits);
  }

  stops : (line more : List ℕ) → Next c line → rest ≡ line ++ more → ⊥
  stops _ more (node r few f) e = none_left s few r more f e
  stops _ more (block r there few f) e = none_left (blocks there).1 few r more f e
  stops _ more (term r there few f) e = none_left (terms there).1 few r more f e
  stops _ more (mark r there yet f) e = (last there).1.no_mark yet r more f e
  stops _ more (asked r there yet f) e = (last there).1.no_asked yet r more f e

  behind_head : text ≡ (rows_text node_form c.nodes ++ (rows_text block_form c.blocks ++ (rows_text term_form c.terms ++ (rows_text mark_form c.marks ++ asked_text c.asked)))) ++ rest
  behind_head =
      in_front _ s (λ e. rw (e.0, e.1.0, e.1.1.0, e.1.1.1) refl) (λ _ b.
      in_front _ b (λ e. rw (e.0, e.1.0, e.1.1) refl) (λ _ t.
      in_front _ t (λ e. rw (e.0, e.1) refl) (λ _ l.
      l.marks.written ∙ ap (λ bs. rows_text mark_form c.marks ++ bs) l.asked_written ∙ sym (append_assoc (rows_text mark_form c.marks) (asked_text c.asked) rest))))

  written : row_text head_form c.head ++ text ≡ text_of c ++ rest
  written = ap (λ bs. row_text head_form c.head ++ bs) behind_head ∙ sym (append_assoc (row_text head_form c.head) _ rest)

  pub read_to : (fault : Option LineCause) → RowFits head_form c.head → Stopped c rest fault → ReadTo (row_text head_form c.head ++ text) c fault
  read_to fault fits stopped = record {
    rest = rest;
    reads = record { written = written; in_order = in_order; fitting = fitting fits; stops = stops };
    stopped = stopped;
  }
