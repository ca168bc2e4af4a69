-- Where reading behind a head stops, and what is read by then.
use Rattle.std.proofs.Common.{◌≡◌, ℕ, List, [], ◌++◌, length, Some, None, Ok, Err, refl, ap, subst}
use Rattle.files.specs.declared.contents.Stop.{Stop}
use Rattle.files.specs.declared.contents.Stop.TheVariants.{Line, NoMemory}
use Rattle.files.specs.declared.fault.LineCause.{LineCause}
use Rattle.files.specs.declared.rows.AskedRow.{AskedRow}
use Rattle.files.specs.Contents.{Contents, Ended}
use Rattle.files.specs.Faults.{number_of_cause}
use Rattle.files.specs.Lines.{RowForm, RowFits, row_text, NoRow}
use Rattle.files.specs.Rows.{head_form, node_form, block_form, term_form, mark_form, asked_form}
use Rattle.files.specs.TakingRows.{ReadBehind, TakesMany, TakesMarks, TakesRows, headed}
use Rattle.files.proofs.RowSections.{short, full}
use Rattle.files.proofs.Behind.{Last, NoBlocks, NoMarks, NoTerms, Nodes, read_to}

-- rows are as many as are wanted
abbrev Complete : {R : Type 0} → RowForm R → List ℕ → List R → ℕ → List ℕ → Type 0
Complete form text rows wanted behind = TakesRows form text rows behind × (length rows ≡ wanted)

not_ended : (c : Contents) (rest : List ℕ) → c.asked ≡ None → Ended c rest → ⊥
not_ended c rest none e = e.1 none

pub no_marks : (c : Contents) → c ≡ headed c.head → NoMarks c
no_marks c fresh = (ap (λ d. d.marks) fresh, ap (λ d. d.asked) fresh)

pub no_terms : (c : Contents) → c ≡ headed c.head → NoTerms c
no_terms c fresh = (ap (λ d. d.terms) fresh, no_marks c fresh)

pub no_blocks : (c : Contents) → c ≡ headed c.head → NoBlocks c
no_blocks c fresh = (ap (λ d. d.blocks) fresh, no_terms c fresh)

module _ (c : Contents) (text : List ℕ) (fits : RowFits head_form c.head) where
  pub nodes_stop : NoBlocks c → (why : Stop) → TakesMany node_form c.head.nodes text c.nodes (Err why) → ReadBehind c.head text c (Err why)
  nodes_stop none NoMemory stop = tt
  nodes_stop none (Line cause) (s, few) = read_to c s.rest text (short s.takes few s.none none) (Some cause) fits (not_ended c s.rest none.1.1.1, s.malformed)

  module _ {to_blocks : List ℕ} (n : Complete node_form text c.nodes c.head.nodes to_blocks) where
    pub blocks_stop : NoTerms c → (why : Stop) → TakesMany block_form c.head.blocks to_blocks c.blocks (Err why) → ReadBehind c.head text c (Err why)
    blocks_stop none NoMemory stop = tt
    blocks_stop none (Line cause) (s, few) = read_to c s.rest text (full to_blocks n.0 n.1 (short s.takes few s.none none)) (Some cause) fits (not_ended c s.rest none.1.1, s.malformed)

    module _ {to_terms : List ℕ} (b : Complete block_form to_blocks c.blocks c.head.blocks to_terms) where
      pub terms_stop : NoMarks c → (why : Stop) → TakesMany term_form c.head.terms to_terms c.terms (Err why) → ReadBehind c.head text c (Err why)
      terms_stop none NoMemory stop = tt
      terms_stop none (Line cause) (s, few) = read_to c s.rest text (full to_blocks n.0 n.1 (full to_terms b.0 b.1 (short s.takes few s.none none))) (Some cause) fits (not_ended c s.rest none.1, s.malformed)

      module _ {to_marks : List ℕ} (t : Complete term_form to_terms c.terms c.head.terms to_marks) where
        with_last : (rest : List ℕ) → Last c to_marks rest → Nodes c rest text
        with_last rest l = full to_blocks n.0 n.1 (full to_terms b.0 b.1 (full to_marks t.0 t.1 l))

        not_asked : (rest : List ℕ) (cause : LineCause) → c.asked ≡ None → TakesRows mark_form to_marks c.marks rest → NoRow mark_form rest → NoRow asked_form rest → number_of_cause cause ≡ 12 → ReadBehind c.head text c (Err (Line cause))
        not_asked rest cause none m no_mark no_asked malformed = read_to c rest text (with_last rest l) (Some cause) fits (not_ended c rest none, malformed)
          where
            l : Last c to_marks rest
            l = record { behind = rest; marks = m; asked_written = rw none refl; asked_fits = λ row is. absurd (cc (none, is)); no_mark = λ _. no_mark; no_asked = λ _. no_asked }

        pub marks_stop : c.asked ≡ None → (why : Stop) → TakesMarks to_marks c.marks (Err why) → ReadBehind c.head text c (Err why)
        marks_stop none NoMemory stop = tt
        marks_stop none (Line cause) (s, no_asked) = not_asked s.rest cause none s.takes s.none no_asked s.malformed

        module _ {to_asked : List ℕ} (m : TakesRows mark_form to_marks c.marks to_asked × NoRow mark_form to_asked) where
          pub asked_stop : c.asked ≡ None → (cause : LineCause) → NoRow asked_form to_asked × (number_of_cause cause ≡ 12) → ReadBehind c.head text c (Err (Line cause))
          asked_stop none cause (no_asked, malformed) = not_asked to_asked cause none m.0 m.1 no_asked malformed

          module _ {row : AskedRow} (is : c.asked ≡ Some row) {rest : List ℕ} (a : RowFits asked_form row × (to_asked ≡ row_text asked_form row ++ rest)) where
            with_asked : Nodes c rest text
            with_asked = with_last rest (record {
              behind = to_asked;
              marks = m.0;
              asked_written = rw is a.1;
              asked_fits = λ other it. subst (RowFits asked_form) (cc (is, it)) a.0;
              no_mark = λ none. absurd (cc (is, none));
              no_asked = λ none. absurd (cc (is, none));
            })

            pub ends : rest ≡ [] → ReadBehind c.head text c (Ok tt)
            ends e = read_to c rest text with_asked None fits (e, λ none. absurd (cc (is, none)))

            pub goes_on : (rest ≡ [] → ⊥) → (cause : LineCause) → number_of_cause cause ≡ 12 → ReadBehind c.head text c (Err (Line cause))
            goes_on more cause malformed = read_to c rest text with_asked (Some cause) fits ((λ e. more e.0), malformed)
