-- Every file that begins with a head has a reading.
use Rattle.std.proofs.Common.{◌≡◌, ℕ, suc, ◌<◌, List, ◌++◌, length, None, ◌≢◌, sym, ap, ◌∙◌, arith}
use native.Mathlib.Decide.{ℕ_discrete}
use Rattle.surveys.proofs.Decisions.{both}
use Rattle.files.specs.Contents.{Contents, Reads, InOrder, Fitting, Next, asked_text}
use Rattle.files.specs.Contents.Next.{node, block, term, mark, asked}
use Rattle.files.specs.Lines.{row_text, rows_text}
use Rattle.files.specs.Rows.{head_form, node_form, block_form, term_form, mark_form}
use Rattle.files.proofs.OneReading.{from_nodes, in_parts, none_asked}
use Rattle.files.proofs.RowsDecided.{Begins, node?, block?, term?, mark?}
use Rattle.files.proofs.RowsFound.{RowsFound, AskedFound, rows_found, asked_found, fewer}

module _ (file : List ℕ) (h : Begins head_form file) where
  ns : RowsFound node_form (Unit {0}) h.row.nodes h.more
  ns = rows_found node_form node? (yes tt) h.row.nodes h.more

  abbrev AllNodes : Type 0
  AllNodes = length ns.rows ≡ h.row.nodes

  all_nodes? : Dec AllNodes
  all_nodes? = ℕ_discrete (length ns.rows) h.row.nodes

  bs : RowsFound block_form AllNodes h.row.blocks ns.rest
  bs = rows_found block_form block? all_nodes? h.row.blocks ns.rest

  abbrev AllBlocks : Type 0
  AllBlocks = AllNodes × (length bs.rows ≡ h.row.blocks)

  all_blocks? : Dec AllBlocks
  all_blocks? = both all_nodes? (λ _. ℕ_discrete (length bs.rows) h.row.blocks)

  ts : RowsFound term_form AllBlocks h.row.terms bs.rest
  ts = rows_found term_form term? all_blocks? h.row.terms bs.rest

  abbrev AllTerms : Type 0
  AllTerms = AllBlocks × (length ts.rows ≡ h.row.terms)

  all_terms? : Dec AllTerms
  all_terms? = both all_blocks? (λ _. ℕ_discrete (length ts.rows) h.row.terms)

  ms : RowsFound mark_form AllTerms (suc (length ts.rest)) ts.rest
  ms = rows_found mark_form mark? all_terms? (suc (length ts.rest)) ts.rest

  q : AskedFound AllTerms ms.rest
  q = asked_found all_terms? ms.rest

  abbrev found : Contents
  found = record { head = h.row; nodes = ns.rows; blocks = bs.rows; terms = ts.rows; marks = ms.rows; asked = q.asked }

  in_order : InOrder found
  in_order = record { few_nodes = ns.few; few_blocks = bs.few; few_terms = ts.few; blocks_after = bs.may; terms_after = ts.may; marks_after = ms.may; asked_after = q.may }

  fitting : Fitting found
  fitting = record { head = h.fits; nodes = ns.fits; blocks = bs.fits; terms = ts.fits; marks = ms.fits; asked = q.fits }

  written : h.more ≡ from_nodes found q.rest
  written =
      ns.written ∙ ap (λ l. rows_text node_form ns.rows ++ l) (
      bs.written ∙ ap (λ l. rows_text block_form bs.rows ++ l) (
      ts.written ∙ ap (λ l. rows_text term_form ts.rows ++ l) (
      ms.written ∙ ap (λ l. rows_text mark_form ms.rows ++ l) q.written)))

  -- where the rows of one section are not all there, no more come behind it
  from_asked_on : q.asked ≡ None → ms.rest ≡ q.rest
  from_asked_on none = q.written ∙ ap (λ a. asked_text a ++ q.rest) none

  from_marks_on : (AllTerms → ⊥) → ts.rest ≡ q.rest
  from_marks_on not = ms.skips not ∙ from_asked_on (none_asked q.asked (λ some. not (q.may some)))

  from_terms_on : (AllBlocks → ⊥) → bs.rest ≡ q.rest
  from_terms_on not = ts.skips not ∙ from_marks_on (λ all. not all.0)

  from_blocks_on : (AllNodes → ⊥) → ns.rest ≡ q.rest
  from_blocks_on not = bs.skips not ∙ from_terms_on (λ all. not all.0)

  few_marks : length ms.rows < suc (length ts.rest)
  few_marks = omega (arith, fewer mark_form ms.rows ms.rest, ap length ms.written)

  stops : (line more : List ℕ) → Next found line → q.rest ≢ line ++ more
  stops line more (node r few fits) e = ns.ends tt few (record { row = r; more = more; fits = fits; written = from_blocks_on (λ all. omega arith) ∙ e })
  stops line more (block r there few fits) e = bs.ends there few (record { row = r; more = more; fits = fits; written = from_terms_on (λ all. omega arith) ∙ e })
  stops line more (term r there few fits) e = ts.ends there few (record { row = r; more = more; fits = fits; written = from_marks_on (λ all. omega arith) ∙ e })
  stops line more (mark r there none fits) e = ms.ends there few_marks (record { row = r; more = more; fits = fits; written = from_asked_on none ∙ e })
  stops line more (asked r there none fits) e = q.ends there none (record { row = r; more = more; fits = fits; written = e })

  pub reading : (c : Contents) × ((rest : List ℕ) × Reads file c rest)
  reading = (found, (q.rest, record { written = h.written ∙ ap (λ l. row_text head_form h.row ++ l) written ∙ sym (in_parts found q.rest); in_order = in_order; fitting = fitting; stops = stops }))
