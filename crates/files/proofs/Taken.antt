-- Rows taken off the front of a text, one behind the other, and where that stops.
use Rattle.std.proofs.Common.{◌≡◌, ℕ, ◌<◌, List, [], ◌∷◌, ◌++◌, length, get_or, Err, refl, sym, ap, ◌∙◌, append_assoc, arith}
use Rattle.std.proofs.ByRecursion.{All-push}
use Rattle.std.proofs.lemmas.List.{length-append, flat_map_more}
use Rattle.files.specs.declared.contents.Stop.{Stop}
use Rattle.files.specs.declared.contents.Stop.TheVariants.{Line, NoMemory}
use Rattle.files.specs.declared.fault.LineCause.{LineCause}
use Rattle.files.specs.Lines.{RowForm, RowFits, row_text, rows_text}
use Rattle.files.specs.declared.rows.MarkRow.{MarkRow}
use Rattle.files.specs.Rows.{mark_form, asked_form}
use Rattle.files.specs.TakingRows.{AddsRow, NoneAdded, StopsBehind, TakesMarks, TakesMany, TakesRows}
use Rattle.files.proofs.Forms.{no_letter}

module _ {R : Type 0} (form : RowForm R) where
  pub takes_none : (text : List ℕ) (rows : List R) → rows ≡ [] → TakesRows form text rows text
  takes_none text rows e = record { fit = rw e tt; written = rw e refl }

  pub takes_more : (text rest behind : List ℕ) (rows after : List R) → TakesRows form text rows rest → AddsRow form rows rest after behind → TakesRows form text after behind
  takes_more text rest behind rows after t a = record {
    fit = rw a.added (All-push (RowFits form) rows a.row t.fit a.fits);
    written = t.written ∙ rw (a.added, a.written) joined;
  }
    where
      joined : rows_text form rows ++ (row_text form a.row ++ behind) ≡ rows_text form (rows ++ (a.row ∷ [])) ++ behind
      joined = sym (append_assoc (rows_text form rows) (row_text form a.row) behind) ∙ ap (λ bs. bs ++ behind) (flat_map_more (row_text form) [] rows a.row)

  pub shorter : (rest behind : List ℕ) (rows after : List R) → AddsRow form rows rest after behind → length behind < length rest
  shorter rest behind rows after a = omega (arith, ap length a.written, length-append (row_text form a.row) behind)

  stops_behind : (text rest : List ℕ) (rows after : List R) (cause : LineCause) → TakesRows form text rows rest → NoneAdded form rows rest after (Line cause) → StopsBehind form text after cause
  stops_behind text rest rows after cause t none = record { rest = rest; takes = rw none.2 t; none = none.0; malformed = none.1 }

  pub many_stop : (text rest : List ℕ) (rows after : List R) (most : ℕ) (why : Stop) → TakesRows form text rows rest → length rows < most → NoneAdded form rows rest after why → TakesMany form most text after (Err why)
  many_stop text rest rows after most (Line cause) t few none = (stops_behind text rest rows after cause t none, rw none.2 few)
  many_stop text rest rows after most NoMemory t few none = tt

pub marks_stop : (text rest : List ℕ) (rows after : List MarkRow) (why : Stop) → TakesRows mark_form text rows rest → get_or rest 0 0 ≡ 77 → NoneAdded mark_form rows rest after why → TakesMarks text after (Err why)
unfolding stops_behind
marks_stop text rest rows after (Line cause) t begins none = (stops_behind mark_form text rest rows after cause t none, no_letter asked_form rest (λ e. omega arith))
marks_stop text rest rows after NoMemory t begins none = tt
