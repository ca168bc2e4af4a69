-- The rows at the front of a text, as many as stand there.
use Rattle.std.proofs.Common.{◌≡◌, ℕ, zero, suc, ◌<◌, ◌≤◌, List, [], ◌∷◌, ◌++◌, length, Some, None, Option, ◌≢◌, refl, subst, sym, ap, ◌∙◌, append_assoc, arith}
use Rattle.std.proofs.lemmas.List.{length-append}
use Rattle.files.specs.declared.rows.AskedRow.{AskedRow}
use Rattle.files.specs.Contents.{asked_text}
use Rattle.files.specs.Lines.{RowForm, row_text, rows_text, RowFits, AllFit}
use Rattle.files.proofs.RowsDecided.{Begins, asked?}
use Rattle.files.specs.Rows.{asked_form}

-- the rows at the front of a text, up to n of them, where rows of the form may stand
pub record RowsFound {R : Type 0} (form : RowForm R) (May : Type 0) (n : ℕ) (text : List ℕ) : Type 0 where
  pub rows : List R
  pub rest : List ℕ
  pub fits : AllFit form rows
  pub written : text ≡ rows_text form rows ++ rest
  pub few : length rows ≤ n
  pub may : rows ≢ [] → May
  pub ends : May → length rows < n → Begins form rest → ⊥
  pub skips : (May → ⊥) → text ≡ rest

module _ {R : Type 0} (form : RowForm R) where
  none_found : {May : Type 0} (n : ℕ) (text : List ℕ) → (May → 0 < n → Begins form text → ⊥) → RowsFound form May n text
  none_found n text none = record { rows = []; rest = text; fits = tt; written = refl; few = omega arith; may = λ some. absurd (some refl); ends = none; skips = λ _. refl }

  module _ (row? : (text : List ℕ) → Dec (Begins form text)) where
    run : (May : Type 0) → May → (n : ℕ) (text : List ℕ) → RowsFound form May n text
    run May may zero text = none_found zero text (λ _ l. absurd (omega arith))
    run May may (suc n) text = elim (row? text) [
      | no none ↦ none_found (suc n) text (λ _ _. none)
      | yes b ↦
          let more = run May may n b.more in
          record {
            rows = b.row ∷ more.rows;
            rest = more.rest;
            fits = (b.fits, more.fits);
            written = b.written ∙ ap (λ l. row_text form b.row ++ l) more.written ∙ sym (append_assoc (row_text form b.row) (rows_text form more.rows) more.rest);
            few = let l = more.few in omega arith;
            may = λ some. may;
            ends = λ m l. more.ends m (omega arith);
            skips = λ n. absurd (n may);
          }
    ]

    pub rows_found : {May : Type 0} → Dec May → (n : ℕ) (text : List ℕ) → RowsFound form May n text
    rows_found {May = May} (yes may) n text = run May may n text
    rows_found (no not) n text = none_found n text (λ may. absurd (not may))

-- a text has no more rows than bytes
pub fewer : {R : Type 0} (form : RowForm R) (rows : List R) (rest : List ℕ) → length rows ≤ length (rows_text form rows ++ rest)
fewer form [] rest = omega arith
fewer form (r ∷ rows) rest = omega (arith, fewer form rows rest, length-append (rows_text form rows) rest, length-append (row_text form r ++ rows_text form rows) rest, length-append (row_text form r) (rows_text form rows))

-- the same of the row that asks
pub record AskedFound (May : Type 0) (text : List ℕ) : Type 0 where
  pub asked : Option AskedRow
  pub rest : List ℕ
  pub fits : (r : AskedRow) → asked ≡ Some r → RowFits asked_form r
  pub written : text ≡ asked_text asked ++ rest
  pub may : asked ≢ None → May
  pub ends : May → asked ≡ None → Begins asked_form rest → ⊥

pub asked_found : {May : Type 0} → Dec May → (text : List ℕ) → AskedFound May text
asked_found (no not) text = record { asked = None; rest = text; fits = λ r e. cc; written = refl; may = λ some. absurd (some refl); ends = λ may. absurd (not may) }
asked_found (yes may) text = elim (asked? text) [
  | no none ↦ record { asked = None; rest = text; fits = λ r e. cc; written = refl; may = λ some. may; ends = λ _ _. none }
  | yes b ↦ record { asked = Some b.row; rest = b.more; fits = λ r e. let same : b.row ≡ r = cc in subst (RowFits asked_form) same b.fits; written = b.written; may = λ _. may; ends = λ _ e. cc }
]
