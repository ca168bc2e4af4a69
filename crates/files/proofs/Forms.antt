-- Lines of one form: where their columns or what stands behind them are missing, there is no line.
use Rattle.std.proofs.Common.{◌≡◌, ℕ, List, [], ◌∷◌, ◌++◌, map, get_or, drop, Err, Result, refl, sym, ap, ◌∙◌, append_assoc}
use Rattle.std.specs.Borrow.{Bor}
use Rattle.std.specs.Result.{IsErrAnd}
use Rattle.std.proofs.lemmas.List.{length-map}
use Rattle.files.specs.declared.fault.LineCause.{LineCause}
use Rattle.files.specs.Faults.{number_of_cause}
use Rattle.files.specs.Lines.{Column, RowForm, RowFits, row_text, NoRow}
use Rattle.files.specs.Taking.{AreWidths, FitWidths, Takes, TakesRow, columns_behind, in_widths}
use Rattle.files.proofs.Errors.{err_at}
use Rattle.files.proofs.Widths.{numbers_apart}

-- another letter, no line
pub no_letter : {R : Type 0} (form : RowForm R) (text : List ℕ) → (get_or text 0 0 ≡ form.letter → ⊥) → NoRow form text
no_letter form text other r more f e = other (ap (λ bs. get_or bs 0 0) e)

abbrev pub widths_in : List Column → List ℕ
widths_in = map (λ c. c.width)

abbrev pub numbers_in : List Column → List ℕ
numbers_in = map (λ c. c.number)

columns_again : (cs : List Column) → in_widths (widths_in cs) (numbers_in cs) ≡ cs
columns_again [] = refl
columns_again (c ∷ cs) = ap (λ ds. c ∷ ds) (columns_again cs)

module _ {R : Type 0} (form : RowForm R) {ws : List ℕ} (wide : (r : R) → widths_in (form.columns r) ≡ ws) where
  columns_are : (r : R) → in_widths ws (numbers_in (form.columns r)) ≡ form.columns r
  columns_are r = rw (← wide r) (columns_again (form.columns r))

  pub fit : (r : R) → RowFits form r → FitWidths ws (numbers_in (form.columns r))
  fit r f = (rw (← wide r) (length-map (form.columns r) (λ c. c.number) ∙ sym (length-map (form.columns r) (λ c. c.width))), rw (columns_are r) f)

  pub text_is : (r : R) (more : List ℕ) → row_text form r ++ more ≡ columns_behind form.letter ws (numbers_in (form.columns r)) ++ ((form.behind r ++ (10 ∷ [])) ++ more)
  text_is r more = rw (columns_are r) (simp append_assoc)

  -- no columns, no line
  pub no_columns : {text : List ℕ} (result : Result (R × Bor (List ℕ)) LineCause) (cause : LineCause) → IsErrAnd result (λ e. e ≡ cause) → Takes (columns_behind form.letter ws) (FitWidths ws) text (Err cause) → TakesRow form text result
  no_columns {text} result cause is (none, malformed) = err_at (TakesRow form text) result cause is (
    λ r more f e. none (numbers_in (form.columns r)) ((form.behind r ++ (10 ∷ [])) ++ more) (fit r f) (e ∙ text_is r more),
    malformed,
  )

  -- nothing behind the columns that may stand there, no line
  pub no_end : {text rest : List ℕ} (ns : List ℕ) (result : Result (R × Bor (List ℕ)) LineCause) (cause : LineCause) → IsErrAnd result (λ e. e ≡ cause) → AreWidths ws → FitWidths ws ns × (text ≡ columns_behind form.letter ws ns ++ rest)
      → ((r : R) (more : List ℕ) → rest ≡ (form.behind r ++ (10 ∷ [])) ++ more → ⊥) × (number_of_cause cause ≡ 12) → TakesRow form text result
  no_end {text} {rest} ns result cause is a (g, e) (none, malformed) = err_at (TakesRow form text) result cause is (
    λ r more f h. none r more (numbers_apart ws ns (numbers_in (form.columns r)) rest ((form.behind r ++ (10 ∷ [])) ++ more) a g (fit r f) (ap (drop 1) (sym e ∙ h ∙ text_is r more))).1,
    malformed,
  )
