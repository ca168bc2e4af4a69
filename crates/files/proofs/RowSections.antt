-- A section of a text: the rows of one kind, as many as are wanted, and then another section; or fewer, and then no such row.
use Rattle.std.proofs.Common.{◌≡◌, ℕ, ◌<◌, ◌≤◌, List, [], ◌++◌, length, sym, ap, ◌∙◌, append-nil, append_assoc, arith}
use Rattle.files.specs.Lines.{RowForm, AllFit, rows_text, NoRow}
use Rattle.files.specs.TakingRows.{TakesRows}

pub data Section {R : Type 0} (form : RowForm R) (rows : List R) (wanted : ℕ) (text rest : List ℕ) (Empty : Type 0) (Then : List ℕ → Type 0) : Type 0 where
  short : TakesRows form text rows rest → length rows < wanted → NoRow form rest → Empty → Section form rows wanted text rest Empty Then
  full : (behind : List ℕ) → TakesRows form text rows behind → length rows ≡ wanted → Then behind → Section form rows wanted text rest Empty Then

module _ {R : Type 0} {form : RowForm R} {rows : List R} {wanted : ℕ} {text rest : List ℕ} {Empty : Type 0} {Then : List ℕ → Type 0} where
  pub all_fit : Section form rows wanted text rest Empty Then → AllFit form rows
  all_fit (short t few none e) = t.fit
  all_fit (full behind t there next) = t.fit

  pub no_more_than : Section form rows wanted text rest Empty Then → length rows ≤ wanted
  no_more_than (short t few none e) = omega arith
  no_more_than (full behind t there next) = omega arith

  pub none_left : Section form rows wanted text rest Empty Then → length rows < wanted → NoRow form rest
  none_left (short t few none e) less = none
  none_left (full behind t there next) less = absurd (omega arith)

  pub all_there : Section form rows wanted text rest Empty Then → (Empty → ⊥) → length rows ≡ wanted
  all_there (short t few none e) more = absurd (more e)
  all_there (full behind t there next) more = there

  pub next : Section form rows wanted text rest Empty Then → length rows ≡ wanted → (behind : List ℕ) × Then behind
  next (short t few none e) there = absurd (omega arith)
  next (full behind t there section) _ = (behind, section)

  pub either : (P : Type 0) → Section form rows wanted text rest Empty Then → (Empty → P) → ((behind : List ℕ) → Then behind → P) → P
  either P (short t few none e) f g = f e
  either P (full behind t there section) f g = g behind section

  -- what is written: the rows, then what is written behind them
  pub in_front : (others : List ℕ) → Section form rows wanted text rest Empty Then → (Empty → others ≡ []) → ((behind : List ℕ) → Then behind → behind ≡ others ++ rest) → text ≡ (rows_text form rows ++ others) ++ rest
  in_front others (short t few none e) f g = rw (f e, append-nil) t.written
  in_front others (full behind t there section) f g = t.written ∙ ap (λ bs. rows_text form rows ++ bs) (g behind section) ∙ sym (append_assoc (rows_text form rows) others rest)
