-- Lines, of survey files and of listings: a letter, numbers in columns, letters behind them, and the end of the line.
use Rattle.std.specs.Prelude.{ℕ, ◌+◌, ◌^◌, ◌<◌, ◌≤◌, List, [], ◌∷◌, ◌++◌, ◌≢◌}
use Rattle.std.specs.List.{flat_map, AllByRecursion}
use Rattle.fields.specs.Fields.{field}
pub use Rattle.files.specs.declared.output.Column.{Column}

abbrev pub five : ℕ → Column
five n = record { width = 5; number = n }

abbrev pub ten : ℕ → Column
ten n = record { width = 10; number = n }

abbrev pub columns_text : List Column → List ℕ
columns_text = flat_map (λ c. field c.width c.number)

abbrev pub line_text : ℕ → List Column → List ℕ → List ℕ
line_text letter columns behind = letter ∷ (columns_text columns ++ (behind ++ (10 ∷ [])))

-- each number has room in its columns
abbrev pub InColumns : List Column → Type 0
InColumns = AllByRecursion (λ c. c.number < 10 ^ c.width)

-- how many columns a number may have
abbrev pub IsWidth : ℕ → Type 0
IsWidth w = (0 < w) × (w ≤ 10)

-- each number has so many columns, and room in them
abbrev pub ColumnsFit : List Column → Type 0
ColumnsFit columns = InColumns columns × AllByRecursion (λ c. IsWidth c.width) columns

abbrev pub widths : List Column → ℕ
widths [] = 0
widths (c ∷ cs) = c.width + widths cs

-- how long a line is that has nothing behind its columns
abbrev pub line_length : List Column → ℕ
line_length columns = 2 + widths columns

-- how the rows of one kind are written
pub record RowForm (R : Type 0) : Type 0 where
  pub letter : ℕ
  pub columns : R → List Column
  pub behind : R → List ℕ

abbrev pub row_text : {R : Type 0} → RowForm R → R → List ℕ
row_text form r = line_text form.letter (form.columns r) (form.behind r)

abbrev pub RowFits : {R : Type 0} → RowForm R → R → Type 0
RowFits form r = InColumns (form.columns r)

abbrev pub rows_text : {R : Type 0} → RowForm R → List R → List ℕ
rows_text form = flat_map (row_text form)

abbrev pub AllFit : {R : Type 0} → RowForm R → List R → Type 0
AllFit form = AllByRecursion (RowFits form)

-- no row of that form stands at the front of a text
abbrev pub NoRow : {R : Type 0} → RowForm R → List ℕ → Type 0
NoRow form text = (r : _) (more : List ℕ) → RowFits form r → text ≢ row_text form r ++ more
