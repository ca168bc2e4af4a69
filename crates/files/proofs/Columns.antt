-- Columns: how long the texts of some of them are.
use Rattle.std.proofs.Common.{◌≡◌, ℕ, zero, suc, ◌+◌, ◌^◌, ◌<◌, ◌≤◌, Bool, true, false, List, [], ◌∷◌, ◌++◌, length, get_or, take, refl, sym, ap, ◌∙◌, arith}
use Rattle.std.proofs.lemmas.List.{length-append, take_all, take_more, flat_map_more}
use Rattle.std.specs.List.{flat_map, AllByRecursion}
use Rattle.fields.proofs.Columns.{length_field}
use Rattle.fields.specs.Fields.{field}
use Rattle.fields.specs.Putting.{Fits, Puts}
use Rattle.files.specs.Lines.{Column, ColumnsFit, IsWidth, columns_text, line_length, line_text, widths}

all_at : {X : Type 0} (P : X → Type 0) (xs : List X) (i : ℕ) (d : X) → i < length xs → AllByRecursion P xs → P (get_or xs i d)
all_at P [] i d within all = absurd (omega arith)
all_at P (x ∷ xs) zero d within all = all.0
all_at P (x ∷ xs) (suc i) d within all = all_at P xs i d (omega arith) all.1

-- the texts of the first elements, and of the next one, are a part of those of all
part_length : {X : Type 0} (f : X → List ℕ) (xs : List X) (i : ℕ) (d : X) → i < length xs → length (flat_map f (take i xs)) + length (f (get_or xs i d)) ≤ length (flat_map f xs)
part_length f [] i d within = absurd (omega arith)
part_length f (x ∷ xs) zero d within = omega (arith, length-append (f x) (flat_map f xs))
part_length f (x ∷ xs) (suc i) d within = omega (arith, length-append (f x) (flat_map f xs), length-append (f x) (flat_map f (take i xs)), part_length f xs i d (omega arith))

pub length_columns : (columns : List Column) → ColumnsFit columns → length (columns_text columns) ≡ widths columns
length_columns [] fit = refl
length_columns (c ∷ cs) fit = omega (arith, length-append (field c.width c.number) (columns_text cs), length_columns cs (fit.0.1, fit.1.1), length_field c.width c.number fit.1.0.0 fit.0.0 fit.1.0.1)

pub length_line : (letter : ℕ) (columns : List Column) → ColumnsFit columns → length (line_text letter columns []) ≡ line_length columns
length_line letter columns fit = omega (arith, length_columns columns fit, length-append (columns_text columns) (10 ∷ []))

-- behind all columns of a line there is room for the end
pub end_room : (columns : List Column) → ColumnsFit columns → (letter i : ℕ) → length columns ≤ i → length (letter ∷ columns_text (take i columns)) < line_length columns
end_room columns fit letter i past = omega (arith, length_columns columns fit, ap (λ cs. length (columns_text cs)) (take_all i columns past))

module _ (columns : List Column) (i : ℕ) (d : Column) (within : i < length columns) (fit : ColumnsFit columns) where
  abbrev column : Column
  column = get_or columns i d

  one_to_ten : IsWidth column.width
  one_to_ten = all_at (λ c. IsWidth c.width) columns i d within fit.1

  pub column_fits : Fits column.width column.number
  column_fits = (one_to_ten.0, all_at (λ c. c.number < 10 ^ c.width) columns i d within fit.0)

  pub column_long : length (field column.width column.number) ≡ column.width
  column_long = length_field column.width column.number one_to_ten.0 column_fits.1 one_to_ten.1

  -- behind a letter and some columns of a line there is room for the next, and for the end
  pub column_room : (letter : ℕ) → length (letter ∷ columns_text (take i columns)) + column.width < line_length columns
  column_room letter = omega (arith, column_long, length_columns columns fit, part_length (λ c. field c.width c.number) columns i d within)

  pub columns_more : columns_text (take (i + 1) columns) ≡ columns_text (take i columns) ++ field column.width column.number
  columns_more = ap columns_text (take_more columns i d within) ∙ sym (flat_map_more (λ c. field c.width c.number) [] (take i columns) column)

-- what the columns hold once a number that fits them is put
pub put_fitting : (before after : List ℕ) (w n : ℕ) (done : Bool) → length before ≡ w → Fits w n → Puts before n after done → after ≡ field w n
put_fitting before after w n true long fits puts = puts.1 ∙ ap (λ k. field k n) long
put_fitting before after w n false long fits puts = absurd (puts.0 (rw long fits))
