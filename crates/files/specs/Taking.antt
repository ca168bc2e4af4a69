-- What is taken off the front of a text.
use Rattle.std.specs.Prelude.{◌≡◌, ℕ, List, [], ◌∷◌, ◌++◌, length, Ok, Err, Result, ◌≢◌}
use Rattle.std.specs.Borrow.{Bor}
use Rattle.std.specs.List.{AllByRecursion}
use Rattle.files.specs.declared.fault.LineCause.{LineCause}
use Rattle.files.specs.Faults.{number_of_cause}
use Rattle.files.specs.Lines.{Column, RowForm, InColumns, IsWidth, RowFits, columns_text, row_text}

-- the text begins with what is written for a value that fits, and goes on with the rest; or it begins with what is written for none, and is malformed
abbrev pub Takes : {A : Type 0} → (A → List ℕ) → (A → Type 0) → List ℕ → Result (A × Bor (List ℕ)) LineCause → Type 0
Takes written Fits text (Ok (x, rest)) = Fits x × (text ≡ written x ++ rest.now)
Takes written Fits text (Err cause) = ((x : _) (more : List ℕ) → Fits x → text ≢ written x ++ more) × (number_of_cause cause ≡ 12)

-- a line of that form
abbrev pub TakesRow : {R : Type 0} → RowForm R → List ℕ → Result (R × Bor (List ℕ)) LineCause → Type 0
TakesRow form = Takes (row_text form) (RowFits form)

-- the text begins with these letters, or it does not
abbrev pub TakesText : List ℕ → List ℕ → Result (Bor (List ℕ)) LineCause → Type 0
TakesText written text (Ok rest) = text ≡ written ++ rest.now
TakesText written text (Err cause) = ((more : List ℕ) → text ≢ written ++ more) × (number_of_cause cause ≡ 12)

-- numbers in columns of these widths
abbrev pub in_widths : List ℕ → List ℕ → List Column
in_widths [] numbers = []
in_widths (w ∷ ws) [] = []
in_widths (w ∷ ws) (n ∷ ns) = record { width = w; number = n } ∷ in_widths ws ns

abbrev pub AreWidths : List ℕ → Type 0
AreWidths = AllByRecursion IsWidth

-- one number for each width, with room in its columns
abbrev pub FitWidths : List ℕ → List ℕ → Type 0
FitWidths widths numbers = (length numbers ≡ length widths) × InColumns (in_widths widths numbers)

-- a letter, and numbers in columns of these widths behind it
abbrev pub columns_behind : ℕ → List ℕ → List ℕ → List ℕ
columns_behind letter widths numbers = letter ∷ columns_text (in_widths widths numbers)
