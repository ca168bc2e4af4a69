-- A number at the front of a text.
use Rattle.std.specs.Prelude.{◌≡◌, ℕ, ◌^◌, ◌<◌, ◌≤◌, List, ◌++◌, Some, None, Option}
use Rattle.std.specs.Borrow.{Bor}
use Rattle.fields.specs.Fields.{field}

-- the text begins with what is written for n in so many columns, and goes on with the rest
pub record Begins (width : ℕ) (text : List ℕ) (n : ℕ) (rest : List ℕ) : Type 0 where
  pub some : 0 < width
  pub narrow : width ≤ 10
  pub room : n < 10 ^ width
  pub written : text ≡ field width n ++ rest

abbrev pub Takes : ℕ → List ℕ → Option (ℕ × Bor (List ℕ)) → Type 0
Takes width text None = (n : ℕ) (rest : List ℕ) → Begins width text n rest → ⊥
Takes width text (Some (n, rest)) = Begins width text n rest.now
