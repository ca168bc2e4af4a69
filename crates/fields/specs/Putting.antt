-- A number put into columns.
use Rattle.std.specs.Prelude.{◌≡◌, ℕ, ◌^◌, ◌<◌, Bool, true, false, List, length}
use Rattle.fields.specs.Fields.{field}

-- a number has no more digits than there are columns; each has one at least
abbrev pub Fits : ℕ → ℕ → Type 0
Fits width n = (0 < width) × (n < 10 ^ width)

-- a number that fits the columns fills them; of another they stay as they were
abbrev pub Puts : List ℕ → ℕ → List ℕ → Bool → Type 0
Puts before n after true = Fits (length before) n × (after ≡ field (length before) n)
Puts before n after false = (Fits (length before) n → ⊥) × (after ≡ before)
