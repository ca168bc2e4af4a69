-- Number fields as they are written: the digits stand at the right end of the columns, blanks before them.
use Rattle.std.specs.Prelude.{◌≡◌, ℕ, ◌+◌, ◌-◌, ◌*◌, ◌^◌, ◌<◌, ◌≤◌, List, [], ◌∷◌, ◌++◌, length, replicate, decimal}

-- the columns that are written for a number
abbrev pub field : ℕ → ℕ → List ℕ
field width n = replicate (width - length (decimal n)) 32 ++ decimal n

-- a field of at most ten columns shows n: it is what is written for n at its width
pub record Shows (columns : List ℕ) (n : ℕ) : Type 0 where
  pub narrow : length columns ≤ 10
  pub room : n < 10 ^ length columns
  pub written : columns ≡ field (length columns) n

-- the number that digits write, with a number before them
abbrev pub number_after : ℕ → List ℕ → ℕ
number_after n [] = n
number_after n (c ∷ cs) = number_after (10 * n + (c - 48)) cs

abbrev pub number : List ℕ → ℕ
number cs = number_after 0 cs
