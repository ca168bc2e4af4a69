-- What a write to the front of a table leaves.
use Rattle.std.specs.Prelude.{◌≡◌, ℕ, ◌≤◌, List, length, slice_index_or}

-- the table is as long as before, and its places from n on are as they were
pub record Within {A : Type 0} (n : ℕ) (before after : List A) : Type 0 where
  pub same_length : length after ≡ length before
  pub beyond : (p : ℕ) (d : A) → n ≤ p → slice_index_or after p d ≡ slice_index_or before p d
