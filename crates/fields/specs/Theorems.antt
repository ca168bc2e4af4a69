-- What is proved of fields.
use Rattle.std.specs.Prelude.{◌≡◌, ℕ, ◌^◌, ◌<◌, ◌≤◌, ◌↔◌}
use Rattle.fields.specs.Fields.{field, Shows}

-- what is written for a number shows it, and no other
abbrev pub ReadBack : Type 0
ReadBack = (w n m : ℕ) → 0 < w → w ≤ 10 → n < 10 ^ w → Shows (field w n) m ↔ (m ≡ n)
