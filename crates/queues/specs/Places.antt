-- The numbers that the table holds for what it says of an entry.
use Rattle.std.specs.Prelude.{ℕ, ◌+◌}
use Rattle.queues.specs.declared.place.Place.{Place}
use Rattle.queues.specs.declared.place.Place.TheVariants.{Idle, Last, Before}

abbrev pub code_of : Place → ℕ
code_of Idle = 0
code_of Last = 1
code_of (Before e) = e + 2
