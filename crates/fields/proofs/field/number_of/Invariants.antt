use Rattle.std.proofs.Common.{◌≡◌, ◌^◌, ◌<◌, drop}
use Rattle.std.specs.Str.{all_ascii_digits}
use Rattle.fields.specs.Fields.{number, number_after}
use Rattle.fields.proofs.field.number_of.Given as goal

-- what is left is digits where the whole is, and makes of n the number of the whole
abbrev pub invariant-loop-b : goal.invariant-loop-b
invariant-loop-b l =
    (all_ascii_digits (drop l.b-index l.digits) ≡ all_ascii_digits l.digits)
    × (number_after l.n (drop l.b-index l.digits) ≡ number l.digits)
    × (l.n < 10 ^ l.b-index)
