-- The order of yes and no is implication.
use Rattle.std.specs.Prelude.{Bool, T}
use Rattle.std.proofs.Common.{rules}
use Rattle.grades.specs.Kind.{Below}
use Rattle.grades.specs.YesNo.{yes_no}

pub implied : (a b : Bool) → Below yes_no a b → T a → T b
implied a b h = search rules

pub implies : (a b : Bool) → (T a → T b) → Below yes_no a b
implies a b h = search rules
