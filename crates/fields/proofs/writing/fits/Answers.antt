use Rattle.std.proofs.Common.{◌≤◌, arith, rules}
use Rattle.fields.proofs.Blanks.{ten_up}
use Rattle.fields.proofs.writing.fits.Goals as goal

pub returns-in_default : goal.returns-in_default
returns-in_default c =
    let wide : 20 ≤ c.args.width = omega arith in
    (λ _. (omega arith, omega (arith, ten_up 20 c.args.width wide)), λ _. search rules)
