use Rattle.std.proofs.Common.{sym, ◌∙◌, le-ltb}
use Rattle.grades.specs.Digits.{digit_past}
use Rattle.grades.proofs.stage_set.StageSet.holds_in.Goals as goal

-- no number of 32 bits has a one at a place from 32 on
pub returns-else-stage-lt-BITS : goal.returns-else-stage-lt-BITS
returns-else-stage-lt-BITS c =
    let beyond = c.if-stage-lt-BITS.false in
    le-ltb c.args.stage 32 beyond ∙ sym (digit_past 32 c.args.stage c.args.self.stages c.args.self.fits beyond)
