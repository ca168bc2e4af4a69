use Rattle.std.proofs.Common.{◌∙◌}
use Rattle.shapes.proofs.Verdicts.{verdict}
use Rattle.shapes.proofs.linked.filling.is_lawful.Goals as goal

pub returns : goal.returns
returns c = verdict c.args.rows.now c.deref.result.now c.all_certified.result c.requires (c.deref.ensures.value ∙ c.in_ok-levels.ensures) c.all_certified.ensures
