use Rattle.std.proofs.Common.{rules}
use Rattle.shapes.proofs.linked.LinkedShape.fill.Goals as goal

pub returns : goal.returns
returns c = record { laws = (c.in_ok-is_lawful.ensures.0 (search rules)).1; same = search rules }
