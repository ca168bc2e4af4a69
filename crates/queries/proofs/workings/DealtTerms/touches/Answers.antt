use Rattle.std.proofs.Common.{sym}
use Rattle.queries.proofs.Operands.{left_read, right_read}
use Rattle.queries.proofs.workings.DealtTerms.touches.Goals as goal

pub is_reached-requires-clause-term : goal.is_reached-requires-clause-term
is_reached-requires-clause-term c = c.requires.operands c.in-Some.operands.left (left_read c.args.term c.in-Some.operands (sym c.in-Some.ensures))

pub is_reached-requires-else-is_reached-clause-term : goal.is_reached-requires-else-is_reached-clause-term
is_reached-requires-else-is_reached-clause-term c = c.requires.operands c.in-Some.operands.right (right_read c.args.term c.in-Some.operands (sym c.in-Some.ensures))
