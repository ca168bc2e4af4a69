use Rattle.queries.specs.Rows.{rows_of}
use Rattle.queries.proofs.Rules.{checked}
use Rattle.queries.proofs.rows.QueryTable.check.Goals as goal

pub returns : goal.returns
returns c = checked (rows_of c.args.self) (c.in_ok-check_frame.ensures) c.check_terms.result c.check_terms.ensures
