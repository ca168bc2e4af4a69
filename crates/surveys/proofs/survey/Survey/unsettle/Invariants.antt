use Rattle.std.proofs.Common.{◌++◌, drop}
use Rattle.queries.specs.Queries.{table_of}
use Rattle.surveys.specs.Resets.{Unsettles}
use Rattle.surveys.proofs.survey.Survey.unsettle.Given as goal

abbrev pub invariant-loop-block : goal.invariant-loop-block
invariant-loop-block l = Unsettles (table_of l.query) l.tag l.block l.fn.self.settled (l.flag-items ++ drop l.end l.fn.self.settled)
