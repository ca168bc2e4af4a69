use Rattle.queries.specs.Queries.{table_of}
use Rattle.surveys.proofs.Resets.{ResetWhere}
use Rattle.surveys.proofs.survey.Survey.reset_blocks.Given as goal

abbrev pub invariant-loop-block : goal.invariant-loop-block
invariant-loop-block g l = ResetWhere g.G.Grade.kind (table_of l.query) l.self.nodes (goal.F-post g l.named) l.block l.initial.values l.values
