use Rattle.std.proofs.Common.{length}
use Rattle.surveys.specs.Standing.{Fits, lent}
use Rattle.surveys.specs.Queried.{tree_in, table_in}
use Rattle.surveys.specs.Stepping.{with_current}
use Rattle.surveys.proofs.Runs.{Made}
use Rattle.surveys.proofs.survey.Survey.run.Given as goal

abbrev pub invariant-loop-made : goal.invariant-loop-made
invariant-loop-made g l = Fits (with_current l.survey l.current) (tree_in g.S.Shape l.queried).count (length (table_in l.queried).terms) (lent l.marks l.values l.waiting) × Made g.G.Grade.kind (tree_in g.S.Shape l.queried) (table_in l.queried) l.made l.initial.self (lent l.marks l.initial.values l.initial.waiting) (with_current l.survey l.current) (lent l.marks l.values l.waiting)
