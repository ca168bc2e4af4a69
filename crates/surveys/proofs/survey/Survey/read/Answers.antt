use Rattle.std.proofs.Common.{◌*◌, length, take, drop, ap, ◌∙◌}
use Rattle.queries.proofs.Questions.{rules_kept}
use Rattle.surveys.specs.Queried.{table_in}
use Rattle.surveys.proofs.Rows.{row_end, reads_row, reads_refused}
use Rattle.surveys.proofs.survey.Survey.read.Goals as goal

pub returns-in_err-check_reading-clause-rules : goal.returns-in_err-check_reading-clause-rules
returns-in_err-check_reading-clause-rules g c m s marks waiting st =
    reads_refused st (rules_kept c.args.queried.now.query.now) c.args.term c.from_residual.result _ c.from_residual.ensures.1 c.in_err-check_reading.ensures

pub row_of-requires : goal.row_of-requires
row_of-requires g c =
    let r = c.in_ok-check_reading.ensures in
    rw c.node_count.ensures (row_end c.args.term (g.S.Shape.count c.args.queried.now.shape.now) (length (table_in c.args.queried.now).terms) (length c.args.values.now) r.stands r.fits.room)

pub returns-clause-rules : goal.returns-clause-rules
returns-clause-rules g c m s marks waiting st =
    reads_row st (rules_kept c.args.queried.now.query.now) c.args.term _
    (c.row_of.ensures.content ∙ ap (λ n. take n (drop (c.args.term * n) c.args.values.now)) c.node_count.ensures) c.in_ok-check_reading.ensures
