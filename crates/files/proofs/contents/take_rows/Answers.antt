use Rattle.std.proofs.Common.{◌+◌, refl, ap, ◌∙◌}
use Rattle.std.proofs.lemmas.List.{length_push}
use Rattle.files.specs.TakingRows.{TakesMany}
use Rattle.files.proofs.Errors.{err_at}
use Rattle.files.proofs.Taken.{takes_none, takes_more, many_stop}
use Rattle.files.proofs.contents.take_rows.Goals as goal

pub loop-init : goal.loop-init
loop-init g c = (takes_none g.R.Row.form c.args.text.now c.args.rows.now.items c.requires, rw c.requires refl)

pub loop-preserved : goal.loop-preserved
loop-preserved g c = (
  takes_more g.R.Row.form c.args.text.now c.loop.rest.now c.in_ok-rest.rest.now c.loop.rows.items c.take_row.new.rows.items c.loop.invariant.0 c.in_ok-rest.ensures,
  rw c.in_ok-rest.ensures.added (length_push c.loop.rows.items c.in_ok-rest.ensures.row ∙ ap (λ n. n + 1) c.loop.invariant.1),
)

pub returns-in_err-rest : goal.returns-in_err-rest
returns-in_err-rest g c = err_at (TakesMany g.R.Row.form c.args.most c.args.text.now c.take_row.new.rows.items) c.from_residual.result c.in_err-rest.field-0.0 c.from_residual.ensures.1
    (many_stop g.R.Row.form c.args.text.now c.loop.rest.now c.loop.rows.items c.take_row.new.rows.items c.args.most c.in_err-rest.field-0.0 c.loop.invariant.0 (rw c.loop.invariant.1 c.loop-test.true) c.in_err-rest.ensures)
