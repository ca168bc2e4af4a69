use Rattle.std.proofs.Common.{◌≡◌, get_or, arith}
use Rattle.std.proofs.lemmas.List.{get_or_past}
use Rattle.files.specs.Rows.{mark_form}
use Rattle.files.specs.TakingRows.{TakesMarks}
use Rattle.files.proofs.Errors.{err_at}
use Rattle.files.proofs.Forms.{no_letter}
use Rattle.files.proofs.Taken.{takes_none, takes_more, marks_stop, shorter}
use Rattle.files.proofs.contents.take_marks.Goals as goal
use Rattle.files.proofs.contents.take_marks.Goals.{in_default, in_default-2}

pub loop-rest-init : goal.loop-rest-init
loop-rest-init c = takes_none mark_form c.args.text.now c.args.marks.now.items c.requires

pub loop-rest-preserved : goal.loop-rest-preserved
loop-rest-preserved c = takes_more mark_form c.args.text.now c.loop-rest.rest.now c.in_ok-rest.rest.now c.loop-rest.marks.items c.take_row.new.rows.items c.loop-rest.invariant c.in_ok-rest.ensures

pub loop-rest-smaller : goal.loop-rest-smaller
loop-rest-smaller c = shorter mark_form c.loop-rest.rest.now c.in_ok-rest.rest.now c.loop-rest.marks.items c.take_row.new.rows.items c.in_ok-rest.ensures

pub returns-in_err-rest : goal.returns-in_err-rest
returns-in_err-rest c = err_at (TakesMarks c.args.text.now c.take_row.new.rows.items) c.from_residual.result c.in_err-rest.field-0.0 c.from_residual.ensures.1
    (marks_stop c.args.text.now c.loop-rest.rest.now c.loop-rest.marks.items c.take_row.new.rows.items c.in_err-rest.field-0.0 c.loop-rest.invariant (grind arith) c.in_err-rest.ensures)

pub returns : goal.returns
returns c = (c.loop-rest.invariant, no_letter mark_form c.loop-rest.rest.now other)
  where
    other : get_or c.loop-rest.rest.now 0 0 ≡ 77 → ⊥
    other e = elim c.if-rest-lt1.branch [ in_default w ↦ omega (arith, get_or_past c.loop-rest.rest.now 0 0 (omega arith)) | in_default-2 w ↦ (grind arith) ]
