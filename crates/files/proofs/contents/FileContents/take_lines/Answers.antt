use Rattle.std.proofs.Common.{Err, Some, vec_items, length, refl, sym, ap, subst, arith}
use Rattle.std.proofs.lemmas.List.{nil_from_length}
use Rattle.files.specs.declared.contents.Stop.TheVariants.{Line}
use Rattle.files.specs.declared.fault.LineCause.TheVariants.{OtherLine}
use Rattle.files.specs.Contents.{contents_of}
use Rattle.files.specs.TakingRows.{ReadBehind}
use Rattle.files.proofs.Errors.{err_at}
use Rattle.files.proofs.Stops.{no_blocks, no_terms, no_marks, nodes_stop, blocks_stop, terms_stop, marks_stop, asked_stop, ends, goes_on}
use Rattle.files.proofs.contents.FileContents.take_lines.Goals as goal

pub returns-in_err-rest : goal.returns-in_err-rest
returns-in_err-rest c =
    let before = contents_of c.args.self.now in
    let after = record before { nodes = vec_items c.take_rows.new.rows } in
    err_at (ReadBehind before.head c.args.text.now after) c.from_residual.result c.in_err-rest.field-0.0 c.from_residual.ensures.1
    (nodes_stop after c.args.text.now c.requires.fits (no_blocks before c.requires.fresh) c.in_err-rest.field-0.0 c.in_err-rest.ensures)

pub returns-in_err-rest-2 : goal.returns-in_err-rest-2
returns-in_err-rest-2 c =
    let before = contents_of c.args.self.now in
    let after = record before { nodes = vec_items c.take_rows.new.rows; blocks = vec_items c.take_rows-2.new.rows } in
    err_at (ReadBehind before.head c.args.text.now after) c.from_residual-in_err-rest-2.result c.in_err-rest-2.field-0.0 c.from_residual-in_err-rest-2.ensures.1
    (blocks_stop after c.args.text.now c.requires.fits c.in_ok-rest.ensures (no_terms before c.requires.fresh) c.in_err-rest-2.field-0.0 c.in_err-rest-2.ensures)

pub returns-in_err-rest-3 : goal.returns-in_err-rest-3
returns-in_err-rest-3 c =
    let before = contents_of c.args.self.now in
    let after = record before { nodes = vec_items c.take_rows.new.rows; blocks = vec_items c.take_rows-2.new.rows; terms = vec_items c.take_rows-3.new.rows } in
    err_at (ReadBehind before.head c.args.text.now after) c.from_residual-in_err-rest-3.result c.in_err-rest-3.field-0.0 c.from_residual-in_err-rest-3.ensures.1
    (terms_stop after c.args.text.now c.requires.fits c.in_ok-rest.ensures c.in_ok-rest-2.ensures (no_marks before c.requires.fresh) c.in_err-rest-3.field-0.0 c.in_err-rest-3.ensures)

pub returns-in_err-rest-4 : goal.returns-in_err-rest-4
returns-in_err-rest-4 c =
    let before = contents_of c.args.self.now in
    let after = record before { nodes = vec_items c.take_rows.new.rows; blocks = vec_items c.take_rows-2.new.rows; terms = vec_items c.take_rows-3.new.rows; marks = vec_items c.take_marks.new.marks } in
    err_at (ReadBehind before.head c.args.text.now after) c.from_residual-in_err-rest-4.result c.in_err-rest-4.field-0.0 c.from_residual-in_err-rest-4.ensures.1
    (marks_stop after c.args.text.now c.requires.fits c.in_ok-rest.ensures c.in_ok-rest-2.ensures c.in_ok-rest-3.ensures (no_marks before c.requires.fresh).1 c.in_err-rest-4.field-0.0 c.in_err-rest-4.ensures)

pub returns-in_err-asked : goal.returns-in_err-asked
returns-in_err-asked c =
    let before = contents_of c.args.self.now in
    let after = record before { nodes = vec_items c.take_rows.new.rows; blocks = vec_items c.take_rows-2.new.rows; terms = vec_items c.take_rows-3.new.rows; marks = vec_items c.take_marks.new.marks } in
    err_at (ReadBehind before.head c.args.text.now after) c.from_residual-in_err-asked.result (Line c.in_err-asked.field-0.0) c.from_residual-in_err-asked.ensures.1
    (asked_stop after c.args.text.now c.requires.fits c.in_ok-rest.ensures c.in_ok-rest-2.ensures c.in_ok-rest-3.ensures c.in_ok-rest-4.ensures (no_marks before c.requires.fresh).1 c.in_err-asked.field-0.0 c.in_err-asked.ensures)

pub returns-in-empty : goal.returns-in-empty
returns-in-empty c =
    let before = contents_of c.args.self.now in
    let after = record before { nodes = vec_items c.take_rows.new.rows; blocks = vec_items c.take_rows-2.new.rows; terms = vec_items c.take_rows-3.new.rows; marks = vec_items c.take_marks.new.marks; asked = Some c.in_ok-asked.asked } in
    ends after c.args.text.now c.requires.fits c.in_ok-rest.ensures c.in_ok-rest-2.ensures c.in_ok-rest-3.ensures c.in_ok-rest-4.ensures refl c.in_ok-asked.ensures
    (nil_from_length c.in_ok-asked.rest.now (omega arith))

pub returns-in_default : goal.returns-in_default
returns-in_default c =
    let before = contents_of c.args.self.now in
    let after = record before { nodes = vec_items c.take_rows.new.rows; blocks = vec_items c.take_rows-2.new.rows; terms = vec_items c.take_rows-3.new.rows; marks = vec_items c.take_marks.new.marks; asked = Some c.in_ok-asked.asked } in
    subst (λ why. ReadBehind before.head c.args.text.now after (Err why)) (sym c.into.ensures)
    (goes_on after c.args.text.now c.requires.fits c.in_ok-rest.ensures c.in_ok-rest-2.ensures c.in_ok-rest-3.ensures c.in_ok-rest-4.ensures refl c.in_ok-asked.ensures
    (λ e. omega (arith, ap length e)) OtherLine refl)
