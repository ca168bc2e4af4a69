use Rattle.std.proofs.Common.{◌≡◌, ◌+◌, ◌≤◌, [], ◌∷◌, ◌++◌, length, get_or, set, take, sym, ap, subst, ◌∙◌, arith}
use Rattle.std.proofs.lemmas.List.{length-append, length-take, length-drop, length-set, take_all}
use Rattle.fields.specs.Fields.{field}
use Rattle.files.specs.Listings.{Writes}
use Rattle.files.specs.Lines.{Column, columns_text, line_text}
use Rattle.files.proofs.Columns.{column_fits, column_long, column_room, columns_more, end_room, put_fitting}
use Rattle.files.proofs.Written.{piece_written, byte_written}
use Rattle.files.proofs.output.put_line.Goals as goal

abbrev none : Column
none = record { width = 0; number = 0 }

pub overflow_add-behind : goal.overflow_add-behind
overflow_add-behind c = omega (arith, column_room c.args.columns.now c.loop-width.width-index none c.loop-width-test.true c.requires.columns c.args.letter)

pub slice_bounds-put_number-end : goal.slice_bounds-put_number-end
slice_bounds-put_number-end c = omega (arith, length-set c.args.output.now 0 c.args.letter, column_room c.args.columns.now c.loop-width.width-index none c.loop-width-test.true c.requires.columns c.args.letter)

pub loop-width-preserved : goal.loop-width-preserved
loop-width-preserved c =
    let l = c.loop-width in
    let columns = c.args.columns.now in
    let column = get_or columns l.width-index none in
    let within = c.loop-width-test.true in
    let fit = c.requires.columns in
    let before = c.args.letter ∷ columns_text (take l.width-index columns) in
    let piece = c.put_number.new.columns in
    let room = column_room columns l.width-index none within fit c.args.letter in
    let put : piece ≡ field column.width column.number = put_fitting _ piece column.width column.number c.put_number.result (simp (length-take, length-drop) (omega (arith, room, length-set c.args.output.now 0 c.args.letter))) (column_fits columns l.width-index none within fit) c.put_number.ensures in
    let long : length piece ≡ column.width = ap length put ∙ column_long columns l.width-index none within fit in
    let more : c.args.letter ∷ columns_text (take (l.width-index + 1) columns) ≡ before ++ piece =
    ap (λ xs. c.args.letter ∷ xs) (columns_more columns l.width-index none within fit) ∙ ap (λ xs. before ++ xs) (sym put) in
    record {
      is_at = omega (arith, long, ap length more, length-append before piece);
      writes = subst (Writes c.args.output.now _) (sym more) (piece_written c.args.output.now l.output before l.at l.invariant.is_at l.invariant.writes _ piece (omega (arith, long)));
    }

pub bounds-output-at : goal.bounds-output-at
bounds-output-at c = omega (arith, end_room c.args.columns.now c.requires.columns c.args.letter c.loop-width.width-index (omega arith), length-set c.args.output.now 0 c.args.letter)

pub returns-clause-writes : goal.returns-clause-writes
returns-clause-writes c =
    let l = c.loop-width in
    let some = take l.width-index c.args.columns.now in
    let past : length c.args.columns.now ≤ l.width-index = omega arith in
    subst (λ cs. Writes c.args.output.now (set l.output l.at 10) (line_text c.args.letter cs [])) (take_all l.width-index c.args.columns.now past)
    (byte_written c.args.output.now l.output (c.args.letter ∷ columns_text some) l.at l.invariant.is_at l.invariant.writes 10 (bounds-output-at c))
