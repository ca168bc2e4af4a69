use Rattle.std.proofs.Common.{arith}
use Rattle.std.proofs.lemmas.Result.{err_from_is_err_and}
use Rattle.files.specs.Contents.{contents_of}
use Rattle.files.specs.Tables.{room_in}
use Rattle.files.proofs.Outcomes.{too_long_file, not_read, no_memory, refused, sound, lawful, too_many}
use Rattle.files.proofs.Sizes.{lines_bounded}
use Rattle.files.proofs.survey_file.list_row.Goals as goal

pub returns-then-file-gt-MOST_BYTES : goal.returns-then-file-gt-MOST_BYTES
returns-then-file-gt-MOST_BYTES c = rw c.into.ensures (too_long_file c.args.file.now c.args.tables.now c.args.output.now c.if-file-gt-MOST_BYTES.true)

pub returns-in_err-read : goal.returns-in_err-read
returns-in_err-read c =
    let p = err_from_is_err_and c.from_residual.result c.from_residual.ensures.1 in
    rw (p.1, p.2) (not_read c.args.file.now c.args.tables.now c.args.output.now c.if-file-gt-MOST_BYTES.false c.in_err-read.field-0.0 c.in_err-read.ensures)

pub returns-in_err-depths : goal.returns-in_err-depths
returns-in_err-depths c =
    let p = err_from_is_err_and c.from_residual-in_err-depths.result c.from_residual-in_err-depths.ensures.1 in
    let read = c.in_ok-read.ensures in
    rw (p.1, p.2) (no_memory c.args.file.now c.args.tables.now c.args.output.now c.if-file-gt-MOST_BYTES.false (contents_of c.in_ok-read.read.contents) read.rest read.reads)

pub returns-in_err-asked : goal.returns-in_err-asked
returns-in_err-asked c =
    let p = err_from_is_err_and c.from_residual-in_err-asked.result c.from_residual-in_err-asked.ensures.1 in
    let read = c.in_ok-read.ensures in
    rw (p.1, p.2) (refused c.args.file.now c.args.tables.now c.args.output.now c.if-file-gt-MOST_BYTES.false (contents_of c.in_ok-read.read.contents) read.rest read.reads
    c.in_err-asked.field-0.0 (rw c.room_for-room.ensures at (c.in_err-asked.ensures read.rest read.stopped)))

pub told-requires-clause-sound : goal.told-requires-clause-sound
told-requires-clause-sound c =
    let read = c.in_ok-read.ensures in
    let fine = c.in_ok-asked.ensures read.rest read.stopped in
    sound c.room_for-room.result c.args.file.now (contents_of c.in_ok-read.read.contents) c.in_ok-asked.asked read.rest read.reads fine.0 fine.1

pub returns-in_err-model : goal.returns-in_err-model
returns-in_err-model c =
    let p = err_from_is_err_and c.from_residual-in_err-model.result c.from_residual-in_err-model.ensures.1 in
    let read = c.in_ok-read.ensures in
    rw (p.1, p.2, c.in_err-model.ensures) (no_memory c.args.file.now c.args.tables.now c.args.output.now c.if-file-gt-MOST_BYTES.false (contents_of c.in_ok-read.read.contents) read.rest read.reads)

pub list-requires-clause-sound : goal.list-requires-clause-sound
list-requires-clause-sound c =
    let read = c.in_ok-read.ensures in
    let fine = c.in_ok-asked.ensures read.rest read.stopped in
    rw (← c.room_for-room.ensures) (sound c.room_for-room.result c.args.file.now (contents_of c.in_ok-read.read.contents) c.in_ok-asked.asked read.rest read.reads fine.0 fine.1)

pub lines-requires : goal.lines-requires
lines-requires c =
    let read = c.in_ok-read.ensures in
    omega (arith, c.if-file-gt-MOST_BYTES.false, lines_bounded c.args.file.now (contents_of c.in_ok-read.read.contents) read.rest read.reads)

pub returns-in-Some : goal.returns-in-Some
returns-in-Some c =
    let read = c.in_ok-read.ensures in
    let fine = c.in_ok-asked.ensures read.rest read.stopped in record {
      roomy = c.requires.output;
      contents = contents_of c.in_ok-read.read.contents;
      asked = c.in_ok-asked.asked.term;
      lawful = lawful (room_in c.args.tables.now) c.args.file.now (contents_of c.in_ok-read.read.contents) c.in_ok-asked.asked read.rest c.if-file-gt-MOST_BYTES.false read.reads fine.0 (rw c.room_for-room.ensures at fine.1);
      written = c.in-Some.ensures.answer;
    }

pub returns : goal.returns
returns c =
    let read = c.in_ok-read.ensures in
    let fine = c.in_ok-asked.ensures read.rest read.stopped in
    rw (c.into-in-None.ensures, c.lines.ensures, c.in-None.ensures.answer.1) (too_many c.args.file.now c.args.tables.now c.args.output.now c.if-file-gt-MOST_BYTES.false (contents_of c.in_ok-read.read.contents) read.rest read.reads c.in_ok-asked.asked fine.0
    (rw c.room_for-room.ensures at fine.1) c.list.new.tables c.in-None.ensures.room c.in-None.ensures.answer.0)
