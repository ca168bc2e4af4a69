use Rattle.std.proofs.Common.{◌≡◌, Some, None, length, replicate, refl, arith, rules}
use Rattle.std.proofs.lemmas.List.{length-replicate}
use Rattle.std.proofs.lemmas.Result.{err_from_is_err_and}
use Rattle.files.proofs.Widths.{taken_none, taken_more, taken_all, taken_no_more}
use Rattle.files.proofs.line.take_columns.Goals as goal

pub loop-i-init : goal.loop-i-init
loop-i-init g c =
    let size : length c.args.widths ≡ g.row.N = search rules in
    taken_none c.args.letter c.args.text.now c.args.widths (replicate g.row.N 0) c.in_ok-rest.rest.now (rw (size, length-replicate) refl) c.in_ok-rest.ensures

pub loop-i-preserved : goal.loop-i-preserved
loop-i-preserved g c =
    let size : length c.args.widths ≡ g.row.N = search rules in
    let found : c.take_number.result ≡ Some (c.in_ok-number.number, c.in_ok-number.behind) = grind arith in
    taken_more c.args.letter c.args.text.now c.args.widths c.loop-i.numbers c.loop-i.rest.now c.loop-i.i c.in_ok-number.number c.in_ok-number.behind.now (omega arith) c.loop-i.invariant (rw found at c.take_number.ensures)

pub returns-in_err-number : goal.returns-in_err-number
returns-in_err-number g c =
    let size : length c.args.widths ≡ g.row.N = search rules in
    let none : c.take_number.result ≡ None = grind arith in
    let p = err_from_is_err_and c.from_residual-in_err-number.result c.from_residual-in_err-number.ensures.1 in
    rw p.1 (
      taken_no_more c.args.letter c.args.text.now c.args.widths c.loop-i.numbers c.loop-i.rest.now c.loop-i.i c.requires (omega arith) c.loop-i.invariant (rw none at c.take_number.ensures),
      rw p.2 refl,
    )

pub returns : goal.returns
returns g c =
    let size : length c.args.widths ≡ g.row.N = search rules in
    taken_all c.args.letter c.args.text.now c.args.widths c.loop-i.numbers c.loop-i.rest.now c.loop-i.i (omega arith) c.loop-i.invariant
