use Rattle.std.proofs.Common.{◌≡◌, ◌+◌, ◌-◌, ◌*◌, ◌^◌, false, get_or, drop, sym, ap, ◌∙◌, pow-suc, add-one, arith}
use Rattle.std.specs.Str.{all_ascii_digits}
use Rattle.std.proofs.lemmas.List.{at_drop_more, at_drop_all}
use Rattle.std.proofs.lemmas.Bool.{both_ways}
use Rattle.fields.specs.Fields.{number_after}
use Rattle.fields.proofs.field.number_of.Goals as goal

pub returns-then-not-is_ascii_digit : goal.returns-then-not-is_ascii_digit
returns-then-not-is_ascii_digit c all =
    let e = at_drop_more all_ascii_digits c.args.digits.now c.loop-b.b-index 0 c.loop-b-test.true in
    let d = c.if-not-is_ascii_digit.ensures.value in
    let f : all_ascii_digits c.args.digits.now ≡ false = sym c.loop-b.invariant.0 ∙ e ∙ rw (← d) in
    both_ways (all_ascii_digits c.args.digits.now) f all

pub loop-b-preserved : goal.loop-b-preserved
loop-b-preserved c =
    let ds = c.args.digits.now in
    let i = c.loop-b.b-index in
    let n = c.loop-b.n in
    let e = at_drop_more all_ascii_digits ds i 0 c.loop-b-test.true in
    let d = c.if-not-is_ascii_digit.ensures.value in
    let g : all_ascii_digits (drop i ds) ≡ all_ascii_digits (drop (i + 1) ds) = e ∙ rw (← d) in
    let f = at_drop_more (number_after n) ds i 0 c.loop-b-test.true in
    let h : n * 10 + c.from.result ≡ 10 * n + (get_or ds i 0 - 48) = omega (arith, c.from.ensures) in
    let more : 10 ^ (i + 1) ≡ 10 ^ i * 10 = rw (add-one, pow-suc) in (
      sym g ∙ c.loop-b.invariant.0,
      ap (λ m. number_after m (drop (i + 1) ds)) h ∙ sym f ∙ c.loop-b.invariant.1,
      omega (arith, more, c.loop-b.invariant.2, c.from.ensures, c.if-not-is_ascii_digit.ensures.cases),
    )

pub returns : goal.returns
returns c =
    let e = at_drop_all all_ascii_digits c.args.digits.now c.loop-b.b-index c.loop-b-test.false in
    let f = at_drop_all (number_after c.loop-b.n) c.args.digits.now c.loop-b.b-index c.loop-b-test.false in
    (sym c.loop-b.invariant.0 ∙ e, sym f ∙ c.loop-b.invariant.1)
