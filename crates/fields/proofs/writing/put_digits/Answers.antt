use Rattle.std.proofs.Common.{◌≡◌, ℕ, zero, suc, ◌+◌, ◌-◌, ◌*◌, ◌/◌, ◌%◌, ◌^◌, ◌<◌, ◌≤◌, List, [], ◌∷◌, ◌++◌, length, set, take, drop, decimal, sym, ap, append_assoc, add-one, pow-suc, ◌∙◌, arith}
use Rattle.std.proofs.lemmas.List.{length-set, length-drop, take-set, drop-set, take-take, set_split}
use Rattle.std.proofs.lemmas.Fmt.{decimal_step, decimal_digit}
use Rattle.fields.proofs.writing.put_digits.Goals as goal

-- what agrees up to a place agrees up to the place before it
one_before : (columns old : List ℕ) (at : ℕ) → take (at + 1) columns ≡ take (at + 1) old → take at columns ≡ take at old
one_before columns old at e = sym (shorter columns) ∙ ap (take at) e ∙ shorter old
  where
    shorter : (xs : List ℕ) → take at (take (at + 1) xs) ≡ take at xs
    shorter xs = take-take at (at + 1) xs (omega arith)

-- a number of two digits or more has a column before its last
some_before : (at left : ℕ) → 10 ≤ left → left < 10 ^ (at + 1) → 0 < at
some_before zero left many room = absurd (omega arith)
some_before (suc at) left many room = omega arith

-- the last digit, written behind the others
digit_written : (columns : List ℕ) (at n left : ℕ) → at < length columns → 10 ≤ left → left < 2 ^ 64 → decimal n ≡ decimal left ++ drop (at + 1) columns
    → decimal n ≡ decimal (left / 10) ++ drop at (set columns at (48 + left % 10))
digit_written columns at n left within many small e =
    e ∙ ap (λ ds. ds ++ drop (at + 1) columns) (decimal_step left many small) ∙ append_assoc (decimal (left / 10)) ((48 + left % 10) ∷ []) (drop (at + 1) columns)
    ∙ ap (λ ds. decimal (left / 10) ++ ds) (sym (drop-set columns at (48 + left % 10) within))

-- the first digit, written before the others
all_written : (columns old : List ℕ) (at n left : ℕ) → at < length columns → length columns ≡ length old → left < 10 → decimal n ≡ decimal left ++ drop (at + 1) columns
    → take at columns ≡ take at old → set columns at (48 + left) ≡ take (length old - length (decimal n)) old ++ decimal n
all_written columns old at n left within same one e before =
    set_split columns at (48 + left) within ∙ ap (λ k. take at columns ++ (48 + left) ∷ drop k columns) next ∙ ap (λ ds. take at columns ++ ds) (sym digits) ∙ ap (λ ds. ds ++ decimal n) (before ∙ ap (λ k. take k old) start)
  where
    digits : decimal n ≡ (48 + left) ∷ drop (at + 1) columns
    digits = e ∙ ap (λ ds. ds ++ drop (at + 1) columns) (decimal_digit left one)

    next : suc at ≡ at + 1
    next = omega arith

    start : at ≡ length old - length (decimal n)
    start = omega (arith, ap length digits, length-drop (at + 1) columns)

pub loop-left-preserved : goal.loop-left-preserved
loop-left-preserved c =
    let columns = c.loop-left.columns in
    let at = c.loop-left.at in
    let left = c.loop-left.left in
    let i = c.loop-left.invariant in
    let more : 10 ^ (at + 1) ≡ 10 ^ at * 10 = rw (add-one, pow-suc) in
    let some : 0 < at = some_before at left c.loop-left-test.true i.room in
    let back : at - 1 + 1 ≡ at = omega arith in record {
      within = omega (arith, length-set columns at (48 + left % 10));
      room = rw back (omega arith);
      digits = rw back (digit_written columns at c.args.n left i.within c.loop-left-test.true (omega arith) i.digits);
      before = rw back (take-set columns at (48 + left % 10) ∙ one_before columns c.args.columns.now at i.before);
    }

pub returns : goal.returns
returns c =
    let l = c.loop-left in
    all_written l.columns c.args.columns.now l.at c.args.n l.left l.invariant.within (omega arith) (omega arith) l.invariant.digits (one_before l.columns c.args.columns.now l.at l.invariant.before)
