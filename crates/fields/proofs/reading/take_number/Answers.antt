use Rattle.std.proofs.Common.{◌≡◌, ℕ, ◌-◌, ◌≤◌, List, ◌++◌, length, take, drop, replicate, decimal, sym, ap, subst, ◌∙◌, arith}
use Rattle.std.proofs.lemmas.List.{length-append, length-take, take_at, take-append-drop}
use Rattle.std.proofs.lemmas.Fmt.{decimal_nonempty}
use Rattle.fields.specs.Fields.{field, Shows}
use Rattle.fields.specs.Taking.{Begins, Takes}
use Rattle.fields.proofs.Blanks.{below_10_digits}
use Rattle.fields.proofs.Columns.{length_field, field_shows}
use Rattle.fields.proofs.reading.take_number.Goals as goal

long : (width : ℕ) (text : List ℕ) (n : ℕ) (rest : List ℕ) → Begins width text n rest → width ≤ length text
long width text n rest b = omega (arith, ap length b.written, length-append (field width n) rest, length_field width n b.some b.room b.narrow)

columns_show : (width : ℕ) (text : List ℕ) (n : ℕ) (rest : List ℕ) → Begins width text n rest → Shows (take width text) n
columns_show width text n rest b = subst (λ columns. Shows columns n) (sym columns) (field_shows width n b.some b.room b.narrow)
  where
    columns : take width text ≡ field width n
    columns = ap (take width) b.written ∙ take_at (field width n) rest width (length_field width n b.some b.room b.narrow)

-- no number is written without a digit, so columns that show one are some
shown_begins : (width : ℕ) (text : List ℕ) (n : ℕ) → width ≤ length text → Shows (take width text) n → Begins width text n (drop width text)
shown_begins width text n fits s = record {
  some = omega (arith, wide, ap length s.written, length-append (replicate (length (take width text) - length (decimal n)) 32) (decimal n), decimal_nonempty n (below_10_digits n (length (take width text)) s.narrow s.room));
  narrow = rw wide at s.narrow;
  room = rw wide at s.room;
  written = sym (take-append-drop width text) ∙ ap (λ columns. columns ++ drop width text) (s.written ∙ ap (λ w. field w n) wide);
}
  where
    wide : length (take width text) ≡ width
    wide = length-take width text ∙ omega arith

pub returns-then-text-width : goal.returns-then-text-width
returns-then-text-width c n rest b = omega (arith, long c.args.width c.args.text.now n rest b)

pub returns-in_err-number_in : goal.returns-in_err-number_in
returns-in_err-number_in c = subst (Takes c.args.width c.args.text.now) (sym c.from_residual.ensures)
    (λ n rest b. c.in_err-number_in.ensures n (subst (λ columns. Shows columns n) (sym c.split_at.ensures.front) (columns_show c.args.width c.args.text.now n rest b)))

pub returns : goal.returns
returns c =
    let n = c.in_ok-number_in.field-0 in
    let shown : Shows (take c.args.width c.args.text.now) n = subst (λ columns. Shows columns n) c.split_at.ensures.front c.in_ok-number_in.ensures in
    subst (Begins c.args.width c.args.text.now n) (sym c.split_at.ensures.back) (shown_begins c.args.width c.args.text.now n c.if-text-width.false shown)
