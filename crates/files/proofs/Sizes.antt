-- A file has no more lines than bytes.
use Rattle.std.proofs.Common.{ℕ, ◌+◌, ◌≤◌, List, [], ◌∷◌, ◌++◌, length, Some, None, Option, ap, ◌∙◌, arith}
use Rattle.std.proofs.lemmas.List.{length-append}
use Rattle.files.specs.declared.rows.AskedRow.{AskedRow}
use Rattle.files.specs.Contents.{Contents, Reads, text_of, asked_text, asked_count, lines_of}
use Rattle.files.specs.Lines.{RowForm, row_text, rows_text}
use Rattle.files.specs.Rows.{head_form, node_form, block_form, term_form, mark_form}

rows_long : {R : Type 0} (form : RowForm R) (rs : List R) → length rs ≤ length (rows_text form rs)
rows_long form [] = omega arith
rows_long form (r ∷ rs) = omega (arith, length-append (row_text form r) (rows_text form rs), rows_long form rs)

asked_long : (o : Option AskedRow) → asked_count o ≤ length (asked_text o)
asked_long None = omega arith
asked_long (Some r) = omega arith

both_long : (k m : ℕ) (xs ys : List ℕ) → k ≤ length xs → m ≤ length ys → k + m ≤ length (xs ++ ys)
both_long k m xs ys p q = omega (arith, length-append xs ys)

text_long : (c : Contents) → lines_of c ≤ length (text_of c)
text_long c = omega (
  arith,
  both_long 1 _ (row_text head_form c.head) _ (omega arith)
      (both_long (length c.nodes) _ (rows_text node_form c.nodes) _ (rows_long node_form c.nodes)
      (both_long (length c.blocks) _ (rows_text block_form c.blocks) _ (rows_long block_form c.blocks)
      (both_long (length c.terms) _ (rows_text term_form c.terms) _ (rows_long term_form c.terms)
      (both_long (length c.marks) (asked_count c.asked) (rows_text mark_form c.marks) (asked_text c.asked) (rows_long mark_form c.marks) (asked_long c.asked))))),
)

pub lines_bounded : (file : List ℕ) (c : Contents) (rest : List ℕ) → Reads file c rest → lines_of c ≤ length file
lines_bounded file c rest r = omega (arith, text_long c, ap length r.written ∙ length-append (text_of c) rest)
