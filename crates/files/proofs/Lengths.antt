-- How long a text is, computed without writing it.
use Rattle.std.proofs.Common.{◌≡◌, ℕ, ◌+◌, ◌^◌, Bool, true, ◌&&◌, ltb, leb, List, [], ◌∷◌, ◌++◌, length, Some, None, Option, refl, ap₂, ◌∙◌, length-append, arith}
use Rattle.std.specs.List.{AllByRecursion, list_all}
use Rattle.std.proofs.lemmas.Bool.{and_parts, ltb-true, leb-true}
use Rattle.files.specs.declared.rows.AskedRow.{AskedRow}
use Rattle.files.specs.Contents.{Contents, asked_text, text_of}
use Rattle.files.specs.Lines.{AllFit, Column, ColumnsFit, RowFits, RowForm, columns_text, row_text, rows_text, widths}
use Rattle.files.specs.Rows.{asked_form, block_form, head_form, mark_form, node_form, term_form}
use Rattle.files.proofs.Columns.{length_columns}

-- a fact that a test tells, of each element
pub all_tested : {X : Type 0} (P : X → Type 0) (test : X → Bool) → ((x : X) → test x ≡ true → P x) → (xs : List X) → list_all test xs ≡ true → AllByRecursion P xs
all_tested P test tells [] e = tt
all_tested P test tells (x ∷ xs) e = let p = and_parts (test x) (list_all test xs) e in (tells x p.0, all_tested P test tells xs p.1)

abbrev pub in_column : Column → Bool
in_column c = ltb 0 c.width && (leb c.width 10 && ltb c.number (10 ^ c.width))

columns_fit : (cs : List Column) → list_all in_column cs ≡ true → ColumnsFit cs
columns_fit [] e = (tt, tt)
columns_fit (c ∷ cs) e =
    let p = and_parts (in_column c) (list_all in_column cs) e in
    let first = and_parts (ltb 0 c.width) (leb c.width 10 && ltb c.number (10 ^ c.width)) p.0 in
    let second = and_parts (leb c.width 10) (ltb c.number (10 ^ c.width)) first.1 in
    let more = columns_fit cs p.1 in
    ((ltb-true c.number (10 ^ c.width) second.1, more.0), ((ltb-true 0 c.width first.0, leb-true c.width 10 second.0), more.1))

module _ {R : Type 0} (form : RowForm R) where
  abbrev pub row_fits : R → Bool
  row_fits r = list_all in_column (form.columns r)

  abbrev pub row_length : R → ℕ
  row_length r = widths (form.columns r) + (length (form.behind r) + 2)

  abbrev pub rows_length : List R → ℕ
  rows_length [] = 0
  rows_length (r ∷ rs) = row_length r + rows_length rs

  length_row : (r : R) → row_fits r ≡ true → length (row_text form r) ≡ row_length r
  length_row r e = omega (arith, length-append (columns_text (form.columns r)) (form.behind r ++ (10 ∷ [])), length-append (form.behind r) (10 ∷ []), length_columns (form.columns r) (columns_fit (form.columns r) e))

  length_rows : (rs : List R) → list_all row_fits rs ≡ true → length (rows_text form rs) ≡ rows_length rs
  length_rows [] e = refl
  length_rows (r ∷ rs) e =
      let p = and_parts (row_fits r) (list_all row_fits rs) e in
      omega (arith, length-append (row_text form r) (rows_text form rs), length_row r p.0, length_rows rs p.1)

  pub row_fits_tells : (r : R) → row_fits r ≡ true → RowFits form r
  row_fits_tells r e = (columns_fit (form.columns r) e).0

  pub all_fit_tells : (rs : List R) → list_all row_fits rs ≡ true → AllFit form rs
  all_fit_tells = all_tested (RowFits form) row_fits row_fits_tells

abbrev pub asked_fits : Option AskedRow → Bool
asked_fits None = true
asked_fits (Some r) = row_fits asked_form r

abbrev asked_length : Option AskedRow → ℕ
asked_length None = 0
asked_length (Some r) = row_length asked_form r

length_asked : (asked : Option AskedRow) → asked_fits asked ≡ true → length (asked_text asked) ≡ asked_length asked
length_asked None e = refl
length_asked (Some r) e = length_row asked_form r e

abbrev pub text_length : Contents → ℕ
text_length c = row_length head_form c.head + (rows_length node_form c.nodes + (rows_length block_form c.blocks + (rows_length term_form c.terms + (rows_length mark_form c.marks + asked_length c.asked))))

-- each number has room in its columns
pub record NumbersFit (c : Contents) : Type 0 where
  pub head : row_fits head_form c.head ≡ true
  pub nodes : list_all (row_fits node_form) c.nodes ≡ true
  pub blocks : list_all (row_fits block_form) c.blocks ≡ true
  pub terms : list_all (row_fits term_form) c.terms ≡ true
  pub marks : list_all (row_fits mark_form) c.marks ≡ true
  pub asked : asked_fits c.asked ≡ true

length_both : (xs ys : List ℕ) {m n : ℕ} → length xs ≡ m → length ys ≡ n → length (xs ++ ys) ≡ m + n
length_both xs ys e f = length-append xs ys ∙ ap₂ ◌+◌ e f

pub length_text : (c : Contents) → NumbersFit c → length (text_of c) ≡ text_length c
length_text c fit =
    length_both (row_text head_form c.head) (nodes ++ (blocks ++ (terms ++ (marks ++ asked)))) (length_row head_form c.head fit.head)
    (length_both nodes (blocks ++ (terms ++ (marks ++ asked))) (length_rows node_form c.nodes fit.nodes)
    (length_both blocks (terms ++ (marks ++ asked)) (length_rows block_form c.blocks fit.blocks)
    (length_both terms (marks ++ asked) (length_rows term_form c.terms fit.terms)
    (length_both marks asked (length_rows mark_form c.marks fit.marks) (length_asked c.asked fit.asked)))))
  where
    nodes : List ℕ
    nodes = rows_text node_form c.nodes

    blocks : List ℕ
    blocks = rows_text block_form c.blocks

    terms : List ℕ
    terms = rows_text term_form c.terms

    marks : List ℕ
    marks = rows_text mark_form c.marks

    asked : List ℕ
    asked = asked_text c.asked
