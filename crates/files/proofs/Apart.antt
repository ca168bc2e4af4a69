-- Lines tell their rows, and where they end: rows of one form that are written alike, with more behind them, are the same.
use Rattle.std.proofs.Common.{◌≡◌, ℕ, ◌<◌, List, [], ◌∷◌, ◌++◌, length, get_or, drop, refl, sym, ap, ◌∙◌, append_assoc, arith, rules}
use Rattle.fields.proofs.Columns.{same_parts}
use Rattle.files.specs.declared.head.GradeKind.{GradeKind}
use Rattle.files.specs.declared.head.GradeKind.TheVariants.{YesNo, StageSets}
use Rattle.files.specs.declared.head.Hand.{Hand}
use Rattle.files.specs.declared.head.Hand.TheVariants.{AsListed, Mirrored}
use Rattle.files.specs.Lines.{RowForm, row_text, rows_text, RowFits, AllFit}
use Rattle.files.specs.Taking.{AreWidths}
use Rattle.files.proofs.Forms.{fit, numbers_in, text_is, widths_in}
use Rattle.files.proofs.Widths.{numbers_apart}
use Rattle.files.specs.Rows.{grade_letter, hand_letter, head_form, node_form, block_form, term_form, mark_form, asked_form}

-- a form whose lines tell the row
pub record Tells {R : Type 0} (form : RowForm R) : Type 0 where
  widths : List ℕ
  are : AreWidths widths
  wide : (r : R) → widths_in (form.columns r) ≡ widths
  as_long : (r s : R) → length (form.behind r) ≡ length (form.behind s)
  tells : (r s : R) → numbers_in (form.columns r) ≡ numbers_in (form.columns s) → form.behind r ≡ form.behind s → r ≡ s

module _ {R : Type 0} (form : RowForm R) where
  pub row_apart : Tells form → (r s : R) (xs ys : List ℕ) → RowFits form r → RowFits form s → row_text form r ++ xs ≡ row_text form s ++ ys → (r ≡ s) × (xs ≡ ys)
  row_apart t r s xs ys fits fits' e =
      let ends : (u : R) (zs : List ℕ) → (form.behind u ++ (10 ∷ [])) ++ zs ≡ form.behind u ++ (10 ∷ zs) = λ u. append_assoc (form.behind u) (10 ∷ []) in
      let columns = numbers_apart t.widths _ _ _ _ t.are (fit form t.wide r fits) (fit form t.wide s fits') (ap (drop 1) (sym (text_is form t.wide r xs) ∙ e ∙ text_is form t.wide s ys)) in
      let behind = same_parts (form.behind r) (form.behind s) _ _ (t.as_long r s) (sym (ends r xs) ∙ columns.1 ∙ ends s ys) in
      (t.tells r s columns.0 behind.0, ap (drop 1) behind.1)

  -- rows of one form, where neither ends with a row of the form still to come
  abbrev pub EndsBefore : List R → List R → List ℕ → Type 0
  EndsBefore rs ss xs = (s : R) (more : List ℕ) → length rs < length ss → RowFits form s → xs ≡ row_text form s ++ more → ⊥

  pub rows_apart : Tells form → (rs ss : List R) (xs ys : List ℕ) → AllFit form rs → AllFit form ss → EndsBefore rs ss xs → EndsBefore ss rs ys → rows_text form rs ++ xs ≡ rows_text form ss ++ ys → (rs ≡ ss) × (xs ≡ ys)
  rows_apart t [] [] xs ys fit fit' ends ends' e = (refl, e)
  rows_apart t [] (s ∷ ss) xs ys fit fit' ends ends' e = absurd (ends s (rows_text form ss ++ ys) (omega arith) fit'.0 (e ∙ append_assoc (row_text form s) _ ys))
  rows_apart t (r ∷ rs) [] xs ys fit fit' ends ends' e = absurd (ends' r (rows_text form rs ++ xs) (omega arith) fit.0 (sym e ∙ append_assoc (row_text form r) _ xs))
  rows_apart t (r ∷ rs) (s ∷ ss) xs ys fit fit' ends ends' e =
      let one = row_apart t r s _ _ fit.0 fit'.0 (sym (append_assoc (row_text form r) _ xs) ∙ e ∙ append_assoc (row_text form s) _ ys) in
      let rest = rows_apart t rs ss xs ys fit.1 fit'.1 (λ u more l. ends u more (omega arith)) (λ u more l. ends' u more (omega arith)) one.1 in
      (λ i. one.0 i ∷ rest.0 i, rest.1)

-- lines that begin alike have the same letter
pub same_letter : {R S : Type 0} (form : RowForm R) (other : RowForm S) (r : R) (s : S) (xs ys : List ℕ) → row_text form r ++ xs ≡ row_text other s ++ ys → form.letter ≡ other.letter
same_letter form other r s xs ys e = ap (λ l. get_or l 0 0) e

grades_told : (k l : GradeKind) → grade_letter k ≡ grade_letter l → k ≡ l
grades_told YesNo YesNo e = refl
grades_told YesNo StageSets e = absurd (omega arith)
grades_told StageSets YesNo e = absurd (omega arith)
grades_told StageSets StageSets e = refl

hands_told : (h k : Hand) → hand_letter h ≡ hand_letter k → h ≡ k
hands_told AsListed AsListed e = refl
hands_told AsListed Mirrored e = absurd (omega arith)
hands_told Mirrored AsListed e = absurd (omega arith)
hands_told Mirrored Mirrored e = refl

pub head_tells : Tells head_form
head_tells = record {
  widths = 5 ∷ (5 ∷ (5 ∷ (5 ∷ [])));
  are = search rules;
  wide = λ r. refl;
  as_long = λ r s. refl;
  tells = λ r s e b.
      let n : r.nodes ≡ s.nodes = cc in
      let a : r.tags ≡ s.tags = cc in
      let k : r.blocks ≡ s.blocks = cc in
      let m : r.terms ≡ s.terms = cc in
      let g : grade_letter r.grades ≡ grade_letter s.grades = cc in
      let h : hand_letter r.hand ≡ hand_letter s.hand = cc in
      λ i. record { nodes = n i; tags = a i; blocks = k i; terms = m i; grades = grades_told _ _ g i; hand = hands_told _ _ h i };
}

pub node_tells : Tells node_form
node_tells = record {
  widths = 5 ∷ [];
  are = search rules;
  wide = λ r. refl;
  as_long = λ r s. refl;
  tells = λ r s e b. let d : r.depth ≡ s.depth = cc in λ i. record { depth = d i };
}

pub block_tells : Tells block_form
block_tells = record {
  widths = 5 ∷ (5 ∷ []);
  are = search rules;
  wide = λ r. refl;
  as_long = λ r s. refl;
  tells = λ r s e b.
      let k : r.kind ≡ s.kind = cc in
      let n : r.terms ≡ s.terms = cc in
      λ i. record { kind = k i; terms = n i };
}

pub term_tells : Tells term_form
term_tells = record {
  widths = 5 ∷ (5 ∷ (5 ∷ []));
  are = search rules;
  wide = λ r. refl;
  as_long = λ r s. refl;
  tells = λ r s e b.
      let k : r.kind ≡ s.kind = cc in
      let m : r.a ≡ s.a = cc in
      let n : r.b ≡ s.b = cc in
      λ i. record { kind = k i; a = m i; b = n i };
}

pub mark_tells : Tells mark_form
mark_tells = record {
  widths = 5 ∷ (5 ∷ (10 ∷ []));
  are = search rules;
  wide = λ r. refl;
  as_long = λ r s. refl;
  tells = λ r s e b.
      let x : r.node ≡ s.node = cc in
      let a : r.tag ≡ s.tag = cc in
      let g : r.grade ≡ s.grade = cc in
      λ i. record { node = x i; tag = a i; grade = g i };
}

pub asked_tells : Tells asked_form
asked_tells = record {
  widths = 5 ∷ [];
  are = search rules;
  wide = λ r. refl;
  as_long = λ r s. refl;
  tells = λ r s e b. let i' : r.term ≡ s.term = cc in λ i. record { term = i' i };
}
