-- The marks that rows set, computed.
use Rattle.std.proofs.Common.{◌≡◌, ℕ, Bool, true, false, cond, ◌&&◌, List, [], ◌∷◌, refl, ap, ◌∙◌}
use Rattle.std.specs.Prelude.{◌==◌}
use Rattle.std.specs.List.{AllByRecursion}
use Rattle.files.specs.declared.rows.MarkRow.{MarkRow}
use Rattle.files.specs.Settling.{last_mark}

-- the grade of the last mark of a tag at a node; another where there is none
abbrev pub last_grade : {G : Type 0} → (ℕ → G) → G → List MarkRow → ℕ → ℕ → G
last_grade grade other [] a x = other
last_grade grade other (m ∷ ms) a x = last_grade grade (cond (m.tag == a && m.node == x) (grade m.grade) other) ms a x

module _ {G : Type 0} (number : G → ℕ) (grade : ℕ → G) where
  either : (b : Bool) (g h : G) (n : ℕ) → number g ≡ n → number (cond b g h) ≡ cond b n (number h)
  either true g h n e = e
  either false g h n e = refl

  -- where the marks' numbers are those of grades
  pub last_numbered : (other : G) (rows : List MarkRow) → AllByRecursion (λ m. number (grade m.grade) ≡ m.grade) rows → (a x : ℕ) → number (last_grade grade other rows a x) ≡ last_mark (number other) rows a x
  last_numbered other [] e a x = refl
  last_numbered other (m ∷ ms) e a x =
      last_numbered (cond (m.tag == a && m.node == x) (grade m.grade) other) ms e.1 a x
      ∙ ap (λ n. last_mark n ms a x) (either (m.tag == a && m.node == x) (grade m.grade) other m.grade e.0)
