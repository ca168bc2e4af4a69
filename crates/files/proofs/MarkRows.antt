-- The marks that rows set, one after the other.
use Rattle.std.proofs.Common.{◌≡◌, ℕ, suc, ◌<◌, cond, ◌&&◌, ◌⊎◌, ◌==◌, List, [], ◌∷◌, ◌++◌, length, get_or, set, sym, refl, ap, ap₂, ◌∙◌, inl, inr, arith}
use Rattle.std.proofs.lemmas.Bool.Decides.{nat_tests}
use Rattle.std.proofs.lemmas.List.{get_or-set_same, get_or-set_other}
use Rattle.meaning.specs.Tables.{place}
use Rattle.surveys.proofs.Placed.{place_apart}
use Rattle.files.specs.Causes.{no_mark}
use Rattle.files.specs.declared.rows.MarkRow.{MarkRow}
use Rattle.files.specs.CallSteps.{SetsMarks}
use Rattle.files.specs.Listings.{Filed}
use Rattle.files.specs.Settling.{last_mark}

-- a test of two numbers each
both : (t a y x u v : ℕ) → ((t ≡ a) × (y ≡ x) × (cond (t == a && y == x) u v ≡ u)) ⊎ (((t ≡ a) × (y ≡ x) → ⊥) × (cond (t == a && y == x) u v ≡ v))
both t a y x u v = grind (arith, nat_tests)

last_mark_more : (rows : List MarkRow) (m : MarkRow) (other a x : ℕ) → last_mark other (rows ++ (m ∷ [])) a x ≡ cond (m.tag == a && m.node == x) m.grade (last_mark other rows a x)
last_mark_more [] m other a x = refl
last_mark_more (r ∷ rows) m other a x = last_mark_more rows m _ a x

module _ {G : Type 0} (k : Filed G) (n : ℕ) where
  -- one more mark is set
  pub set_more : (rows : List MarkRow) (m : MarkRow) (grade : G) (before after : List G) → length after ≡ length before → m.node < n → place n m.tag m.node < length before → k.number grade ≡ m.grade → SetsMarks k n rows before after → SetsMarks k n (rows ++ (m ∷ [])) before (set after (place n m.tag m.node) grade)
  set_more rows m grade before after len node inside numbered marked a x here there =
      elim (both m.tag a m.node x m.grade (last_mark (k.number (get_or before (place n a x) k.kind.lowest)) rows a x)) [
        | inl (tag, at, last) ↦
            ap (λ p. k.number (get_or (set after (place n m.tag m.node) grade) p k.kind.lowest)) (sym (ap₂ (place n) tag at))
            ∙ (ap k.number (get_or-set_same after (place n m.tag m.node) grade k.kind.lowest (omega (arith, len))) ∙ (numbered ∙ (sym last ∙ sym (last_mark_more rows m _ a x))))
        | inr (apart, last) ↦
            ap k.number (get_or-set_other after (place n m.tag m.node) (place n a x) grade k.kind.lowest (λ e. apart (let p = place_apart n a m.tag x m.node here node e in (sym p.0, sym p.1))))
            ∙ (marked a x here there ∙ (sym last ∙ sym (last_mark_more rows m _ a x)))
      ]

-- no row sets a mark of another tag or at another node
pub unmarked : (rows : List MarkRow) (other a x : ℕ) → ((j : ℕ) → j < length rows → ((get_or rows j no_mark).tag ≡ a) × ((get_or rows j no_mark).node ≡ x) → ⊥) → last_mark other rows a x ≡ other
unmarked [] other a x none = refl
unmarked (m ∷ rows) other a x none =
    let here : cond (m.tag == a && m.node == x) m.grade other ≡ other =
    elim (both m.tag a m.node x m.grade other) [ inl (tag, at, last) ↦ absurd (none 0 (omega arith) (tag, at)) | inr (apart, last) ↦ last ] in
    rw here (unmarked rows other a x (λ j h. none (suc j) (omega arith)))
