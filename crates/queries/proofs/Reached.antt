-- Which blocks a tag reaches, as a loop over the terms finds them.
use Rattle.std.proofs.Common.{◌≡◌, ℕ, ◌+◌, ◌<◌, Bool, true, false, ◌&&◌, ◌||◌, eqb, List, length, get_or, set, sym, refl, ap, ◌∙◌, ap₂, inl, inr, add-one}
use Rattle.std.proofs.lemmas.List.{get_or-set_same, get_or-set_other}
use Rattle.std.proofs.lemmas.Bool.{cases_eq, eq-eqb, ne_eqb, and_left, and_right, and_from, or_right}
use Rattle.queries.specs.declared.term.Term.{Term}
use Rattle.queries.specs.declared.term.Term.TheVariants.{Mark, Turn, Meet, Join, SomeNeighbour, EveryNeighbour, Lowest, Highest}
use Rattle.queries.specs.Table.{Reads, by_turn, by_meet_left, by_meet_right, by_join_left, by_join_right, by_some, by_every}
use Rattle.queries.specs.declared.workings.DealtTerm.{DealtTerm}
use Rattle.queries.specs.Workings.{nth_term, touched, reached_before}

-- what a term touches goes by the blocks of what it reads
pub touched_same : (ds : List DealtTerm) (tag : ℕ) (p p' : ℕ → Bool) (t : Term) → ((j : ℕ) → Reads t j → p (nth_term ds j).block ≡ p' (nth_term ds j).block) → touched ds tag p t ≡ touched ds tag p' t
touched_same ds tag p p' (Mark a) h = refl
touched_same ds tag p p' (Turn a) h = ap₂ ◌||◌ (h a (by_turn a)) (h a (by_turn a))
touched_same ds tag p p' (Meet a b) h = ap₂ ◌||◌ (h a (by_meet_left a b)) (h b (by_meet_right a b))
touched_same ds tag p p' (Join a b) h = ap₂ ◌||◌ (h a (by_join_left a b)) (h b (by_join_right a b))
touched_same ds tag p p' (SomeNeighbour x a) h = ap₂ ◌||◌ (h a (by_some x a)) (h a (by_some x a))
touched_same ds tag p p' (EveryNeighbour x a) h = ap₂ ◌||◌ (h a (by_every x a)) (h a (by_every x a))
touched_same ds tag p p' Lowest h = refl
touched_same ds tag p p' Highest h = refl

or_false : (x y : Bool) → y ≡ false → x ≡ (x || y)
or_false true y e = refl
or_false false y e = sym e

-- a list of what is reached by the first i terms, and the next term
module _ (ds : List DealtTerm) (tag i blocks : ℕ) (row : List Bool) (inv : (b : ℕ) → b < blocks → get_or row b false ≡ reached_before ds tag i b) where
  pub touched_now : (xs : List Bool) (t : Term) (r : Bool) → r ≡ touched ds tag (λ b. get_or xs b false) t → xs ≡ row → t ≡ (nth_term ds i).term → ((j : ℕ) → Reads t j → (nth_term ds j).block < blocks) → r ≡ touched ds tag (reached_before ds tag i) (nth_term ds i).term
  touched_now xs t r told e f h = told ∙ touched_same ds tag (λ b. get_or xs b false) (reached_before ds tag i) t (λ j r. ap (λ ys. get_or ys (nth_term ds j).block false) e ∙ inv (nth_term ds j).block (h j r)) ∙ ap (touched ds tag (reached_before ds tag i)) f

  next : (b : ℕ) → reached_before ds tag (i + 1) b ≡ (reached_before ds tag i b || (eqb (nth_term ds i).block b && touched ds tag (reached_before ds tag i) (nth_term ds i).term))
  next b = ap (λ n. reached_before ds tag n b) (add-one i)

  pub reached_set : length row ≡ blocks → (nth_term ds i).block < blocks → touched ds tag (reached_before ds tag i) (nth_term ds i).term ≡ true → (b : ℕ) → b < blocks → get_or (set row (nth_term ds i).block true) b false ≡ reached_before ds tag (i + 1) b
  reached_set l h e b k = elim (cases_eq b (nth_term ds i).block) [ inl same ↦ here same | inr other ↦ elsewhere other ]
    where
      here : b ≡ (nth_term ds i).block → get_or (set row (nth_term ds i).block true) b false ≡ reached_before ds tag (i + 1) b
      here same =
          ap (λ n. get_or (set row (nth_term ds i).block true) n false) same ∙ get_or-set_same row (nth_term ds i).block true false (rw l h)
          ∙ sym (next b ∙ or_right (reached_before ds tag i b) _ (and_from (eqb (nth_term ds i).block b) _ (eq-eqb _ _ (sym same)) e))

      elsewhere : (b ≡ (nth_term ds i).block → ⊥) → get_or (set row (nth_term ds i).block true) b false ≡ reached_before ds tag (i + 1) b
      elsewhere other =
          get_or-set_other row (nth_term ds i).block b true false other ∙ inv b k
          ∙ or_false (reached_before ds tag i b) _ (and_left (eqb (nth_term ds i).block b) _ (ne_eqb _ _ (λ z. other (sym z)))) ∙ sym (next b)

  pub reached_kept : touched ds tag (reached_before ds tag i) (nth_term ds i).term ≡ false → (b : ℕ) → b < blocks → get_or row b false ≡ reached_before ds tag (i + 1) b
  reached_kept e b k = inv b k ∙ or_false (reached_before ds tag i b) _ (and_right (eqb (nth_term ds i).block b) _ e) ∙ sym (next b)
