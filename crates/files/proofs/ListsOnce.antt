-- Rising lists of the same numbers are the same, and so are listings of the same rows.
use Rattle.std.proofs.Common.{◌≡◌, ℕ, zero, suc, ◌<◌, ◌≤◌, List, [], ◌∷◌, length, get_or, ◌⊎◌, ◌++◌, refl, sym, ap, ◌∙◌, ap₂, inl, inr, arith}
use Rattle.std.specs.List.{flat_map, ContainsAt as Has}
use Rattle.files.specs.Listings.{Filed, ListsRow, answer_line, end_line, listing, selected_line}

abbrev Rising : List ℕ → Type 0
Rising xs = (a b : ℕ) → a < b → b < length xs → get_or xs a 0 < get_or xs b 0

has_first : (x : ℕ) (xs : List ℕ) → Has (x ∷ xs) x
has_first x xs = (0, omega arith, λ d. refl)

has_none : (x : ℕ) → Has [] x → ⊥
has_none x (k, l, e) = absurd (omega arith)

has_cases : (x : ℕ) (xs : List ℕ) (z : ℕ) → Has (x ∷ xs) z → (z ≡ x) ⊎ Has xs z
has_cases x xs z (zero, l, e) = inl (sym (e 0))
has_cases x xs z (suc k, l, e) = inr (k, omega arith, e)

has_later : (x : ℕ) (xs : List ℕ) (z : ℕ) → Has xs z → Has (x ∷ xs) z
has_later x xs z (k, l, e) = (suc k, omega arith, e)

first_below : (x : ℕ) (xs : List ℕ) (z : ℕ) → Rising (x ∷ xs) → Has xs z → x < z
first_below x xs z r (k, l, e) = let below : x < get_or xs k 0 = r 0 (suc k) (omega arith) (omega arith) in omega (arith, e 0)

first_least : (x : ℕ) (xs : List ℕ) (z : ℕ) → Rising (x ∷ xs) → Has (x ∷ xs) z → x ≤ z
first_least x xs z r h = elim (has_cases x xs z h) [ inl e ↦ omega arith | inr later ↦ omega (arith, first_below x xs z r later) ]

rest_has : (x y : ℕ) (xs ys : List ℕ) → x ≡ y → Rising (x ∷ xs) → ((z : ℕ) → Has (x ∷ xs) z → Has (y ∷ ys) z) → (z : ℕ) → Has xs z → Has ys z
rest_has x y xs ys e r inside z h = elim (has_cases y ys z (inside z (has_later x xs z h))) [ inl head ↦ absurd (omega (arith, first_below x xs z r h)) | inr later ↦ later ]

rising_once : (xs ys : List ℕ) → Rising xs → Rising ys → ((z : ℕ) → Has xs z → Has ys z) → ((z : ℕ) → Has ys z → Has xs z) → xs ≡ ys
rising_once [] [] r s to from = refl
rising_once [] (y ∷ ys) r s to from = absurd (has_none y (from y (has_first y ys)))
rising_once (x ∷ xs) [] r s to from = absurd (has_none x (to x (has_first x xs)))
rising_once (x ∷ xs) (y ∷ ys) r s to from =
    let e : x ≡ y = omega (arith, first_least y ys x s (to x (has_first x xs)), first_least x xs y r (from y (has_first y ys))) in
    ap₂ ◌∷◌ e (rising_once xs ys (λ a b l h. r (suc a) (suc b) (omega arith) (omega arith)) (λ a b l h. s (suc a) (suc b) (omega arith) (omega arith)) (rest_has x y xs ys e r to) (rest_has y x ys xs (sym e) s from))

flat_map_same : (f g : ℕ → List ℕ) (xs : List ℕ) → ((x : ℕ) → Has xs x → f x ≡ g x) → flat_map f xs ≡ flat_map g xs
flat_map_same f g [] h = refl
flat_map_same f g (x ∷ xs) h = ap₂ ◌++◌ (h x (has_first x xs)) (flat_map_same f g xs (λ z has. h z (has_later x xs z has)))

module _ {G : Type 0} (k : Filed G) (nodes : ℕ) (row row' : ℕ → G) (same : (x : ℕ) → x < nodes → row x ≡ row' x) where
  same_listing : (steps steps' : ℕ) (xs ys : List ℕ) → ((x : ℕ) → Has xs x → x < nodes) → steps ≡ steps' → xs ≡ ys → listing nodes steps (λ x. k.number (row x)) xs ≡ listing nodes steps' (λ x. k.number (row' x)) ys
  same_listing steps steps' xs ys inside e f =
      ap₂ ◌++◌ (ap (answer_line nodes) e) (ap₂ ◌++◌ (flat_map_same _ _ xs (λ x has. ap (λ g. selected_line (λ y. k.number g) x) (same x (inside x has))) ∙ ap (flat_map (selected_line (λ x. k.number (row' x)))) f) (ap (λ zs. end_line (length zs)) f))

  pub row_listed_once : (steps steps' : ℕ) (text text' : List ℕ) → steps ≡ steps' → ListsRow k nodes steps row text → ListsRow k nodes steps' row' text' → text ≡ text'
  row_listed_once steps steps' text text' e l m =
      l.written
      ∙ (same_listing steps steps' l.selected m.selected (λ x has. (l.lists.only x has).0) e chosen
      ∙ sym m.written)
    where
      to : (x : ℕ) → Has l.selected x → Has m.selected x
      to x has = let p = l.lists.only x has in m.lists.all x p.0 (λ lowest. p.1 (same x p.0 ∙ lowest))

      from : (x : ℕ) → Has m.selected x → Has l.selected x
      from x has = let p = m.lists.only x has in l.lists.all x p.0 (λ lowest. p.1 (sym (same x p.0) ∙ lowest))

      chosen : l.selected ≡ m.selected
      chosen = rising_once l.selected m.selected l.lists.rising m.lists.rising to from
