-- Rows with the same grades at every node have the same listing.
use Rattle.std.proofs.Common.{◌≡◌, ℕ, suc, ◌<◌, List, [], ◌∷◌, ◌++◌, length, sym, refl, ap, ap₂, ◌∙◌, arith}
use Rattle.std.specs.List.{flat_map, ContainsAt as Has}
use Rattle.files.specs.Listings.{Filed, ListsRow, answer_line, end_line, selected_line}

flat_map_same : {A B : Type 0} (f g : A → List B) (xs : List A) → ((x : A) → Has xs x → f x ≡ g x) → flat_map f xs ≡ flat_map g xs
flat_map_same f g [] same = refl
flat_map_same f g (x ∷ xs) same =
    ap₂ (λ a b. a ++ b) (same x (0, omega arith, λ d. refl)) (flat_map_same f g xs (λ y h. same y (suc h.0, omega arith, h.2)))

module _ {G : Type 0} (k : Filed G) {n m : ℕ} (count : n ≡ m) (steps : ℕ) (before after : ℕ → G) (same : (x : ℕ) → x < m → before x ≡ after x) where
  pub lists_same : {text : List ℕ} → ListsRow k n steps before text → ListsRow k m steps after text
  lists_same l = record {
    selected = l.selected;
    lists = record {
      rising = l.lists.rising;
      only = λ x h. let p = l.lists.only x h in let below : x < m = omega (arith, p.0) in (below, λ e. p.1 (same x below ∙ e));
      all = λ x below ne. l.lists.all x (omega arith) (λ e. ne (sym (same x below) ∙ e));
    };
    written = l.written
        ∙ ap₂ (λ c body. answer_line c steps ++ (body ++ end_line (length l.selected))) count
        (flat_map_same (selected_line (λ x. k.number (before x))) (selected_line (λ x. k.number (after x))) l.selected
        (λ x h. let p = l.lists.only x h in ap (λ g. selected_line (λ _. k.number g) x) (same x (omega (arith, p.0)))));
  }
