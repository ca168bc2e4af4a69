use Rattle.std.proofs.Common.{◌≡◌, List, [], ◌∷◌, length, replicate, refl, ap, ap₂, ◌∙◌, rules}
use Rattle.std.specs.List.{FoldsTo}
use Rattle.files.proofs.tables.overwrite.Goals as goal

-- where each call gives the value, and leaves what it read as it was, the list has the value throughout
all_given : {A P : Type 0} (R : P → A → P → Type 0) (read : P → A) (a : A) → ((p q : P) (x : A) → R p x q → (x ≡ read p) × (read q ≡ read p)) → (xs : List A) (p q : P) → read p ≡ a → FoldsTo R p xs q → xs ≡ replicate (length xs) a
all_given R read a call [] p q is runs = refl
all_given R read a call (x ∷ xs) p q is runs =
    ap₂ (λ y ys. y ∷ ys) ((call p runs.0 x runs.1).0 ∙ is) (all_given R read a call xs runs.0 q ((call p runs.0 x runs.1).1 ∙ is) runs.2)

pub returns : goal.returns
returns g c =
    all_given _ (λ s. s.0.now) c.args.value (λ s q x met. search rules) _ _ _ (refl {a = c.args.value}) c.fill_with.ensures.ran.1
    ∙ ap (λ n. replicate n c.args.value) c.fill_with.ensures.len
