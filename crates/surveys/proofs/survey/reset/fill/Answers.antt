use Rattle.std.proofs.Common.{◌≡◌, ℕ, zero, suc, ◌-◌, ◌<◌, ◌≤◌, List, [], ◌∷◌, length, get_or, take, refl, ◌∙◌, arith, rules}
use Rattle.std.specs.List.{FoldsTo}
use borrow.Rule.Slice.PartMut.{put_mid, post_of}
use Rattle.std.proofs.lemmas.List.{get_or_append_left, get_or-append_right, length-take, length-drop, length-take-le}
use Rattle.surveys.proofs.survey.reset.fill.Goals as goal

-- each call gives the value, and leaves what it read as it was
each_given : {A P : Type 0} (R : P → A → P → Type 0) (read : P → A) (a : A) → ((p q : P) (x : A) → R p x q → (x ≡ read p) × (read q ≡ read p)) → (xs : List A) (p q : P) → read p ≡ a → FoldsTo R p xs q → (i : ℕ) (d : A) → i < length xs → get_or xs i d ≡ a
each_given R read a call [] p q is runs i d h = absurd (omega arith)
each_given R read a call (x ∷ xs) p q is runs zero d h = (call p runs.0 x runs.1).0 ∙ is
each_given R read a call (x ∷ xs) p q is runs (suc i) d h = each_given R read a call xs runs.0 q ((call p runs.0 x runs.1).1 ∙ is) runs.2 i d (omega arith)

-- a part written over
module _ {A : Type 0} (xs ys : List A) (from to : ℕ) (rising : from ≤ to) (within : to ≤ length xs) (len : length ys ≡ to - from) where
  written : (a : A) → ((p : ℕ) (d : A) → p < to - from → get_or ys p d ≡ a) → (p : ℕ) (d : A) → from ≤ p → p < to → get_or (put_mid from (to - from) xs ys) p d ≡ a
  written a all p d low high =
      get_or-append_right (take from xs) _ from p d (length-take-le from xs (omega arith)) low
      ∙ get_or_append_left ys (post_of from (to - from) xs) d (p - from) (omega arith)
      ∙ all (p - from) d (omega arith)

pub returns-clause-inside : goal.returns-clause-inside
returns-clause-inside g c =
    let len : length c.fill_with.new.self ≡ c.args.to - c.args.from = c.fill_with.ensures.len ∙ simp (length-take, length-drop) (omega arith) in
    written c.args.places.now c.fill_with.new.self c.args.from c.args.to c.requires.rising c.requires.within len c.args.value
    (λ p d h. each_given _ (λ s. s.0.now) c.args.value (λ s q x met. search rules) _ _ _ (refl {a = c.args.value}) c.fill_with.ensures.ran.1 p d (omega arith))
