-- The letters of the nodes of a lawful tree, last letter first.
use Rattle.std.proofs.Common.{◌≡◌, ℕ, zero, suc, ◌+◌, ◌<◌, ◌≤◌, ◌⊎◌, List, [], ◌∷◌, Some, None, sym, refl, ap, ◌∙◌, inl, inr, ⊎_elim, arith}
use Rattle.std.specs.List.{AllByRecursion}
use Rattle.shapes.specs.declared.axis.Axis.TheVariants.{First, Next}
use Rattle.shapes.specs.Tree.{Tree, Laws}
use Rattle.shapes.specs.Addresses.{raised, letters}
use Rattle.shapes.specs.Trees.{starts_inside, way_in, tree_ind, level_below, child_first}
use Rattle.shapes.specs.Walks.{not_both}

pub no_letter : (v w : List ℕ) (n : ℕ) → v ≡ [] → v ≡ n ∷ w → ⊥
no_letter v w n e f = cc

all_raised : (w : List ℕ) → AllByRecursion (λ n. 1 ≤ n) w → AllByRecursion (λ n. 1 ≤ n) (raised w)
all_raised [] a = a
all_raised (n ∷ w) a = (omega arith, a.1)

-- one step of the letters
module _ (t : Tree) where
  letters_none : (k x : ℕ) → t.previous x ≡ None → t.owner x ≡ None → letters t k x ≡ []
  letters_none zero x p o = refl
  letters_none (suc k) x p o = rw (p, o, letters) refl

  letters_owner : (k x y : ℕ) → t.previous x ≡ None → t.owner x ≡ Some y → letters t (suc k) x ≡ 1 ∷ letters t k y
  letters_owner k x y p o = rw (p, o, letters) refl

  letters_previous : (k x y : ℕ) → t.previous x ≡ Some y → letters t (suc k) x ≡ raised (letters t k y)
  letters_previous k x y p = rw (p, letters) refl

-- what a word for each node has to be
pub record Lettered (t : Tree) (L : ℕ → List ℕ) : Type 0 where
  pub none : (x : ℕ) → t.previous x ≡ None → t.owner x ≡ None → L x ≡ []
  pub first : (x y : ℕ) → t.first x ≡ Some y → L y ≡ 1 ∷ L x
  pub next : (x y : ℕ) → t.next x ≡ Some y → L y ≡ raised (L x)

module _ (t : Tree) (l : Laws t) where
  first_letters : (k x y : ℕ) → t.first x ≡ Some y → letters t (suc k) y ≡ 1 ∷ letters t k x
  first_letters k x y e = letters_owner t k y x (child_first t l x y e).1 (l.reversed First x y e)

  next_letters : (k x y : ℕ) → t.next x ≡ Some y → letters t (suc k) y ≡ raised (letters t k x)
  next_letters k x y e = letters_previous t k y x (l.reversed Next x y e)

  root_letters : (k : ℕ) → letters t k 0 ≡ []
  root_letters k = letters_none t k 0 l.root_previous l.root_owner

  -- with steps enough one more changes nothing
  enough : (k x : ℕ) → x < t.count → l.level x ≤ k → letters t (suc k) x ≡ letters t k x
  enough zero x h le = ⊎_elim
      (λ e. rw e (root_letters 1))
      (⊎_elim
      (λ w. absurd (omega (arith, l.level_first w.0 x w.1)))
      (λ w. absurd (omega (arith, l.level_next w.0 x w.1))))
      (way_in t l x h)
  enough (suc k) x h le = ⊎_elim
      (λ e. rw e (root_letters (suc (suc k)) ∙ sym (root_letters (suc k))))
      (⊎_elim
      (λ w.
      let i = enough k w.0 (starts_inside t l First w.0 x w.1) (omega (arith, l.level_first w.0 x w.1)) in
      first_letters (suc k) w.0 x w.1 ∙ ap (λ (u : List ℕ). 1 ∷ u) i ∙ sym (first_letters k w.0 x w.1))
      (λ w.
      let i = enough k w.0 (starts_inside t l Next w.0 x w.1) (omega (arith, l.level_next w.0 x w.1)) in
      next_letters (suc k) w.0 x w.1 ∙ ap raised i ∙ sym (next_letters k w.0 x w.1)))
      (way_in t l x h)

  within : (x : ℕ) → x < t.count → letters t (suc t.count) x ≡ letters t t.count x
  within x h = enough t.count x h (omega (arith, level_below t l x h))

  pub lettered : Lettered t (letters t t.count)
  lettered = record {
    none = letters_none t t.count;
    first = λ x y e. sym (within y (l.inside First x y e)) ∙ first_letters t.count x y e;
    next = λ x y e. sym (within y (l.inside Next x y e)) ∙ next_letters t.count x y e;
  }

-- a node but the root has a letter more than the node above it
pub record Below (t : Tree) (L : ℕ → List ℕ) (x : ℕ) : Type 0 where
  pub above : ℕ
  pub position : ℕ
  pub node : above < t.count
  pub counted : 1 ≤ position
  pub word : L x ≡ position ∷ L above

-- the way to a node, with its letters
pub data Way (t : Tree) (L : ℕ → List ℕ) (y : ℕ) : Type 0 where
  at_root : y ≡ 0 → L y ≡ [] → Way t L y
  child : (p : ℕ) → t.first p ≡ Some y → L y ≡ 1 ∷ L p → Way t L y
  sibling : (p m : ℕ) (w : List ℕ) → t.next p ≡ Some y → 1 ≤ m → L p ≡ m ∷ w → L y ≡ (m + 1) ∷ w → Way t L y

module _ (t : Tree) (l : Laws t) (L : ℕ → List ℕ) (s : Lettered t L) where
  pub root_none : L 0 ≡ []
  root_none = s.none 0 l.root_previous l.root_owner

  pub placed : (x : ℕ) → x < t.count → (x ≡ 0) ⊎ Below t L x
  placed = tree_ind t l (λ x. (x ≡ 0) ⊎ Below t L x)
      (inl refl)
      (λ x y e b. inr (record { above = x; position = 1; node = starts_inside t l First x y e; counted = omega arith; word = s.first x y e }))
      (λ x y e b. ⊎_elim
      (λ z. absurd (not_both (t.next x) y (rw z l.root_next) e))
      (λ b. inr (record { above = b.above; position = b.position + 1; node = b.node; counted = omega arith; word = s.next x y e ∙ ap raised b.word }))
      b)

  -- the root has no sibling
  pub before_next : (x y : ℕ) → t.next x ≡ Some y → Below t L x
  before_next x y e = ⊎_elim
      (λ z. absurd (not_both (t.next x) y (rw z l.root_next) e))
      (λ b. b)
      (placed x (starts_inside t l Next x y e))

  pub after_next : (x y : ℕ) (e : t.next x ≡ Some y) → L y ≡ ((before_next x y e).position + 1) ∷ L (before_next x y e).above
  after_next x y e = s.next x y e ∙ ap raised (before_next x y e).word

  pub ways : (y : ℕ) → y < t.count → Way t L y
  ways y h = ⊎_elim
      (λ e. at_root e (ap L e ∙ root_none))
      (⊎_elim
      (λ w. child w.0 w.1 (s.first w.0 y w.1))
      (λ w. let b = before_next w.0 y w.1 in sibling w.0 b.position (L b.above) w.1 b.counted b.word (after_next w.0 y w.1)))
      (way_in t l y h)

  pub all_counted : (x : ℕ) → x < t.count → AllByRecursion (λ n. 1 ≤ n) (L x)
  all_counted = tree_ind t l (λ x. AllByRecursion (λ n. 1 ≤ n) (L x))
      (rw root_none tt)
      (λ x y e a. rw (s.first x y e) (omega arith, a))
      (λ x y e a. rw (s.next x y e) (all_raised (L x) a))

  -- equal words are of one node
  pub apart : (x y : ℕ) → x < t.count → y < t.count → L x ≡ L y → x ≡ y
  apart x y h h' e = tree_ind t l (λ x. (y : ℕ) → y < t.count → L x ≡ L y → x ≡ y) root first next x h y h' e
    where
      root : (y : ℕ) → y < t.count → L 0 ≡ L y → 0 ≡ y
      root y h e = elim (ways y h) [
        | at_root z w ↦ sym z
        | child p g w ↦ absurd (no_letter (L y) _ _ (sym e ∙ root_none) w)
        | sibling p m u g c v w ↦ absurd (no_letter (L y) _ _ (sym e ∙ root_none) w)
      ]

      first : (x' x : ℕ) → t.first x' ≡ Some x → ((y : ℕ) → y < t.count → L x' ≡ L y → x' ≡ y) → (y : ℕ) → y < t.count → L x ≡ L y → x ≡ y
      first x' x f ih y h e = let a = s.first x' x f in elim (ways y h) [
        | at_root z w ↦ cc
        | child p g w ↦ let q : x' ≡ p = ih p (starts_inside t l First p y g) (cc) in cc
        | sibling p m u g c v w ↦ absurd (let q : 1 ≡ m + 1 = cc in omega arith)
      ]

      next : (x' x : ℕ) → t.next x' ≡ Some x → ((y : ℕ) → y < t.count → L x' ≡ L y → x' ≡ y) → (y : ℕ) → y < t.count → L x ≡ L y → x ≡ y
      next x' x f ih y h e = let b = before_next x' x f in let a = after_next x' x f in elim (ways y h) [
        | at_root z w ↦ cc
        | child p g w ↦ absurd (let q : b.position + 1 ≡ 1 = cc in omega (arith, b.counted))
        | sibling p m u g c v w ↦
            let k : b.position + 1 ≡ m + 1 = cc in
            let j : b.position ≡ m = omega arith in
            let q : x' ≡ p = ih p (starts_inside t l Next p y g) (cc b.word) in cc
      ]
