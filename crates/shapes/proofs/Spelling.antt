-- The word of a node, spelled from its last letter on the way back to the root.
use Rattle.std.proofs.Common.{◌≡◌, ℕ, ◌+◌, ◌-◌, ◌<◌, ◌≤◌, List, [], ◌∷◌, ◌++◌, length, Some, None, sym, refl, ap, ◌∙◌, append_assoc, append-nil, arith}
use Rattle.std.proofs.lemmas.List.{length-append, length-reverse}
use Rattle.shapes.specs.declared.axis.Axis.TheVariants.{Owner, Previous}
use Rattle.shapes.specs.Tree.{Tree, Laws}
use Rattle.shapes.specs.Addresses.{raised, letters, address_of}
use Rattle.shapes.proofs.Letters.{lettered}
use Rattle.shapes.specs.Trees.{starts_inside, level_below}

-- a word whose last letter is counted from k in place of 1
abbrev pub counted_from : ℕ → List ℕ → List ℕ
counted_from k [] = []
counted_from k (n ∷ w) = (n + k - 1) ∷ w

from_one : (w : List ℕ) → counted_from 1 w ≡ w
from_one [] = refl
from_one (n ∷ w) = let e : n + 1 - 1 ≡ n = omega arith in rw e

from_more : (k : ℕ) (w : List ℕ) → counted_from k (raised w) ≡ counted_from (k + 1) w
from_more k [] = refl
from_more k (n ∷ w) = let e : n + 1 + k - 1 ≡ n + (k + 1) - 1 = omega arith in rw e

from_first : (k : ℕ) (w : List ℕ) → counted_from k (1 ∷ w) ≡ k ∷ w
from_first k w = let e : 1 + k - 1 ≡ k = omega arith in rw e

-- on the way from the node to here the word was spelled, and here the count has come to a position
pub record Spelled (t : Tree) (l : Laws t) (node : ℕ) (word : List ℕ) (position here : ℕ) : Type 0 where
  pub spells : word ++ counted_from position (letters t t.count here) ≡ letters t t.count node
  pub bounded : here < t.count → position + l.level here ≤ t.count

module _ (t : Tree) (l : Laws t) (node : ℕ) where
  pub start : Spelled t l node [] 1 node
  start = record {
    spells = from_one (letters t t.count node);
    bounded = λ h. omega (arith, level_below t l node h);
  }

  module _ (word : List ℕ) (k x : ℕ) (s : Spelled t l node word k x) where
    owner_spells : (y : ℕ) → t.owner x ≡ Some y → word ++ k ∷ letters t t.count y ≡ letters t t.count node
    owner_spells y e =
        let a = (lettered t l).first y x (l.reversed Owner x y e) in
        sym (ap (λ (u : List ℕ). word ++ u) (ap (counted_from k) a ∙ from_first k (letters t t.count y))) ∙ s.spells

    pub to_previous : (y : ℕ) → t.previous x ≡ Some y → Spelled t l node word (k + 1) y
    to_previous y e = record {
      spells =
          let a = (lettered t l).next y x (l.reversed Previous x y e) in
          sym (ap (λ (u : List ℕ). word ++ u) (ap (counted_from k) a ∙ from_more k (letters t t.count y))) ∙ s.spells;
      bounded = λ h. omega (arith, l.level_next y x (l.reversed Previous x y e), s.bounded (starts_inside t l Previous x y e));
    }

    pub to_owner : (y : ℕ) → t.owner x ≡ Some y → Spelled t l node (word ++ k ∷ []) 1 y
    to_owner y e = record {
      spells = append_assoc word (k ∷ []) _ ∙ ap (λ (u : List ℕ). word ++ k ∷ u) (from_one (letters t t.count y)) ∙ owner_spells y e;
      bounded = λ h. omega (arith, level_below t l y h);
    }

    pub at_end : t.previous x ≡ None → t.owner x ≡ None → word ≡ letters t t.count node
    at_end p o = sym (append-nil word) ∙ sym (ap (λ (u : List ℕ). word ++ counted_from k u) ((lettered t l).none x p o)) ∙ s.spells

    -- what has an owner has a letter
    pub not_empty : (y : ℕ) → t.owner x ≡ Some y → 1 ≤ length (address_of t node)
    not_empty y e = simp length-reverse (omega (arith, simp length-append at (ap length (owner_spells y e))))

    pub fits : (y : ℕ) → t.previous x ≡ Some y → k ≤ 2048
    fits y e = omega (arith, s.bounded (starts_inside t l Previous x y e), l.countable)
