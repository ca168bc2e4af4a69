-- Every lawful tree has one addressing: the letters, read from the first.
use Rattle.std.proofs.Common.{◌≡◌, ℕ, ◌+◌, ◌<◌, ◌≤◌, List, [], ◌∷◌, ◌++◌, reverse, Some, sym, ap, ◌∙◌, ⊎_elim, arith}
use mathlib.Core.List.{reverse-cons, reverse-append, reverse-reverse}
use Rattle.std.proofs.lemmas.List.Elements.{All-push, All-from_recursion, recursion_from_All}
use Rattle.std.proofs.lemmas.List.{same_from_push}
use Rattle.std.proofs.lemmas.Bool.{cases_lt}
use Rattle.std.specs.List.{AllByRecursion}
use Rattle.shapes.specs.declared.axis.Axis.TheVariants.{First, Next, Owner, Previous}
use Rattle.shapes.specs.Tree.{Tree, Laws}
use Rattle.shapes.specs.Addresses.{Addressed, NodeAt, RightOf, SiblingTree, letters, address_of}
use Rattle.shapes.proofs.Letters.{no_letter, Lettered, lettered, placed, before_next, after_next, ways, root_none, all_counted, apart}
use Rattle.shapes.proofs.Letters.Way.{at_root, child, sibling}
use Rattle.shapes.specs.Trees.{starts_inside, tree_ind}

-- words from the first letter and from the last
from_first : (v u : List ℕ) (n : ℕ) → v ≡ n ∷ u → reverse v ≡ reverse u ++ n ∷ []
from_first v u n e = ap reverse e ∙ reverse-cons n u

from_last : (v w : List ℕ) (n : ℕ) → reverse v ≡ w ++ n ∷ [] → v ≡ n ∷ reverse w
from_last v w n e = sym (reverse-reverse v) ∙ ap reverse e ∙ reverse-append w (n ∷ [])

all_reverse : (P : ℕ → Type 0) (w : List ℕ) → AllByRecursion P w → AllByRecursion P (reverse w)
all_reverse P [] a = a
all_reverse P (n ∷ w) a = rw (reverse-cons n w) (recursion_from_All P _ (All-push P (reverse w) n (All-from_recursion P _ (all_reverse P w a.1)) a.0))

module _ (t : Tree) (l : Laws t) (L : ℕ → List ℕ) (s : Lettered t L) where
  shorter : (x : ℕ) (w : List ℕ) (n : ℕ) → x < t.count → L x ≡ n ∷ reverse w → NodeAt t (λ y. reverse (L y)) w
  shorter x w n h e = ⊎_elim
      (λ z. absurd (no_letter (L x) _ _ (ap L z ∙ root_none t l L s) e))
      (λ b. let q : L b.above ≡ reverse w = cc b.word in (b.above, b.node, ap reverse q ∙ reverse-reverse w))
      (placed t l L s x h)

  lower : (x : ℕ) (w : List ℕ) (n : ℕ) → x < t.count → 1 ≤ n → L x ≡ (n + 1) ∷ reverse w → NodeAt t (λ y. reverse (L y)) (w ++ n ∷ [])
  lower x w n h le e = elim (ways t l L s x h) [
    | at_root z u ↦ cc
    | child p g u ↦ absurd (let q : n + 1 ≡ 1 = cc in omega arith)
    | sibling p m v g c a u ↦
        let k : m + 1 ≡ n + 1 = cc in
        let j : m ≡ n = omega arith in
        let q : L p ≡ n ∷ reverse w = cc in
        (p, starts_inside t l Next p x g, from_first (L p) (reverse w) n q ∙ ap (λ (u : List ℕ). u ++ n ∷ []) (reverse-reverse w))
  ]

  first_back : (x y : ℕ) → x < t.count → y < t.count → L y ≡ 1 ∷ L x → t.first x ≡ Some y
  first_back x y h h' e = elim (ways t l L s y h') [
    | at_root z u ↦ cc
    | child p g u ↦ let q : p ≡ x = apart t l L s p x (starts_inside t l First p y g) h (cc) in cc
    | sibling p m v g c a u ↦ absurd (let q : m + 1 ≡ 1 = cc in omega arith)
  ]

  next_back : (x y : ℕ) (w : List ℕ) (n : ℕ) → x < t.count → y < t.count → L x ≡ n ∷ w → L y ≡ (n + 1) ∷ w → t.next x ≡ Some y
  next_back x y w n h h' e e' = elim (ways t l L s y h') [
    | at_root z u ↦ cc
    | child p g u ↦ absurd (let q : n + 1 ≡ 1 = cc in let c = rw e at (all_counted t l L s x h) in omega arith)
    | sibling p m v g c a u ↦
        let k : m + 1 ≡ n + 1 = cc in
        let j : m ≡ n = omega arith in
        let q : p ≡ x = apart t l L s p x (starts_inside t l Next p y g) h (cc) in cc
  ]

  pub addressed : Addressed t (λ x. reverse (L x))
  addressed = record {
    root = ap reverse (root_none t l L s);
    outside = λ x le. ap reverse (s.none x (l.outside Previous x le) (l.outside Owner x le));
    positive = λ x h. all_reverse (λ n. 1 ≤ n) (L x) (all_counted t l L s x h);
    distinct = λ x y h h' e. apart t l L s x y h h' (sym (reverse-reverse (L x)) ∙ ap reverse e ∙ reverse-reverse (L y));
    shorter = λ x w n h e. shorter x w n h (from_last (L x) w n e);
    lower = λ x w n h le e. lower x w n h le (from_last (L x) w (n + 1) e);
    first = λ x y. (
      λ e. (starts_inside t l First x y e, l.inside First x y e, from_first (L y) (L x) 1 (s.first x y e)),
      λ r. first_back x y r.0 r.1 (from_last (L y) (reverse (L x)) 1 r.2 ∙ ap (λ (u : List ℕ). 1 ∷ u) (reverse-reverse (L x))),
    );
    next = λ x y. (
      λ e. (
        starts_inside t l Next x y e,
        l.inside Next x y e,
        record {
          above = reverse (L (before_next t l L s x y e).above);
          position = (before_next t l L s x y e).position;
          left = from_first (L x) _ _ (before_next t l L s x y e).word;
          right = from_first (L y) _ _ (after_next t l L s x y e);
        },
      ),
      λ r. next_back x y (reverse r.2.above) r.2.position r.0 r.1 (from_last (L x) r.2.above r.2.position r.2.left) (from_last (L y) r.2.above (r.2.position + 1) r.2.right),
    );
  }

module _ (t : Tree) (l : Laws t) where
  one_addressing : (a b : ℕ → List ℕ) → Addressed t a → Addressed t b → (x : ℕ) → a x ≡ b x
  one_addressing a b s s' x = ⊎_elim
      (tree_ind t l (λ x. a x ≡ b x)
      (s.root ∙ sym s'.root)
      (λ x y e q. ((s.first x y).0 e).2 ∙ ap (λ (u : List ℕ). u ++ 1 ∷ []) q ∙ sym ((s'.first x y).0 e).2)
      (λ x y e q. right (a x) (a y) (b x) (b y) q ((s.next x y).0 e).2 ((s'.next x y).0 e).2)
      x)
      (λ le. s.outside x le ∙ sym (s'.outside x le))
      (cases_lt x t.count)
    where
      right : (v w v' w' : List ℕ) → v ≡ v' → RightOf v w → RightOf v' w' → w ≡ w'
      right v w v' w' e r r' =
          let p = same_from_push r.above r'.above r.position r'.position (sym r.left ∙ e ∙ r'.left) in
          cc (p.0, p.1, r.right, r'.right)

  pub sibling_tree : SiblingTree t
  sibling_tree = record {
    addressed = addressed t l (letters t t.count) (lettered t l);
    only = λ a s. one_addressing a (address_of t) s (addressed t l (letters t t.count) (lettered t l));
  }
