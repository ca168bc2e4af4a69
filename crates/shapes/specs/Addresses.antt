-- Addresses: a sibling tree by words of positive numbers.
-- The letters are the positions from the root down, each counted from 1 at the first child.
use Rattle.std.specs.Prelude.{◌≡◌, ℕ, zero, suc, ◌+◌, ◌<◌, ◌≤◌, List, [], ◌∷◌, ◌++◌, reverse, Some, None}
use Rattle.std.specs.List.{AllByRecursion}
use Rattle.shapes.specs.Tree.{Tree, Iff}

-- some node has the word
abbrev pub NodeAt : Tree → (ℕ → List ℕ) → List ℕ → Type 0
NodeAt t address w = (y : ℕ) × (y < t.count) × (address y ≡ w)

-- the second word has a last letter one greater, and is else the first
pub record RightOf (v w : List ℕ) : Type 0 where
  pub above : List ℕ
  pub position : ℕ
  pub left : v ≡ above ++ position ∷ []
  pub right : w ≡ above ++ (position + 1) ∷ []

-- the words are those of a sibling tree, and the maps of t are read off them
pub record Addressed (t : Tree) (address : ℕ → List ℕ) : Type 0 where
  pub root : address 0 ≡ []
  pub outside : (x : ℕ) → t.count ≤ x → address x ≡ []
  pub positive : (x : ℕ) → x < t.count → AllByRecursion (λ n. 1 ≤ n) (address x)
  pub distinct : (x y : ℕ) → x < t.count → y < t.count → address x ≡ address y → x ≡ y
  -- a word without its last letter, or with it lowered and still positive, is a node's word too
  pub shorter : (x : ℕ) (w : List ℕ) (n : ℕ) → x < t.count → address x ≡ w ++ n ∷ [] → NodeAt t address w
  pub lower : (x : ℕ) (w : List ℕ) (n : ℕ) → x < t.count → 1 ≤ n → address x ≡ w ++ (n + 1) ∷ [] → NodeAt t address (w ++ n ∷ [])
  -- the first child has the letter 1 more, and the right neighbour a last letter one greater
  pub first : (x y : ℕ) → Iff (t.first x ≡ Some y) ((x < t.count) × (y < t.count) × (address y ≡ address x ++ 1 ∷ []))
  pub next : (x y : ℕ) → Iff (t.next x ≡ Some y) ((x < t.count) × (y < t.count) × RightOf (address x) (address y))

-- The addresses by a function. Addressed says what they are; that these are they, and no others, is proved.

-- the last letter one greater, in a word written last letter first
abbrev pub raised : List ℕ → List ℕ
raised [] = []
raised (n ∷ w) = (n + 1) ∷ w

-- the word of a node, last letter first, by at most k steps back towards the root
abbrev pub letters : Tree → ℕ → ℕ → List ℕ
letters t zero x = []
letters t (suc k) x = elim (t.previous x) [
  | None ↦ elim (t.owner x) [ None ↦ [] | Some above ↦ 1 ∷ letters t k above ]
  | Some left ↦ raised (letters t k left)
]

abbrev pub address_of : Tree → ℕ → List ℕ
address_of t x = reverse (letters t t.count x)

-- the tree has an addressing, and no other
pub record SiblingTree (t : Tree) : Type 0 where
  pub addressed : Addressed t (address_of t)
  pub only : (address : ℕ → List ℕ) → Addressed t address → (x : ℕ) → address x ≡ address_of t x
