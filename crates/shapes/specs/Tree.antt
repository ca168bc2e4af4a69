-- A sibling tree over the nodes 0 to count - 1, by four partial maps.
use Rattle.std.specs.Prelude.{◌≡◌, ℕ, ◌+◌, ◌<◌, ◌≤◌, ◌⊎◌, Some, None, Option}
use Rattle.shapes.specs.declared.axis.Axis.{Axis}
use Rattle.shapes.specs.declared.axis.Axis.TheVariants.{First, Next, Owner, Previous}

pub record Tree : Type 0 where
  pub count : ℕ
  pub first : ℕ → Option ℕ
  pub next : ℕ → Option ℕ
  pub owner : ℕ → Option ℕ
  pub previous : ℕ → Option ℕ

abbrev pub tree : ℕ → (ℕ → Option ℕ) → (ℕ → Option ℕ) → (ℕ → Option ℕ) → (ℕ → Option ℕ) → Tree
tree n f x o p = record { count = n; first = f; next = x; owner = o; previous = p }

abbrev pub along : Tree → Axis → ℕ → Option ℕ
along t First = t.first
along t Next = t.next
along t Owner = t.owner
along t Previous = t.previous

-- the axis that leads back
abbrev pub back : Axis → Axis
back First = Owner
back Next = Previous
back Owner = First
back Previous = Next

-- the two hold together
abbrev pub Iff : Type 0 → Type 0 → Type 0
Iff A B = (A → B) × (B → A)

-- one of the two holds, and not both
abbrev pub EitherOne : Type 0 → Type 0 → Type 0
EitherOne A B = (A × (B → ⊥)) ⊎ ((A → ⊥) × B)

abbrev pub Present : Option ℕ → Type 0
Present o = (y : ℕ) × (o ≡ Some y)

-- a shape has 1 to 2,048 nodes
abbrev pub Countable : ℕ → Type 0
Countable n = (1 ≤ n) × (n ≤ 2048)

-- what makes four maps one sibling tree
pub record Laws (t : Tree) : Type 0 where
  pub countable : Countable t.count
  -- nothing outside the nodes has a neighbour, and every neighbour is a node
  pub outside : (a : Axis) (x : ℕ) → t.count ≤ x → along t a x ≡ None
  pub inside : (a : Axis) (x y : ℕ) → along t a x ≡ Some y → y < t.count
  -- owner is first reversed, previous is next reversed, and the other way round
  pub reversed : (a : Axis) (x y : ℕ) → along t a x ≡ Some y → along t (back a) y ≡ Some x
  -- the root stands alone, and every other node has just one of owner and previous
  pub root_owner : t.owner 0 ≡ None
  pub root_previous : t.previous 0 ≡ None
  pub root_next : t.next 0 ≡ None
  pub one_way_in : (y : ℕ) → 0 < y → y < t.count → EitherOne (Present (t.owner y)) (Present (t.previous y))
  -- a whole number for each node: 0 at the root only, growing by 1 along first and along next
  pub level : ℕ → ℕ
  pub level_root : level 0 ≡ 0
  pub level_other : (y : ℕ) → 0 < y → y < t.count → 0 < level y
  pub level_first : (x y : ℕ) → t.first x ≡ Some y → level y ≡ level x + 1
  pub level_next : (x y : ℕ) → t.next x ≡ Some y → level y ≡ level x + 1

-- the same nodes and the same neighbours
pub record SameTree (s t : Tree) : Type 0 where
  pub count : s.count ≡ t.count
  pub maps : (a : Axis) (x : ℕ) → along s a x ≡ along t a x
