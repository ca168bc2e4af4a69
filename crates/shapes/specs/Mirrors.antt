-- The mirror of a sibling tree: children from right to left.
use Rattle.std.specs.Prelude.{◌≡◌, ℕ, zero, suc, Some, None, Option}
use Rattle.shapes.specs.Tree.{Tree, Iff}

-- from x some steps along the map lead to y
pub data Leads (map : ℕ → Option ℕ) : ℕ → ℕ → Type 0 where
  here : (x : ℕ) → Leads map x x
  onward : (x y z : ℕ) → map x ≡ Some y → Leads map y z → Leads map x z

-- z is the last child of x
pub record LastChild (t : Tree) (x z : ℕ) : Type 0 where
  pub eldest : ℕ
  pub first : t.first x ≡ Some eldest
  pub right : Leads t.next eldest z
  pub last : t.next z ≡ None

-- m has the nodes of t, next and previous exchanged, and the last child as the first
pub record MirrorOf (t m : Tree) : Type 0 where
  pub count : m.count ≡ t.count
  pub next : (x : ℕ) → m.next x ≡ t.previous x
  pub previous : (x : ℕ) → m.previous x ≡ t.next x
  pub first : (x z : ℕ) → Iff (m.first x ≡ Some z) (LastChild t x z)
  pub owner : (x z : ℕ) → Iff (m.owner z ≡ Some x) (LastChild t x z)

-- A mirror by functions. Mirror-of says what it is; that these give one is proved.

-- where at most k steps along the map lead
abbrev pub walk_end : (ℕ → Option ℕ) → ℕ → ℕ → ℕ
walk_end map zero x = x
walk_end map (suc k) x = elim (map x) [ None ↦ x | Some y ↦ walk_end map k y ]

-- the last child, if there is a first
abbrev pub last_from : Tree → Option ℕ → Option ℕ
last_from t None = None
last_from t (Some eldest) = Some (walk_end t.next t.count eldest)

-- the owner of the first sibling, for a node that has no next
abbrev pub last_owner : Tree → ℕ → Option ℕ → Option ℕ
last_owner t z None = t.owner (walk_end t.previous t.count z)
last_owner t z (Some y) = None

-- a tree that is Mirror-of t, where t is lawful
abbrev pub mirror : Tree → Tree
mirror t = record {
  count = t.count;
  first = λ x. last_from t (t.first x);
  next = t.previous;
  owner = λ z. last_owner t z (t.next z);
  previous = t.next;
}
