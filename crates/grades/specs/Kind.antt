-- A kind of grade: a bounded lattice with a turn that reverses its order, and a rank of bounded height.
use Rattle.std.specs.Prelude.{◌≡◌, ℕ, ◌<◌, ◌≤◌, Bool, T, ◌⊎◌}

-- what a kind means: its order (a test), its turn and its rank, with the operations and the ends of the order
pub record Kind (G : Type 0) : Type 0 where
  pub below : G → G → Bool
  pub joined : G → G → G
  pub met : G → G → G
  pub turned : G → G
  pub lowest : G
  pub highest : G
  pub rank : G → ℕ
  pub height : ℕ

-- the order as a statement
abbrev pub Below : {G : Type 0} → Kind G → G → G → Type 0
Below k x y = T (k.below x y)

-- the test says yes exactly when the statement holds
abbrev pub Says : Bool → Type 0 → Type 0
Says b P = (T b → P) × (P → T b)

-- what every kind keeps
pub record Laws {G : Type 0} (k : Kind G) : Type 0 where
  -- a partial order
  pub below_refl : (x : G) → Below k x x
  pub below_trans : (x y z : G) → Below k x y → Below k y z → Below k x z
  pub below_antisym : (x y : G) → Below k x y → Below k y x → x ≡ y
  -- join is the least upper bound, meet the greatest lower bound
  pub join_left : (x y : G) → Below k x (k.joined x y)
  pub join_right : (x y : G) → Below k y (k.joined x y)
  pub join_least : (x y z : G) → Below k x z → Below k y z → Below k (k.joined x y) z
  pub meet_left : (x y : G) → Below k (k.met x y) x
  pub meet_right : (x y : G) → Below k (k.met x y) y
  pub meet_greatest : (x y z : G) → Below k z x → Below k z y → Below k z (k.met x y)
  -- the ends
  pub lowest_below : (x : G) → Below k k.lowest x
  pub below_highest : (x : G) → Below k x k.highest
  -- turning twice gives the grade back, and turning reverses the order
  pub turn_twice : (x : G) → k.turned (k.turned x) ≡ x
  pub turn_reverses : (x y : G) → Below k x y → Below k (k.turned y) (k.turned x)
  -- a grade strictly above another has the greater rank, and no rank passes the height, which is at most 64
  pub rank_rises : (x y : G) → Below k x y → (x ≡ y) ⊎ (k.rank x < k.rank y)
  pub rank_bounded : (x : G) → k.rank x ≤ k.height
  pub height_bounded : k.height ≤ 64
