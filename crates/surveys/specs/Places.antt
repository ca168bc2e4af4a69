-- Places, and lists of them in rising order.
use Rattle.std.specs.Prelude.{◌≡◌, ℕ, ◌<◌, ◌⊎◌, List, [], ◌∷◌}

-- a term and a node
abbrev pub Place : Type 0
Place = ℕ × ℕ

-- an element of a list
pub data In {A : Type 0} (a : A) : List A → Type 0 where
  first : (rest : List A) → In a (a ∷ rest)
  later : (b : A) (rest : List A) → In a rest → In a (b ∷ rest)

-- by rising term, then by rising node
abbrev pub Before : Place → Place → Type 0
Before p r = (p.0 < r.0) ⊎ ((p.0 ≡ r.0) × (p.1 < r.1))

pub data Rising : List Place → Type 0 where
  none : Rising []
  one_more : (p : Place) (ps : List Place) → ((r : Place) → In r ps → Before p r) → Rising ps → Rising (p ∷ ps)

-- the list has just the places of which P holds, in rising order
pub record Lists (P : Place → Type 0) (ps : List Place) : Type 0 where
  pub sound : (p : Place) → In p ps → P p
  pub whole : (p : Place) → P p → In p ps
  pub rising : Rising ps
