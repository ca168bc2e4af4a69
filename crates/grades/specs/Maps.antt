-- Maps of grades from one kind to another.
use Rattle.std.specs.Prelude.{◌≡◌}
use Rattle.grades.specs.Kind.{Kind}

-- the map keeps join, meet, turn and both ends
pub record Keeps {G H : Type 0} (k : Kind G) (k' : Kind H) (h : G → H) : Type 0 where
  pub joined : (x y : G) → h (k.joined x y) ≡ k'.joined (h x) (h y)
  pub met : (x y : G) → h (k.met x y) ≡ k'.met (h x) (h y)
  pub turned : (x : G) → h (k.turned x) ≡ k'.turned (h x)
  pub lowest : h k.lowest ≡ k'.lowest
  pub highest : h k.highest ≡ k'.highest
