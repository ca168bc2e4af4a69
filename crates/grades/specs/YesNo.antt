-- The kind of the grades yes and no.
use Rattle.std.specs.Prelude.{Bool, true, false, cond, not, ◌&&◌, ◌||◌}
use Rattle.std.proofs.Common.{rules}
use Rattle.grades.specs.Kind.{Kind, Laws}

abbrev pub yes_no : Kind Bool
yes_no = record {
  below = λ x y. not x || y;
  joined = ◌||◌;
  met = ◌&&◌;
  turned = not;
  lowest = false;
  highest = true;
  rank = λ x. cond x 1 0;
  height = 1;
}

pub yes_no_laws : Laws yes_no
yes_no_laws = search rules
