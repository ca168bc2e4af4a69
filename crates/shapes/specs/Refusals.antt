-- The published numbers of the refusals of shapes.
use Rattle.std.specs.Prelude.{ℕ}
use Rattle.shapes.specs.declared.refusal.ShapeRefusal.{ShapeRefusal}
use Rattle.shapes.specs.declared.refusal.ShapeRefusal.TheVariants.{NodeCount, BrokenLinks, UnlawfulDepth, NoMemory}

abbrev pub published : ShapeRefusal → ℕ
published NodeCount = 1
published BrokenLinks = 2
published (UnlawfulDepth node) = 2
published NoMemory = 99
