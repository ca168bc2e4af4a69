-- The published numbers of the refusals of queries, and the term that a refusal carries.
use Rattle.std.specs.Prelude.{ℕ}
use Rattle.queries.specs.declared.refusal.QueryRefusal.{QueryRefusal}
use Rattle.queries.specs.declared.refusal.QueryRefusal.TheVariants.{Sizes, BadBlock, BlockSum, BadTerm, LaterBlock, OwnTurn, NoMemory}

abbrev pub published : QueryRefusal → ℕ
published Sizes = 3
published (BadBlock block) = 3
published BlockSum = 3
published (BadTerm term) = 4
published (LaterBlock term) = 5
published (OwnTurn term) = 6
published NoMemory = 99
