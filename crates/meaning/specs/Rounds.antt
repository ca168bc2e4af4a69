-- A block in rounds: from its start values on, all its entries at once take the grades that their terms give.
use Rattle.std.specs.Prelude.{ℕ, zero, suc, ◌*◌, cond, length, ◌==◌}
use Rattle.grades.specs.Kind.{Kind}
use Rattle.shapes.specs.Tree.{Tree}
use Rattle.queries.specs.declared.block.Solution.{Solution}
use Rattle.queries.specs.declared.block.Solution.TheVariants.{Least, Greatest}
use Rattle.queries.specs.Table.{Table, term_at, block_of, direction}
use Rattle.meaning.specs.Solutions.{Grades, grade_of_lem}

-- the start value: lowest for a least solution, highest for a greatest one
abbrev pub start : {G : Type 0} → Kind G → Solution → G
start k Least = k.lowest
start k Greatest = k.highest

-- block b at its start values, all else as in v
unfoldable pub started : {G : Type 0} → Kind G → Table → ℕ → Grades G → Grades G
started k q b v i x = cond (block_of q i == b) (start k (direction q i)) (v i x)

-- one round: block b as its terms give it, all else as in v
unfoldable pub advanced : {G : Type 0} → Kind G → Tree → Table → Grades G → ℕ → Grades G → Grades G
advanced k t q marks b v i x = cond (block_of q i == b) (grade_of_lem k t marks v (term_at q i) x) (v i x)

-- n rounds from the start values
abbrev pub after : {G : Type 0} → Kind G → Tree → Table → Grades G → ℕ → Grades G → ℕ → Grades G
after k t q marks b v zero = started k q b v
after k t q marks b v (suc n) = advanced k t q marks b (after k t q marks b v n)

-- rounds that suffice for every block
abbrev pub enough : {G : Type 0} → Kind G → Tree → Table → ℕ
enough k t q = length q.terms * (t.count * k.height)
