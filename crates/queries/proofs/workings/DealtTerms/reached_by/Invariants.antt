use Rattle.std.proofs.Common.{◌≡◌, ℕ, ◌<◌, false, length, get_or, vec_items}
use Rattle.queries.specs.Workings.{reached_before}
use Rattle.queries.proofs.workings.DealtTerms.reached_by.Given as goal

abbrev pub invariant-loop-dealt : goal.invariant-loop-dealt
invariant-loop-dealt l = record {
  count : length (vec_items l.reached) ≡ l.self.blocks;
  found : (b : ℕ) → b < l.self.blocks → get_or (vec_items l.reached) b false ≡ reached_before l.self.terms.now l.tag l.dealt-index b;
}
