use Rattle.std.proofs.Common.{◌≡◌, [], map, take, vec_items}
use Rattle.queries.specs.Entries.{dealt_of}
use Rattle.queries.specs.Workings.{listed}
use Rattle.queries.proofs.workings.DealtTerms.unread.Given as goal

abbrev pub invariant-loop-dealt : goal.invariant-loop-dealt
invariant-loop-dealt l = record {
  dealt : map dealt_of (vec_items l.entries) ≡ take l.dealt-index l.self.terms.now;
  readers : map (λ e. vec_items e.readers) (vec_items l.entries) ≡ listed (λ _. []) l.dealt-index;
}
