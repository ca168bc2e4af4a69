use Rattle.std.proofs.Common.{◌≡◌, ℕ, map, vec_items}
use Rattle.queries.specs.Entries.{dealt_of, readers_at}
use Rattle.queries.proofs.Readers.{readers_before}
use Rattle.queries.proofs.workings.DealtTerms.entries.Given as goal

abbrev pub invariant-loop-reader : goal.invariant-loop-reader
invariant-loop-reader l = record {
  dealt : map dealt_of (vec_items l.entries) ≡ l.self.terms.now;
  readers : (t : ℕ) → readers_at (vec_items l.entries) t ≡ readers_before l.self.terms.now l.reader t;
}
