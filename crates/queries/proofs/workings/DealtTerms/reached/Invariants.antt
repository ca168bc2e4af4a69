use Rattle.std.proofs.Common.{◌≡◌, map, length, vec_items}
use Rattle.queries.specs.Workings.{listed, reached_before}
use Rattle.queries.proofs.workings.DealtTerms.reached.Given as goal

abbrev pub invariant-loop-tag : goal.invariant-loop-tag
invariant-loop-tag l = map vec_items (vec_items l.reached) ≡ listed (λ tag. listed (reached_before l.self.terms.now tag (length l.self.terms.now)) l.self.blocks) l.tag
