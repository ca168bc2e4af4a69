use Rattle.std.proofs.Common.{ℕ, Bool, List, length, vec_items}
use Rattle.queries.specs.Workings.{listed, reached_before}
use Rattle.queries.proofs.Listed.{stands_listed_push}
use Rattle.queries.proofs.workings.DealtTerms.reached.Goals as goal

pub loop-tag-preserved : goal.loop-tag-preserved
loop-tag-preserved c =
    let row : ℕ → List Bool = λ tag. listed (reached_before c.args.self.terms.now tag (length c.args.self.terms.now)) c.args.self.blocks in
    stands_listed_push vec_items _ _ _ c.in_ok-push.ensures.items row c.loop-tag.tag c.loop-tag.invariant c.in_ok-reached_by.ensures
