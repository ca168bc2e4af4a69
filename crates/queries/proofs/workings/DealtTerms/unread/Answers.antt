use Rattle.std.proofs.Common.{[], map, vec_items, ◌∙◌}
use Rattle.std.proofs.lemmas.List.{get_or_default, take_all}
use Rattle.queries.specs.Entries.{dealt_of}
use Rattle.queries.specs.Workings.{no_term}
use Rattle.queries.proofs.Listed.{taken_push, stands_listed_push}
use Rattle.queries.proofs.Readers.{none_noted}
use Rattle.queries.proofs.workings.DealtTerms.unread.Goals as goal

pub loop-dealt-preserved : goal.loop-dealt-preserved
loop-dealt-preserved c =
    let terms = c.args.self.terms.now in
    let i = c.loop-dealt.dealt-index in
    let pushed = c.in_ok-push.ensures.items in
    record {
      dealt = taken_push dealt_of _ _ _ pushed terms i no_term c.loop-dealt-test.true c.loop-dealt.invariant.dealt (get_or_default terms i _ no_term c.loop-dealt-test.true);
      readers = stands_listed_push (λ e. vec_items e.readers) _ _ _ pushed (λ _. []) i c.loop-dealt.invariant.readers c.new.ensures.items;
    }

pub returns : goal.returns
returns c = (
  c.loop-dealt.invariant.dealt ∙ take_all c.loop-dealt.dealt-index c.args.self.terms.now c.loop-dealt-test.false,
  none_noted (map (λ e. vec_items e.readers) (vec_items c.loop-dealt.entries)) c.loop-dealt.dealt-index c.loop-dealt.invariant.readers,
)
