-- A call has one outcome, and so has every list of calls.
use Rattle.std.proofs.Common.{◌≡◌, ◌∷◌, sym, refl, ◌∙◌, subst, subst₂, arith}
use Rattle.queries.specs.Table.{block_of}
use Rattle.surveys.specs.Calls.{Call, Answer, Calls, Does, Course}
use Rattle.surveys.specs.Promise.{SameAnswer, SameState, SameCalls, asked}
use Rattle.surveys.specs.Rules.{Opening, State}
use Rattle.surveys.proofs.Courses.{sound_does}
use Rattle.surveys.proofs.Decisions.{fails_not}
use Rattle.surveys.proofs.Readings.{Accepted}
use Rattle.surveys.proofs.SameRetags.{retags_same}
use Rattle.surveys.proofs.SameSteps.{steps_same, no_step, makes_same}
use Rattle.surveys.proofs.Sameness.{says_same, same_back, all_same}
use Rattle.surveys.proofs.Sound.{Sound}

module _ {G : Type 0} (o : Opening G) (f : Accepted o) {s t : State G} (same : SameState o s t) (sound : Sound o s) (sound' : Sound o t) where
  -- from states that are the same a call has the same answer, and leads to states that are the same
  pub does_same : {c : Call G} {v w : Answer G} {s' t' : State G} → Does o s c v s' → Does o t c w t' → SameAnswer o v w × SameState o s' t'
  does_same (Does.retags x a g s' node tag r) (Does.retags _ _ _ t' node' tag' r') = (SameAnswer.itself _, retags_same o f s t s' t' same a x g r r')
  does_same (Does.retags x a g s' node tag r) (Does.leaves _ _ _ node' tag' is) = absurd (r.alters (same.marks a x tag node ∙ is))
  does_same (Does.retags x a g s' node tag r) (Does.no_such_mark _ _ _ h) = absurd (omega arith)
  does_same (Does.leaves x a g node tag is) (Does.retags _ _ _ t' node' tag' r) = absurd (r.alters (sym (same.marks a x tag node) ∙ is))
  does_same (Does.leaves x a g node tag is) (Does.leaves _ _ _ node' tag' is') = (SameAnswer.itself _, same)
  does_same (Does.leaves x a g node tag is) (Does.no_such_mark _ _ _ h) = absurd (omega arith)
  does_same (Does.no_such_mark x a g h) (Does.retags _ _ _ t' node tag r) = absurd (omega arith)
  does_same (Does.no_such_mark x a g h) (Does.leaves _ _ _ node tag is) = absurd (omega arith)
  does_same (Does.no_such_mark x a g h) (Does.no_such_mark _ _ _ h') = (SameAnswer.itself _, same)
  does_same (Does.steps b s' st says) (Does.steps c t' st' says') =
      let after : SameState o s' t' = steps_same o f s t s' t' same sound st st' in
      let e : b ≡ c = says_same b c says says' (all_same o s' t' after) (all_same o t' s' (same_back o s' t' after)) in
      (subst (λ d. SameAnswer o (Answer.stepped b) (Answer.stepped d)) e (SameAnswer.itself (Answer.stepped b)), after)
  does_same (Does.steps b s' st says) (Does.nothing_left all) = absurd (no_step o f s s' sound (all_same o t s (same_back o s t same) all) st)
  does_same (Does.nothing_left all) (Does.steps c t' st says) = absurd (no_step o f t t' sound' (all_same o s t same all) st)
  does_same (Does.nothing_left all) (Does.nothing_left all') = (SameAnswer.itself _, same)
  does_same (Does.runs k n b s' le makes says end) (Does.runs _ m c t' le' makes' says' end') =
      let r = makes_same o f same sound sound' makes makes' (λ l. end (omega arith)) (λ l. end' (omega arith)) in
      let e : b ≡ c = says_same b c says says' (all_same o s' t' r.1) (all_same o t' s' (same_back o s' t' r.1)) in
      (subst₂ (λ l d. SameAnswer o (Answer.ran n b) (Answer.ran l d)) r.0 e (SameAnswer.itself (Answer.ran n b)), r.1)
  does_same (Does.reads r vs h u rows) (Does.reads _ ws h' u' rows') = (SameAnswer.rows vs ws (λ x l. rows x l ∙ same.values (block_of o.query r) r x (record { term = h; dealt_here = refl; node = l }) ∙ sym (rows' x l)), same)
  does_same (Does.reads r vs h u rows) (Does.no_such_term _ h') = absurd (omega arith)
  does_same (Does.reads r vs h u rows) (Does.not_settled _ h' stale) = absurd (fails_not (same.settled (block_of o.query r) ∙ stale) u)
  does_same (Does.no_such_term r h) (Does.reads _ ws h' u rows) = absurd (omega arith)
  does_same (Does.no_such_term r h) (Does.no_such_term _ h') = (SameAnswer.itself _, same)
  does_same (Does.no_such_term r h) (Does.not_settled _ h' stale) = absurd (omega arith)
  does_same (Does.not_settled r h stale) (Does.reads _ ws h' u rows) = absurd (fails_not (sym (same.settled (block_of o.query r)) ∙ stale) u)
  does_same (Does.not_settled r h stale) (Does.no_such_term _ h') = absurd (omega arith)
  does_same (Does.not_settled r h stale) (Does.not_settled _ h' stale') = (SameAnswer.itself _, same)

module _ {G : Type 0} (o : Opening G) (f : Accepted o) where
  then_same : {s t s' t' : State G} {c d : Call G} {v w : Answer G} → c ≡ d → SameState o s t → Sound o s → Sound o t → Does o s c v s' → Does o t d w t' → SameAnswer o v w × SameState o s' t'
  then_same {s = s} {t = t} {t' = t'} {w = w} e same sound sound' does does' = does_same o f same sound sound' does (subst (λ c. Does o t c w t') (sym e) does')

  -- and so do the same calls, one after the other
  pub course_same : {s t s' t' : State G} {past past' : Calls G} → asked past ≡ asked past' → SameState o s t → Sound o s → Sound o t → Course o s past s' → Course o t past' t' → SameCalls o past past' × SameState o s' t'
  course_same e same sound sound' (Course.empty s) (Course.empty t) = (SameCalls.empty, same)
  course_same e same sound sound' (Course.empty s) (Course.then t t' t'' d w more' does' rest') = cc
  course_same e same sound sound' (Course.then s s' s'' c v more does rest) (Course.empty t) = cc
  course_same e same sound sound' (Course.then s s' s'' c v more does rest) (Course.then t t' t'' d w more' does' rest') =
      let head : c ≡ d = cc in
      let tail : asked more ≡ asked more' = cc in
      let one : SameAnswer o v w × SameState o s' t' = then_same head same sound sound' does does' in
      let on : SameCalls o more more' × SameState o s'' t'' = course_same tail one.1 (sound_does o f does sound) (sound_does o f does' sound') rest rest' in
      (subst (λ d. SameCalls o ((c, v) ∷ more) ((d, w) ∷ more')) head (SameCalls.then c v w more more' one.0 on.0), on.1)
