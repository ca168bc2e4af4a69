-- A settled block lasts until a retag that alters a mark reaches it.
use Rattle.std.proofs.Common.{ℕ, T, ◌∷◌, refl, ◌∙◌}
use Rattle.surveys.specs.Rules.{Opening, State, Makes}
use Rattle.surveys.specs.Calls.{Call, Answer, Calls, Does, Course, ReachedTimes}
use Rattle.surveys.specs.Promise.{Lasts}
use Rattle.surveys.proofs.Courses.{sound_does}
use Rattle.surveys.proofs.Readings.{Accepted}
use Rattle.surveys.proofs.ReachedTimes.{times_before, times_unreached}
use Rattle.surveys.proofs.Retagged.{retag_lasts}
use Rattle.surveys.proofs.Sound.{Sound}
use Rattle.surveys.proofs.Stepped.{sound_steps, step_lasts}

module _ {G : Type 0} (o : Opening G) (b : ℕ) where
  lasts_itself : (s : State G) → T (s.settled b) → Lasts o b s s
  lasts_itself s h = record { settled = h; rows = λ i x e. refl }

  lasts_then : (s s' s'' : State G) → Lasts o b s s' → Lasts o b s' s'' → Lasts o b s s''
  lasts_then s s' s'' one two = record { settled = two.settled; rows = λ i x e. two.rows i x e ∙ one.rows i x e }

  module _ (f : Accepted o) where
    lasts_makes : {n : ℕ} {s s' : State G} → Makes o n s s' → Sound o s → T (s.settled b) → Lasts o b s s'
    lasts_makes (Makes.none s) sound h = lasts_itself s h
    lasts_makes (Makes.one_more n s s' s'' st more) sound h =
        let one : Lasts o b s s' = step_lasts o f s s' sound st b h in
        lasts_then s s' s'' one (lasts_makes more (sound_steps o f s s' sound st) one.settled)

    lasts_does : {s s' : State G} {c : Call G} {v : Answer G} (more : Calls G) → Does o s c v s' → Sound o s → T (s.settled b) → ReachedTimes o.query b ((c, v) ∷ more) 0 → Lasts o b s s'
    lasts_does {s = s} more (Does.retags x a g s' node tag r) sound h times = retag_lasts o f a x g s s' r b (times_unreached times) h
    lasts_does {s = s} more (Does.leaves x a g node tag same) sound h times = lasts_itself s h
    lasts_does {s = s} more (Does.no_such_mark x a g no_mark) sound h times = lasts_itself s h
    lasts_does {s = s} more (Does.steps all s' st says) sound h times = step_lasts o f s s' sound st b h
    lasts_does {s = s} more (Does.nothing_left all) sound h times = lasts_itself s h
    lasts_does {s = s} more (Does.runs k n all s' le makes says end) sound h times = lasts_makes makes sound h
    lasts_does {s = s} more (Does.reads r vs l t row) sound h times = lasts_itself s h
    lasts_does {s = s} more (Does.no_such_term r l) sound h times = lasts_itself s h
    lasts_does {s = s} more (Does.not_settled r l e) sound h times = lasts_itself s h

    pub lasts_course : {s s' : State G} {past : Calls G} → Course o s past s' → Sound o s → T (s.settled b) → ReachedTimes o.query b past 0 → Lasts o b s s'
    lasts_course (Course.empty s) sound h times = lasts_itself s h
    lasts_course (Course.then s s' s'' c v more does rest) sound h times =
        let one : Lasts o b s s' = lasts_does more does sound h times in
        lasts_then s s' s'' one (lasts_course rest (sound_does o f does sound) one.settled (times_before times))
