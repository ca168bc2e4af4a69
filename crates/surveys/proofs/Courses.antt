-- Every list of calls keeps the state sound.
use Rattle.std.proofs.Common.{[], ◌∷◌, ◌++◌}
use Rattle.surveys.specs.Rules.{Opening, State, opened}
use Rattle.surveys.specs.Calls.{Call, Answer, Calls, Does, Course}
use Rattle.surveys.proofs.Readings.{Accepted}
use Rattle.surveys.proofs.Retagged.{sound_retags}
use Rattle.surveys.proofs.Sound.{Sound, sound_opened}
use Rattle.surveys.proofs.Stepped.{sound_steps, sound_makes}

module _ {G : Type 0} (o : Opening G) where
  -- one more call at the end, as a program makes it
  pub course_grows : {s s' s'' : State G} {c : Call G} {v : Answer G} (past : Calls G) → Course o s past s' → Does o s' c v s'' → Course o s (past ++ ((c, v) ∷ [])) s''
  course_grows {s'' = s''} {c = c} {v = v} past (Course.empty s) does = Course.then s s'' s'' c v [] does (Course.empty s'')
  course_grows {s'' = s''} {c = c} {v = v} past (Course.then s s₁ s₂ c₁ v₁ more first rest) does = Course.then s s₁ s'' c₁ v₁ (more ++ ((c, v) ∷ [])) first (course_grows more rest does)

  module _ (f : Accepted o) where
    pub sound_does : {s s' : State G} {c : Call G} {v : Answer G} → Does o s c v s' → Sound o s → Sound o s'
    sound_does {s = s} (Does.retags x a g s' node tag r) sound = sound_retags o f a x g s s' r sound
    sound_does (Does.leaves x a g node tag same) sound = sound
    sound_does (Does.no_such_mark x a g h) sound = sound
    sound_does {s = s} (Does.steps all s' st says) sound = sound_steps o f s s' sound st
    sound_does (Does.nothing_left h) sound = sound
    sound_does (Does.runs k n all s' le makes says end) sound = sound_makes o f makes sound
    sound_does (Does.reads r vs h t row) sound = sound
    sound_does (Does.no_such_term r h) sound = sound
    sound_does (Does.not_settled r h e) sound = sound

    pub sound_course : {s s' : State G} {past : Calls G} → Course o s past s' → Sound o s → Sound o s'
    sound_course (Course.empty s) sound = sound
    sound_course (Course.then s s' s'' c v more does rest) sound = sound_course rest (sound_does does sound)

    pub sound_after : (past : Calls G) (s : State G) → Course o (opened o) past s → Sound o s
    sound_after past s course = sound_course course (sound_opened o)
