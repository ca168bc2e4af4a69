-- What a survey keeps, at every opening on grades of a kind.
use Rattle.std.proofs.Common.{sym, refl}
use Rattle.grades.specs.Kind.{Kind, Laws as KindLaws}
use Rattle.surveys.specs.Calls.{Calls, Course, marks_after}
use Rattle.surveys.specs.Promise.{Kept, Promised, PromiseKept, opening}
use Rattle.surveys.specs.Rules.{Opening, State, opened}
use Rattle.surveys.proofs.Answered.{answered, course_for}
use Rattle.surveys.proofs.Courses.{sound_after}
use Rattle.surveys.proofs.FewSteps.{few_steps}
use Rattle.surveys.proofs.Keys.{sound_key}
use Rattle.surveys.proofs.Lasting.{lasts_course}
use Rattle.surveys.proofs.Marks.{SameMarks, marks_course, blockwise_marks}
use Rattle.surveys.proofs.Outcomes.{does_same, course_same}
use Rattle.surveys.proofs.ReachedTimes.{times_of, times_once}
use Rattle.surveys.proofs.Readings.{Accepted}
use Rattle.surveys.proofs.ReadExactly.{reads_exactly}
use Rattle.surveys.proofs.Sameness.{same_itself}
use Rattle.surveys.proofs.Sound.{Sound, sound_opened}

module _ {G : Type 0} (o : Opening G) (f : Accepted o) where
  kept : (past : Calls G) (s : State G) → Course o (opened o) past s → Kept o past s
  kept past s course =
      let sound : Sound o s = sound_after o f past s course in
      let marks : SameMarks o s.marks (marks_after o.marks past) = marks_course o course o.marks (λ a x h n. refl) in
      record {
        marks = marks;
        told = λ v. blockwise_marks o f (marks_after o.marks past) s.marks v (λ a x h n. sym (marks a x h n));
        key = sound_key o f s sound;
        reads_exactly = reads_exactly o f s sound;
        lasts = λ more s' onward b h times. lasts_course o b f onward sound h times;
        counted = λ b. let n = times_of o f.admitted b course in (n.0, (n.1, λ m times. times_once times n.1));
        few_steps = few_steps o f past course;
      }

  pub promised : Promised o
  promised = record {
    kept = kept;
    answered = λ past s course. answered o f s (sound_after o f past s course);
    one_outcome = λ past s course c v w s' s''. does_same o f (same_itself o s) (sound_after o f past s course) (sound_after o f past s course);
    some_course = λ calls. course_for o f calls (opened o) (sound_opened o);
    one_course = λ past past' s s' same. course_same o f same (same_itself o (opened o)) (sound_opened o) (sound_opened o);
  }

pub promise_kept_lem : {G : Type 0} (k : Kind G) → KindLaws k → PromiseKept k
promise_kept_lem k laws t q marks nodes admitted = promised (opening k t q marks) (record { kind = laws; tree = nodes; admitted = admitted })
