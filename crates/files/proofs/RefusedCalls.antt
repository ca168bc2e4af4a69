-- A reading right after opening, and a step where every block is settled, are refused, and answered nothing else.
use Rattle.std.proofs.Common.{ℕ, ◌<◌, length, refl, arith}
use Rattle.grades.specs.Kind.{Kind, Laws as KindLaws}
use Rattle.surveys.specs.declared.refusal.SurveyRefusal.TheVariants.{NotSettled, AllSettled}
use Rattle.surveys.specs.Calls.{Does}
use Rattle.surveys.specs.Calls.Call.{read, step}
use Rattle.surveys.specs.Promise.{opening}
use Rattle.surveys.specs.Rules.{Opening, State, Steps, opened}
use Rattle.surveys.proofs.Courses.{sound_after}
use Rattle.surveys.proofs.Readings.{Accepted}
use Rattle.surveys.proofs.SameSteps.{no_step}
use Rattle.files.specs.RefusedCalls.{CallsRefused, OnlyRefused}

module _ {G : Type 0} (o : Opening G) where
  early_only : (r : ℕ) → r < length o.query.terms → OnlyRefused o (opened o) (read r) NotSettled
  early_only r less v s' (Does.reads i vs there settled rows) = elim settled [ ]
  early_only r less v s' (Does.no_such_term i past) = absurd (omega arith)
  early_only r less v s' (Does.not_settled i there stale) = (refl, refl)

  idle_only : (s : State G) → ((s' : State G) → Steps o s s' → ⊥) → OnlyRefused o s step AllSettled
  idle_only s none v s' (Does.steps all t made says) = absurd (none t made)
  idle_only s none v s' (Does.nothing_left all) = (refl, refl)

pub calls_refused_lem : {G : Type 0} (k : Kind G) → KindLaws k → CallsRefused k
calls_refused_lem k laws = record {
  early_reading = λ t q marks r less. Does.not_settled r less refl;
  early_reading_only = λ t q marks. early_only (opening k t q marks);
  idle_step = λ t q marks s all. Does.nothing_left all;
  idle_step_only = λ t q marks nodes admitted past s course all.
      let o = opening k t q marks in
      let accepted : Accepted o = record { kind = laws; tree = nodes; admitted = admitted } in
      idle_only o s (λ s'. no_step o accepted s s' (sound_after o accepted past s course) all);
}
