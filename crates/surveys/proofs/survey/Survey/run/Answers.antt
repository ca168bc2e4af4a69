use Rattle.std.proofs.Common.{◌≡◌, ◌≤◌, Bool, true, false, Ok, Err, Result, is_err, refl, arith}
use Rattle.surveys.specs.declared.refusal.SurveyRefusal.{SurveyRefusal}
use Rattle.surveys.specs.Standing.{lent}
use Rattle.surveys.specs.Stepping.{with_current}
use Rattle.surveys.proofs.Requeues.{found_says}
use Rattle.surveys.proofs.Runs.{fits_kept, made_none, made_more, run_done, run_refused, runs_within}
use Rattle.surveys.proofs.survey.Survey.run.Goals as goal

pub loop-made-init : goal.loop-made-init
loop-made-init g c = (c.in_ok-check_fits.ensures, made_none)

accepted : (r : Result Bool SurveyRefusal) → false ≡ is_err r → (all : Bool) × (r ≡ Ok all)
accepted (Ok all) h = (all, refl)
accepted (Err why) h = cc

refused : (r : Result Bool SurveyRefusal) → true ≡ is_err r → (why : SurveyRefusal) × (r ≡ Err why)
refused (Ok all) h = cc
refused (Err why) h = (why, refl)

pub loop-made-preserved : goal.loop-made-preserved
loop-made-preserved g c =
    let e = c.work_step-answer.ensures in
    let so = accepted c.work_step-answer.result c.if-is_err.ensures.value in
    (fits_kept {v = with_current c.loop-made.survey c.loop-made.current} {v' = with_current c.work_step-answer.new.self c.work_step-answer.new.current} {l = lent c.args.marks.now c.loop-made.values c.loop-made.waiting} {l' = lent c.args.marks.now c.work_step-answer.new.values c.work_step-answer.new.waiting} so.0 (rw so.1 at e.refusals).1.1 (refl {a = c.args.marks.now}) e.values.same_length e.waiting.table.same_length c.loop-made.invariant.0, made_more so.0 c.loop-made.invariant.1 (λ m. rw so.1 at (e.rules m)) e.bounded e.values e.waiting)

pub returns-then-is_err : goal.returns-then-is_err
returns-then-is_err g c =
    let few : c.loop-made.made ≤ c.args.most = omega arith in
    let e = c.work_step-answer.ensures in
    let so = refused c.work_step-answer.result c.if-is_err.ensures.value in
    let why = rw so.1 at e.refusals in
    let r = run_refused c.args.most c.loop-made.made c.is_none.result so.0 few c.loop-made.invariant.1 (λ m. rw so.1 at (e.rules m)) why.1.0 why.1.1 (found_says (with_current c.work_step-answer.new.self c.work_step-answer.new.current) c.first_stale.result c.is_none.result c.is_none.ensures c.first_stale.ensures) in
    record { rules = r.0; answer = (c.in_ok-check_fits.ensures, runs_within {l = lent c.args.marks.now c.args.values.now c.args.waiting.now} {l' = lent c.args.marks.now c.work_step-answer.new.values c.work_step-answer.new.waiting} c.args.most few r.1); values = r.1.within; waiting = r.1.waiting }

pub returns : goal.returns
returns g c =
    let e : c.loop-made.made ≡ c.args.most = omega arith in
    let h = rw e at c.loop-made.invariant.1 in
    record {
      rules = run_done c.args.most c.args.most c.is_none-2.result (omega arith) h (found_says (with_current c.loop-made.survey c.loop-made.current) c.first_stale-2.result c.is_none-2.result c.is_none-2.ensures c.first_stale-2.ensures) (λ less. absurd (omega arith));
      answer = (c.in_ok-check_fits.ensures, runs_within {l = lent c.args.marks.now c.args.values.now c.args.waiting.now} {l' = lent c.args.marks.now c.loop-made.values c.loop-made.waiting} c.args.most (omega arith) h);
      values = h.within;
      waiting = h.waiting;
    }
