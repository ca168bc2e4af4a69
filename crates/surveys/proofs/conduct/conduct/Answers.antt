use Rattle.std.proofs.Common.{◌≡◌, Some, Err, sym, ap, ◌∙◌}
use Rattle.surveys.specs.Conducting.{kept_of}
use Rattle.queries.proofs.Questions.{rules_kept}
use Rattle.surveys.proofs.Conducts.{of_kept, of_unkept, so_far_none, so_far_next, so_far_all, conducted, interrupted, given_up}
use Rattle.surveys.proofs.conduct.conduct.Given as given
use Rattle.surveys.proofs.conduct.conduct.Goals as goal
use Rattle.surveys.proofs.conduct.conduct.Goals.{After-push, in-Ok, in-Err-Refused}

-- what is kept of the call
kept : (g : given.Over) (c : After-push g) → kept_of c.make.result ≡ Some c.match-make.answer
kept g c =
    elim c.match-make.branch [ in-Ok w ↦ ap kept_of w.in-Ok.is ∙ ap Some (sym w.answer-is) | in-Err-Refused w ↦ ap kept_of w.in-Err-Refused.is ∙ (ap (λ e. kept_of (Err e)) w.in-Err-Refused.field-0-is ∙ ap Some (sym w.answer-is)) ]

pub loop-call-init : goal.loop-call-init
loop-call-init g c = rw c.new-given.ensures.items (so_far_none c.in_ok-survey.ensures.answer.stands)

pub loop-call-preserved : goal.loop-call-preserved
loop-call-preserved g c =
    so_far_next c.args.calls.now c.loop-call.call-index c.call-item.result c.loop-call-test.true c.call-item.is c.match-make.answer c.in_ok-push.ensures.items c.loop-call.invariant
    (of_kept _ _ c.make.result c.match-make.answer (kept g (goal.at.loop-call-preserved g c).After-push) c.make.ensures)

pub returns-in-Err-NoMemory : goal.returns-in-Err-NoMemory
returns-in-Err-NoMemory g c =
    interrupted c.args.calls.now c.loop-call.call-index c.call-item.result c.loop-call-test.true c.call-item.is _
    g.met.G.Grade.laws (g.met.S.Shape.laws c.args.queried.now.shape.now) (rules_kept c.args.queried.now.query.now)
    c.loop-call.invariant (of_unkept _ _ c.make.result (ap kept_of c.in-Err-NoMemory.is ∙ ap (λ e. kept_of (Err e)) c.in-Err-NoMemory.field-0-is) c.make.ensures).answered

pub returns-in_err-push : goal.returns-in_err-push
returns-in_err-push g c =
    given_up _ _ c.from_residual-in_err-push.result _ c.from_residual-in_err-push.ensures.1
    (interrupted c.args.calls.now c.loop-call.call-index c.call-item.result c.loop-call-test.true c.call-item.is _
    g.met.G.Grade.laws (g.met.S.Shape.laws c.args.queried.now.shape.now) (rules_kept c.args.queried.now.query.now)
    c.loop-call.invariant (of_kept _ _ c.make.result c.match-make.answer (kept g (goal.at.returns-in_err-push g c).After-push) c.make.ensures))

pub returns : goal.returns
returns g c =
    conducted g.met.G.Grade.laws (g.met.S.Shape.laws c.args.queried.now.shape.now) (rules_kept c.args.queried.now.query.now)
    (so_far_all c.args.calls.now c.loop-call.call-index c.loop-call-test.false c.loop-call.invariant)
