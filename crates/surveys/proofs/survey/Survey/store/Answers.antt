use Rattle.std.proofs.Common.{None, ap, ◌∙◌, rules}
use Rattle.queues.specs.Calls.{head_of}
use Rattle.surveys.specs.declared.survey.Survey.{Survey}
use Rattle.surveys.specs.Stepping.{with_current}
use Rattle.surveys.proofs.Requeues.{stored_none, found_says, closed_past}
use Rattle.surveys.proofs.survey.Survey.store.Goals as goal
use Rattle.surveys.proofs.survey.Survey.store.Goals.{then-work-lt64, else-work-lt64}

-- the survey with none current
idle : Survey → Survey
idle v = with_current v None

pub returns : goal.returns
unfolding idle
returns c =
    stored_none (head_of c.args.work.queue) (with_current c.args.self.now c.args.current.now) c.args.work _ c.is_none.result c.is_done.result c.is_done.ensures c.if-not-is_done.false
    (elim c.if-work-lt64.branch [
      | then-work-lt64 w ↦ ap idle w.self-is
      | else-work-lt64 w ↦ ap idle w.self-is ∙ closed_past (with_current c.args.self.now c.args.current.now) c.args.work.block (search rules)
    ])
    (found_says c.if-work-lt64.self c.first_stale.result c.is_none.result c.is_none.ensures c.first_stale.ensures)
