use Rattle.std.proofs.Common.{◌<◌, ◌+◌, false, ◌++◌, drop, length, subst, arith}
use Rattle.std.proofs.lemmas.List.{set-get_or, set-append_left}
use Rattle.queries.specs.Queries.{table_of}
use Rattle.surveys.specs.Resets.{Unsettles}
use Rattle.surveys.proofs.Resets.{unsettles_here, unsettles_not}
use Rattle.surveys.proofs.survey.Survey.unsettle.Goals as goal
use Rattle.surveys.proofs.survey.Survey.unsettle.Goals.{then-reaches, else-reaches}

pub loop-block-preserved : goal.loop-block-preserved
loop-block-preserved c =
    let q = table_of c.args.query.now in
    let tag = c.args.tag in
    let n = c.loop-block.block in
    let xs = c.args.self.now.settled in
    let ys = c.loop-block.flag-items in
    let past = drop c.min-end.result xs in
    let here : n < length ys = omega (arith, c.loop-block-test.true, c.loop-block.auto.flag-items) in
    elim c.if-reaches.branch [
      | then-reaches w ↦
          rw w.flag-items-is (subst (λ zs. Unsettles q tag (n + 1) xs zs) (set-append_left ys past n false here)
          (unsettles_here q tag n xs (ys ++ past) (w.if-reaches.ensures.0 tt) c.loop-block.invariant))
      | else-reaches w ↦
          rw (w.flag-items-is, set-get_or ys n false) (unsettles_not q tag n xs (ys ++ past) w.if-reaches.ensures.1 c.loop-block.invariant)
    ]
