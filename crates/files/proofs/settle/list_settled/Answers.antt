use Rattle.std.proofs.Common.{◌≡◌, ◌*◌, ◌++◌, length, drop, refl, ap₂, ◌∙◌}
use Rattle.queries.proofs.Questions.{rules_kept}
use Rattle.meaning.specs.Tables.{grades_in}
use Rattle.surveys.specs.Queried.{tree_in, opening_on}
use Rattle.surveys.specs.Rules.{opened}
use Rattle.files.specs.Listings.{filed}
use Rattle.files.proofs.LentFronts.{front_holds, stands_longer}
use Rattle.files.proofs.Settled.{never_refused, row_length, row_read, runs_out, settles}
use Rattle.files.proofs.ListedRows.{lists_same}
use Rattle.files.proofs.settle.list_settled.Goals as goal

pub returns-then-not-all-clause-answer : goal.returns-then-not-all-clause-answer
returns-then-not-all-clause-answer g c m agrees =
    let o = opening_on g.G.Grade.kind g.S.Shape c.args.queried.now m in
    let ran = c.in_ok-steps.ensures.rules m (opened o) (c.in_ok-survey.ensures.answer.stands m agrees) in
    (runs_out refl c.if-not-all.true ran.1.0, refl {a = c.args.output.now})

pub returns-in_err-row-clause-accepted : goal.returns-in_err-row-clause-accepted
returns-in_err-row-clause-accepted g c =
    let t = tree_in g.S.Shape c.args.queried.now in
    let m = grades_in g.G.Grade.kind t.count c.args.marks.now in
    let o = opening_on g.G.Grade.kind g.S.Shape c.args.queried.now m in
    let ran = c.in_ok-steps.ensures.rules m (opened o) (c.in_ok-survey.ensures.answer.stands m (λ a x _ _. refl)) in
    let n = c.term_count.result * c.node_count.result in
    let size : n ≡ length o.query.terms * o.tree.count = ap₂ (λ i x. i * x) c.term_count.ensures c.node_count.ensures in
    absurd (never_refused (rules_kept c.args.queried.now.query.now) c.requires.asked (settles refl c.if-not-all.false ran.1.0).all
    (c.in_err-row.ensures.rules m ran.0 c.args.marks.now c.run.new.waiting (stands_longer ran.1.1 size c.args.values.now c.requires.room.values (c.run.auto.values ∙ c.open.auto.values))))

pub returns-clause-answer : goal.returns-clause-answer
returns-clause-answer g c m agrees =
    let o = opening_on g.G.Grade.kind g.S.Shape c.args.queried.now m in
    let ran = c.in_ok-steps.ensures.rules m (opened o) (c.in_ok-survey.ensures.answer.stands m agrees) in
    let n = c.term_count.result * c.node_count.result in
    let size : n ≡ length o.query.terms * o.tree.count = ap₂ (λ i x. i * x) c.term_count.ensures c.node_count.ensures in
    let stands = stands_longer ran.1.1 size c.args.values.now c.requires.room.values (c.run.auto.values ∙ c.open.auto.values) in
    let run = settles refl c.if-not-all.false ran.1.0 in
    record {
      steps = c.in_ok-steps.steps;
      state = ran.0;
      settles = run;
      holds = front_holds stands size run.all c.args.waiting.now c.requires.room.waiting (c.run.auto.waiting ∙ c.open.auto.waiting);
      written = record {
        text = c.write_listing.ensures.text;
        holds = lists_same (filed g.G.Grade.kind g.G.FiledGrade.number)
            (row_length c.args.asked o.tree.count (length o.query.terms) (c.run.new.values ++ drop n c.args.values.now) c.in_ok-row.row.now c.requires.asked c.in_ok-row.ensures.causes.fits.room c.in_ok-row.ensures.row)
            c.in_ok-steps.steps _ _ (row_read (c.in_ok-row.ensures.rules m ran.0 c.args.marks.now c.run.new.waiting stands)) c.write_listing.ensures.holds;
        is_size = c.write_listing.ensures.is_size;
        writes = c.write_listing.ensures.writes;
      };
    }
