use Rattle.std.proofs.Common.{◌*◌, length, refl}
use Rattle.queries.proofs.Questions.{rules_kept}
use Rattle.meaning.specs.Tables.{place}
use Rattle.queues.proofs.Within.{within_same}
use Rattle.surveys.specs.Standing.{lent}
use Rattle.surveys.specs.Queried.{tree_in, table_in}
use Rattle.surveys.specs.Stepping.{with_current}
use Rattle.surveys.proofs.StepAnswers.{altered_none, altered_one, within_one, takes_up_some, works_off_not, entry_inside, takes_so, all_settled, no_foreign_entry, works_off}
use Rattle.surveys.proofs.Waiting.{waits_same, step_waits}
use Rattle.surveys.proofs.survey.Survey.work_step.Goals as goal

pub returns-in_default : goal.returns-in_default
returns-in_default g c =
    let t = tree_in g.S.Shape c.args.queried.now in
    let q = table_in c.args.queried.now in
    let l = lent c.args.marks.now c.args.values.now c.args.waiting.now in
    record {
      rules = λ m. all_settled g.G.Grade.kind t q (rules_kept c.args.queried.now.query.now) (g.met.S.Shape.laws c.args.queried.now.shape.now) (with_current c.args.self.now c.args.current.now) l m c.in_default.ensures;
      refusals = ((c.requires, c.in_default.ensures), (refl {a = (with_current c.args.self.now c.args.current.now)}, refl {a = l}));
      values = within_same (length q.terms * t.count) c.args.values.now;
      waiting = waits_same (length q.terms * t.count) (with_current c.args.self.now c.args.current.now) c.args.waiting.now;
      bounded = altered_none c.args.values.now;
    }

pub returns-in_default-evaluated : goal.returns-in_default-evaluated
returns-in_default-evaluated g c =
    let t = tree_in g.S.Shape c.args.queried.now in
    let q = table_in c.args.queried.now in
    let l = lent c.args.marks.now c.args.values.now c.args.waiting.now in
    record {
      rules = λ m. no_foreign_entry g.G.Grade.kind t q (rules_kept c.args.queried.now.query.now) (g.met.S.Shape.laws c.args.queried.now.shape.now) (with_current c.args.self.now c.args.current.now) l m c.in-Some.work c.in-Some.ensures c.in_default-evaluated.ensures;
      refusals = ((c.requires, (takes_up_some c.in-Some.ensures, works_off_not t q (with_current c.args.self.now c.args.current.now) l c.in-Some.work c.in-Some.ensures c.in_default-evaluated.ensures)), (refl {a = (with_current c.args.self.now c.args.current.now)}, refl {a = l}));
      values = within_same (length q.terms * t.count) c.args.values.now;
      waiting = waits_same (length q.terms * t.count) (with_current c.args.self.now c.args.current.now) c.args.waiting.now;
      bounded = altered_none c.args.values.now;
    }

pub work_off-requires : goal.work_off-requires
work_off-requires g c =
    let t = tree_in g.S.Shape c.args.queried.now in
    let q = table_in c.args.queried.now in
    let l = lent c.args.marks.now c.args.values.now c.args.waiting.now in
    let inside = entry_inside g.G.Grade.kind t q (rules_kept c.args.queried.now.query.now) (with_current c.args.self.now c.args.current.now) l c.in-Some.work c.in-Some-evaluated.next.entry c.in-Some-evaluated.next.grade c.requires c.in-Some-evaluated.ensures in
    record { node = inside.0; inside = inside.2 }

pub returns : goal.returns
returns g c =
    let t = tree_in g.S.Shape c.args.queried.now in
    let q = table_in c.args.queried.now in
    let l = lent c.args.marks.now c.args.values.now c.args.waiting.now in
    record {
      rules = λ m.
          works_off g.G.Grade.kind t q (rules_kept c.args.queried.now.query.now) (g.met.S.Shape.laws c.args.queried.now.shape.now) (with_current c.args.self.now c.args.current.now) l m c.in-Some.work c.in-Some-evaluated.next.entry c.in-Some-evaluated.next.grade
          (with_current c.store.new.self c.store.new.current) c.work_off.new.queue c.work_off.new.values c.work_off.new.waiting c.store.result c.in-Some.ensures c.in-Some-evaluated.ensures
          (record { values_set = c.work_off.ensures.values; lists = c.work_off.ensures.lists; stays = c.work_off.ensures.stays; stored = c.store.ensures });
      refusals = (
        c.requires,
        (
          takes_up_some c.in-Some.ensures,
          record {
            works_off = record { work = c.in-Some.work; entry = c.in-Some-evaluated.ensures.entry; takes_up = c.in-Some.ensures; evaluates = c.in-Some-evaluated.ensures.evaluates };
            takes = takes_so g.G.Grade.kind t q l c.in-Some.work c.in-Some-evaluated.next.entry c.in-Some-evaluated.next.grade c.work_off.new.values c.in-Some-evaluated.ensures c.work_off.ensures.values;
            left = c.work_off.new.queue;
            stored = c.store.ensures;
          },
        ),
      );
      values =
          within_one (length q.terms * t.count) c.args.values.now c.work_off.new.values (place t.count c.in-Some-evaluated.next.entry.term c.in-Some-evaluated.next.entry.node) c.in-Some-evaluated.next.grade
          (entry_inside g.G.Grade.kind t q (rules_kept c.args.queried.now.query.now) (with_current c.args.self.now c.args.current.now) l c.in-Some.work c.in-Some-evaluated.next.entry c.in-Some-evaluated.next.grade c.requires c.in-Some-evaluated.ensures).1
          c.work_off.ensures.values;
      waiting = step_waits (rules_kept c.args.queried.now.query.now) c.in-Some.ensures c.work_off.new.queue c.args.waiting.now c.work_off.new.waiting c.work_off.ensures.stays (with_current c.store.new.self c.store.new.current) c.store.result c.store.ensures;
      bounded = altered_one c.args.values.now c.work_off.new.values (place t.count c.in-Some-evaluated.next.entry.term c.in-Some-evaluated.next.entry.node) c.in-Some-evaluated.next.grade c.work_off.ensures.values;
    }
