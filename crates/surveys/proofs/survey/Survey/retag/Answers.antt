use Rattle.std.proofs.Common.{◌+◌, ◌*◌, ◌<◌, ◌≤◌, length, arith, rules, refl}
use Rattle.queries.specs.Table.{Reaches}
use Rattle.queries.proofs.Questions.{rules_kept}
use Rattle.meaning.specs.Tables.{place}
use Rattle.queues.proofs.Within.{within_same}
use Rattle.surveys.specs.Promise.{opening}
use Rattle.surveys.specs.Standing.{lent}
use Rattle.surveys.specs.Queried.{tree_in, table_in}
use Rattle.surveys.proofs.Remarks.{absent_by_rules, unaltered_by_rules, altered_so, reset_within, nothing_altered, released_within, mark_there, remarks_altered, remarks_same}
use Rattle.surveys.proofs.survey.Survey.retag.Goals as goal

pub returns-then-not-has_mark : goal.returns-then-not-has_mark
returns-then-not-has_mark g c =
    let k = g.G.Grade.kind in
    let t = tree_in g.S.Shape c.args.queried.now in
    let q = table_in c.args.queried.now in
    let v = c.args.self.now in
    let l = lent c.args.marks.now c.args.values.now c.args.waiting.now in
    let fits = c.in_ok-check_fits.ensures in
    let absent : (c.args.mark.node < v.nodes) × (c.args.mark.tag < v.tags) → ⊥ = λ h. (let e = c.if-not-has_mark.ensures.1 h in cc) in
    record {
      rules = λ m. absent_by_rules (opening k t q m) v l c.args.mark.node c.args.mark.tag c.args.mark.grade absent;
      answer = ((fits, absent), nothing_altered v l);
      values = within_same (v.terms * v.nodes) l.values;
      waiting = within_same (v.terms * v.nodes) l.waiting;
    }

pub overflow_mul-mark : goal.overflow_mul-mark
overflow_mul-mark g c =
    let v = c.args.self.now in
    let l = lent c.args.marks.now c.args.values.now c.args.waiting.now in
    let there = c.if-not-has_mark.ensures.0 refl in
    let inside : place v.nodes c.args.mark.tag c.args.mark.node < length c.args.marks.now = mark_there v l c.args.mark.node c.args.mark.tag c.in_ok-check_fits.ensures.roomy there.0 there.1 in
    let low : c.args.mark.tag * v.nodes ≤ length c.args.marks.now = omega arith in
    search rules

pub overflow_add-mark : goal.overflow_add-mark
overflow_add-mark g c =
    let v = c.args.self.now in
    let l = lent c.args.marks.now c.args.values.now c.args.waiting.now in
    let there = c.if-not-has_mark.ensures.0 refl in
    let inside : c.args.mark.tag * v.nodes + c.args.mark.node < length c.args.marks.now = mark_there v l c.args.mark.node c.args.mark.tag c.in_ok-check_fits.ensures.roomy there.0 there.1 in
    search rules

pub put-altered-requires : goal.put-altered-requires
put-altered-requires g c =
    let v = c.args.self.now in
    let l = lent c.args.marks.now c.args.values.now c.args.waiting.now in
    let there = c.if-not-has_mark.ensures.0 refl in
    mark_there v l c.args.mark.node c.args.mark.tag c.in_ok-check_fits.ensures.roomy there.0 there.1

pub returns-then-altered : goal.returns-then-altered
returns-then-altered g c =
    let k = g.G.Grade.kind in
    let t = tree_in g.S.Shape c.args.queried.now in
    let q = table_in c.args.queried.now in
    let v = c.args.self.now in
    let v' = c.restart.new.self in
    let l = lent c.args.marks.now c.args.values.now c.args.waiting.now in
    let l' = lent c.put-altered.new.table c.restart.new.values c.restart.new.waiting in
    let fits = c.in_ok-check_fits.ensures in
    let there = c.if-not-has_mark.ensures.0 refl in
    record {
      rules = λ m. altered_so (opening k t q m) (rules_kept c.args.queried.now.query.now) v v' l l' c.args.mark.node c.args.mark.tag c.args.mark.grade there.0 there.1 c.if-altered.ensures.says c.put-altered.ensures.after c.restart.ensures c.put-altered.result c.if-altered.true;
      answer = remarks_altered k t q v l c.args.mark.node c.args.mark.tag c.args.mark.grade fits there.0 there.1 c.put-altered.new.table c.put-altered.ensures.after c.if-altered.ensures.says c.put-altered.result c.if-altered.true v' c.restart.new.values c.restart.new.waiting c.restart.ensures;
      values = reset_within k q v fits.same_terms (λ b. (b < v.blocks) × Reaches q c.args.mark.tag b) l.values l'.values c.restart.ensures.values;
      waiting = released_within q c.args.mark.tag (v.terms * v.nodes) v.current v'.current l.waiting l'.waiting c.restart.ensures.current;
    }

pub returns-else-altered : goal.returns-else-altered
returns-else-altered g c =
    let k = g.G.Grade.kind in
    let t = tree_in g.S.Shape c.args.queried.now in
    let q = table_in c.args.queried.now in
    let v = c.args.self.now in
    let l = lent c.args.marks.now c.args.values.now c.args.waiting.now in
    let fits = c.in_ok-check_fits.ensures in
    let there = c.if-not-has_mark.ensures.0 refl in
    record {
      rules = λ m. unaltered_by_rules k t q v l c.args.mark.node c.args.mark.tag c.args.mark.grade fits there.0 there.1 c.put-altered.new.table c.put-altered.ensures.after m c.if-altered.ensures.says c.put-altered.result c.if-altered.false;
      answer = remarks_same k t q v l c.args.mark.node c.args.mark.tag c.args.mark.grade fits there.0 there.1 c.put-altered.new.table c.put-altered.ensures.after c.if-altered.ensures.says c.put-altered.result c.if-altered.false;
      values = within_same (v.terms * v.nodes) l.values;
      waiting = within_same (v.terms * v.nodes) l.waiting;
    }
