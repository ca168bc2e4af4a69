use Rattle.std.proofs.Common.{◌≡◌, ℕ, List, vec_items, length, ap, sym, subst, subst₂, ◌∙◌}
use Rattle.std.specs.Option.{MatchOption}
use Rattle.std.specs.Vec.{with_items}
use Rattle.std.proofs.lemmas.List.{with_items_is}
use Rattle.queries.proofs.Questions.{rules_kept}
use Rattle.surveys.specs.Queried.{tree_in, table_in}
use Rattle.surveys.specs.Standing.{lent}
use Rattle.files.specs.CallSteps.{SetsMarks}
use Rattle.files.specs.Listings.{WritesSome, filed}
use Rattle.files.specs.Settling.{NeedsMore, Settled}
use Rattle.files.specs.Tables.{lists_of}
use Rattle.files.proofs.SettledTables.{settled}
use Rattle.files.proofs.TableMarks.{marks_in, marks_agree, marks_behind, marks_of}
use Rattle.files.proofs.settle.settle.Goals as goal

same_lent : {G : Type 0} {a a' b b' : List G} {c c' : List ℕ} → a ≡ a' → b ≡ b' → c ≡ c' → lent a b c ≡ lent a' b' c'
same_lent a b c = cc

pub returns-clause-answer : goal.returns-clause-answer
returns-clause-answer g c =
    let k = filed g.G.Grade.kind g.G.FiledGrade.number in
    let t = tree_in g.S.Shape c.args.queried.now in
    let q = table_in c.args.queried.now in
    let rows = c.args.marks.now in
    let tables = c.args.tables.now in
    let table = c.deref.result.now in
    let values = c.list_settled.new.values in
    let waiting = c.list_settled.new.waiting in
    let laws = g.met.S.Shape.laws c.args.queried.now.shape.now in
    let size : length c.set_marks.new.table ≡ tables.marks.len = c.set_marks.auto.table ∙ c.deref_mut.ensures.len in
    let same : c.set_marks.new.table ≡ table = sym (c.deref.ensures.value ∙ with_items_is tables.marks c.set_marks.new.table size) in
    let left : lent (vec_items (with_items tables.marks c.set_marks.new.table)) (vec_items (with_items tables.values values)) (vec_items (with_items tables.waiting waiting)) ≡ lent table values waiting =
    same_lent (sym c.deref.ensures.value)
    (with_items_is tables.values values (c.list_settled.auto.values ∙ c.deref_mut-2.ensures.len))
    (with_items_is tables.waiting waiting (c.list_settled.auto.waiting ∙ c.deref_mut-3.ensures.len)) in
    let clear = ap (λ l. l.marks) c.requires.cleared in
    let set : SetsMarks k t.count rows (vec_items tables.marks) c.set_marks.new.table = subst₂ (λ n xs. SetsMarks k n rows xs c.set_marks.new.table) c.node_count.ensures c.deref_mut.ensures.value c.set_marks.ensures in
    let set' : SetsMarks k t.count rows (vec_items tables.marks) table = subst (λ xs. SetsMarks k t.count rows (vec_items tables.marks) xs) same set in
    let long : length table ≡ length (vec_items tables.marks) = ap length (sym same) ∙ (c.set_marks.auto.table ∙ ap length c.deref_mut.ensures.value) in
    subst (λ l. MatchOption c.unwrap.result (NeedsMore k t q rows × (c.list_settled.new.output ≡ c.args.output.now)) (WritesSome (Settled k t q rows c.args.asked l) c.args.output.now c.list_settled.new.output)) (sym left)
    (settled k rows c.args.asked {before = lists_of tables} c.args.output.now c.list_settled.new.output c.unwrap.result (marks_in k.kind t q table)
    (marks_of k t q rows c.requires.marks _ (vec_items tables.marks) table clear set' c.requires.room.marks)
    (record { kind = g.met.G.Grade.laws; tree = laws; admitted = rules_kept c.args.queried.now.query.now })
    (record {
      clear = c.requires.cleared;
      marks = marks_behind k t q rows c.requires.marks _ (vec_items tables.marks) table clear set' g.met.G.FiledGrade.numbered laws.countable.0 long;
      values = rw c.deref_mut-2.ensures.value at c.list_settled.ensures.values;
      waiting = rw c.deref_mut-3.ensures.value at c.list_settled.ensures.waiting;
    })
    (rw c.unwrap.ensures at (c.list_settled.ensures.answer (marks_in k.kind t q table) (marks_agree k.kind t q (lent table values waiting)))))
