use Rattle.std.proofs.Common.{get_or, set, take, sym, subst}
use Rattle.std.proofs.lemmas.List.{take_more}
use Rattle.meaning.specs.Tables.{place}
use Rattle.files.specs.Causes.{no_mark}
use Rattle.files.specs.CallSteps.{SetsMarks}
use Rattle.files.specs.Listings.{filed}
use Rattle.files.proofs.MarkRows.{set_more}
use Rattle.files.proofs.settle.set_marks.Goals as goal

pub loop-mark-preserved : goal.loop-mark-preserved
loop-mark-preserved g c =
    let k = filed g.G.Grade.kind g.G.FiledGrade.number in
    let i = c.loop-mark.mark-index in
    let m = get_or c.args.marks.now i no_mark in
    let fits = c.requires i c.loop-mark-test.true in
    subst (λ rows. SetsMarks k c.args.nodes rows c.args.table.now (set c.loop-mark.table (place c.args.nodes m.tag m.node) c.unwrap-grade.result)) (sym (take_more c.args.marks.now i no_mark c.loop-mark-test.true))
    (set_more k c.args.nodes (take i c.args.marks.now) m c.unwrap-grade.result c.args.table.now c.loop-mark.table c.loop-mark.auto.table fits.node fits.inside (rw c.unwrap-grade.ensures at c.from_number.ensures) c.loop-mark.invariant)
