use Rattle.std.proofs.Common.{◌<◌, ◌≤◌, length, get_or, ap, subst, below_more, arith}
use Rattle.files.specs.Causes.{mark_at, no_mark, MarkCause}
use Rattle.files.specs.Checking.{FirstOn, MarkSound}
use Rattle.files.specs.Contents.{contents_of}
use Rattle.files.specs.Faults.{number_of_cause}
use Rattle.files.proofs.Firsts.{mark_fine}
use Rattle.files.proofs.Passing.{causes_behind, passes, found_at}
use Rattle.files.proofs.Sections.{in_marks}
use Rattle.files.proofs.causes.Checked.marks.Goals as goal

pub loop-i-preserved : goal.loop-i-preserved
loop-i-preserved c =
    let it = contents_of c.args.self.contents.now in
    below_more (λ j. MarkSound it.head (mark_at it j)) c.loop-i.i c.loop-i.invariant
    (subst (λ ms. MarkSound it.head (get_or ms c.loop-i.i no_mark)) c.deref-mark-items.ensures.value c.in_default.ensures)

pub returns-in-Err : goal.returns-in-Err
returns-in-Err c =
    let it = contents_of c.args.self.contents.now in
    let i = c.loop-i.i in
    let here : i < length it.marks = omega (arith, ap length c.deref-mark-items.ensures.value) in
    λ rest. found_at c.args.self.room it in_marks i rest here
    (causes_behind c.args.self.room it in_marks i rest (omega arith) (c.requires.causes rest) (λ j n h. mark_fine it.head (mark_at it j) (c.loop-i.invariant j h) n))
    c.in-Err.cause c.line_of_mark.result c.at.result c.at.ensures c.line_of_mark.ensures
    (subst (λ ms. FirstOn (MarkCause it.head (get_or ms i no_mark)) (number_of_cause c.in-Err.cause)) c.deref-mark-items.ensures.value c.in-Err.ensures)

pub returns : goal.returns
returns c =
    let it = contents_of c.args.self.contents.now in
    let all : length it.marks ≤ c.loop-i.i = omega (arith, ap length c.deref-mark-items.ensures.value) in
    passes c.args.self.room it in_marks (length it.marks) (omega arith) c.requires
    (λ rest j n h. mark_fine it.head (mark_at it j) (c.loop-i.invariant j (omega arith)) n)
