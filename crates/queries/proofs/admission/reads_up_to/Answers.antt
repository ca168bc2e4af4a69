use Rattle.std.proofs.Common.{true, ◌&&◌, ltb, leb, sym, ap, ◌∙◌}
use Rattle.std.proofs.lemmas.Bool.{lt-ltb, le-ltb}
use Rattle.queries.specs.Checks.{both_in}
use Rattle.queries.specs.Table.{block_of}
use Rattle.queries.proofs.Tested.{both_before_end}
use Rattle.queries.proofs.admission.reads_up_to.Goals as goal

pub returns-then-operands-span : goal.returns-then-operands-span
returns-then-operands-span c q block of =
    let o = c.in-Some.operands in
    let end = c.args.span.end in
    ap (λ b. b && ltb o.right end) (sym (lt-ltb o.left end c.if-operands-span.true))
    ∙ both_before_end q block c.args.span of o
    ∙ ap (λ p. both_in p true (λ j. leb (block_of q j) block)) c.in-Some.ensures

pub returns-else-operands-span : goal.returns-else-operands-span
returns-else-operands-span c q block of =
    let o = c.in-Some.operands in
    let end = c.args.span.end in
    let past = le-ltb o.left end c.if-operands-span.false in
    past
    ∙ ap (λ b. b && ltb o.right end) (sym past)
    ∙ both_before_end q block c.args.span of o
    ∙ ap (λ p. both_in p true (λ j. leb (block_of q j) block)) c.in-Some.ensures
