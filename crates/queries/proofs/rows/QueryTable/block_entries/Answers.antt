use Rattle.std.proofs.Common.{◌≡◌, ℕ, ◌+◌, ◌<◌, length, get_or, sym, ap, ◌∙◌, ap₂, arith}
use Rattle.std.proofs.lemmas.List.{length-map, get_or-map}
use Rattle.queries.specs.declared.block.Block.{Block}
use Rattle.queries.specs.declared.block.Span.{Span}
use Rattle.queries.specs.Rows.{block_in, no_row, rows_of, told}
use Rattle.queries.specs.Table.{no_block}
use Rattle.queries.specs.Workings.{span_of}
use Rattle.queries.proofs.Deals.{before_more, before_le}
use Rattle.queries.proofs.Listed.{taken_push, stands_listed_push}
use Rattle.queries.proofs.rows.QueryTable.block_entries.Goals as goal

pub overflow_add-end : goal.overflow_add-end
overflow_add-end c =
    let blocks = (told (rows_of c.args.self)).blocks in
    let i = c.loop-row.row-index in
    let here : i < length blocks = rw length-map c.loop-row-test.true in
    let block : c.unwrap-block.result ≡ get_or blocks i no_block = (rw c.unwrap-block.ensures at c.try_from.ensures).1 ∙ sym (get_or-map block_in (rows_of c.args.self).blocks i no_row no_block c.loop-row-test.true) in
    omega (arith, ap (λ b. b.terms) block, before_more blocks i here, before_le blocks (i + 1), c.loop-row.invariant.first)

pub loop-row-preserved : goal.loop-row-preserved
loop-row-preserved c =
    let blocks = (told (rows_of c.args.self)).blocks in
    let i = c.loop-row.row-index in
    let pushed = c.in_ok-push.ensures.items in
    let here : i < length blocks = rw length-map c.loop-row-test.true in
    let block : c.unwrap-block.result ≡ get_or blocks i no_block = (rw c.unwrap-block.ensures at c.try_from.ensures).1 ∙ sym (get_or-map block_in (rows_of c.args.self).blocks i no_row no_block c.loop-row-test.true) in
    let span : ℕ → Block → Span = λ first b. record { first = first; end = first + b.terms } in
    record {
      first = omega (arith, ap (λ b. b.terms) block, before_more blocks i here, c.loop-row.invariant.first);
      blocks = taken_push (λ e. e.block) _ _ _ pushed blocks i no_block here c.loop-row.invariant.blocks block;
      spans = stands_listed_push (λ e. e.span) _ _ _ pushed (span_of (told (rows_of c.args.self))) i c.loop-row.invariant.spans (ap₂ span c.loop-row.invariant.first block);
    }
