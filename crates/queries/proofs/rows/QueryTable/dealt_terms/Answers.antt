use Rattle.std.proofs.Common.{◌≡◌, ℕ, ◌+◌, ◌<◌, ◌≤◌, List, map, length, unwrap_or, sym, ap, ◌∙◌, subst, arith}
use Rattle.std.proofs.lemmas.List.{length-map, get_or-map}
use Rattle.queries.specs.declared.query.entries.BlockEntry.{BlockEntry}
use Rattle.queries.specs.declared.term.Term.TheVariants.{Lowest}
use Rattle.queries.specs.Admission.{Framed}
use Rattle.queries.specs.Rows.{Rows, rows_of, term_in, told}
use Rattle.queries.specs.Table.{total, block_of}
use Rattle.queries.specs.Workings.{listed, span_of}
use Rattle.queries.proofs.Deals.{Dealt, before, before_more, dealt_is, this_stands, of_this, of_next}
use Rattle.queries.proofs.Directions.{no_empty_block}
use Rattle.queries.proofs.Kept.{entry_count, end_of_entry}
use Rattle.queries.proofs.Listed.{taken_push, stands_listed_push}
use Rattle.queries.proofs.Rules.{none}
use Rattle.queries.proofs.rows.QueryTable.dealt_terms.Goals as goal
use Rattle.queries.proofs.rows.QueryTable.dealt_terms.Goals.{then-i-blocks, else-i-blocks}

-- the block of the term before has an entry
has_entry : (r : Rows) (es : List BlockEntry) → Framed r → map (λ (e : BlockEntry). e.span) es ≡ listed (span_of (told r)) (length (told r).blocks) → (k i : ℕ) → before (told r).blocks k ≤ i → i ≤ before (told r).blocks (k + 1) → i < length r.terms → k < length es
has_entry r es framed spans k i low high h =
    let stands = this_stands (told r).blocks (no_empty_block r framed) k i low high (omega (arith, framed.sum)) in
    omega (arith, stands, entry_count (told r) es spans)

pub bounds-blocks-block : goal.bounds-blocks-block
bounds-blocks-block c = has_entry (rows_of c.args.self) c.args.blocks.now c.requires.framed c.requires.spans c.loop-i.block c.loop-i.i c.loop-i.invariant.low c.loop-i.invariant.high c.loop-i-test.true

pub offset_bounds-blocks-block : goal.offset_bounds-blocks-block
offset_bounds-blocks-block c =
    let there = has_entry (rows_of c.args.self) c.args.blocks.now c.requires.framed c.requires.spans c.loop-i.block c.loop-i.i c.loop-i.invariant.low c.loop-i.invariant.high c.loop-i-test.true in
    omega (arith, there)

pub loop-i-preserved : goal.loop-i-preserved
loop-i-preserved c =
    let r = rows_of c.args.self in
    let q = told r in
    let bs = q.blocks in
    let i = c.loop-i.i in
    let k = c.loop-i.block in
    let so_far = c.loop-i.invariant in
    let pushed = c.in_ok-push.ensures.items in
    let full = no_empty_block r c.requires.framed in
    let there : i < total bs = omega (arith, c.requires.framed.sum) in
    let end = end_of_entry q c.args.blocks.now c.requires.spans k _ (this_stands bs full k i so_far.low so_far.high there) in
    let dealt : Dealt bs i c.if-i-blocks.block = elim c.if-i-blocks.branch [
      | then-i-blocks w ↦ subst (Dealt bs i) (sym w.block-is) (of_next bs full k i so_far.low so_far.high there (w.if-i-blocks.true ∙ end))
      | else-i-blocks w ↦ subst (Dealt bs i) (sym w.block-is) (of_this bs full k i so_far.low so_far.high there (λ e. w.if-i-blocks.false (e ∙ sym end)))
    ] in
    let term = ap (λ o. unwrap_or o Lowest) (sym (rw c.unwrap.ensures at c.try_from.ensures)) ∙ sym (get_or-map (λ row. unwrap_or (term_in row) Lowest) r.terms i none Lowest c.loop-i-test.true) in
    record {
      terms = taken_push (λ d. d.term) _ _ _ pushed q.terms i Lowest (rw length-map c.loop-i-test.true) so_far.terms term;
      blocks = stands_listed_push (λ d. d.block) _ _ _ pushed (block_of q) i so_far.blocks (sym (dealt_is bs i c.if-i-blocks.block dealt));
      low = omega (arith, dealt.low);
      high = omega (arith, dealt.high, before_more bs c.if-i-blocks.block dealt.stands);
    }
