use Rattle.std.proofs.Common.{◌≡◌, ◌<◌, length, vec_items, sym, ap, ◌∙◌, subst, ap₂}
use Rattle.std.proofs.lemmas.List.{length-map}
use Rattle.queries.specs.Rows.{rows_of, told as told_by}
use Rattle.queries.specs.Table.{Admitted}
use Rattle.queries.specs.Workings.{listed, nth_term, readers_in, reached_before}
use Rattle.queries.proofs.Directions.{told_admitted_lem}
use Rattle.queries.proofs.Kept.{DealtAs, dealt_by_parts, in_blocks, operands_in, same_table, blocks_made, spans_made, readers_made, reached_made}
use Rattle.queries.proofs.query.Query.told.Goals as goal

pub invariant_of-terms : goal.invariant_of-terms
invariant_of-terms c =
    let q = told_by (rows_of c.args.table) in
    let admitted = told_admitted_lem (rows_of c.args.table) c.requires in
    let dealt = c.in_ok-dealt.ensures in
    let lent : DealtAs q c.deref-2.result.now = subst (DealtAs q) (sym c.deref-2.ensures.value) (dealt_by_parts q (vec_items c.in_ok-dealt.dealt) dealt.0 dealt.1) in
    let in_count : length q.blocks ≡ c.len.result = sym (c.len.ensures ∙ c.in_ok-blocks.blocks.ok.0 ∙ sym (length-map (vec_items c.in_ok-blocks.blocks) (λ b. b.block)) ∙ ap length c.in_ok-blocks.ensures.0) in
    record {
      blocks_stand = λ i h. subst (λ n. (nth_term c.deref-2.result.now i).block < n) in_count (in_blocks q admitted c.deref-2.result.now lent i h);
      operands_stand = operands_in q admitted c.deref-2.result.now lent;
    }

pub invariant_of-result : goal.invariant_of-result
invariant_of-result c =
    let q = told_by (rows_of c.args.table) in
    let blocks = c.in_ok-blocks.ensures in
    let dealt = c.in_ok-dealt.ensures in
    let bs = vec_items c.in_ok-blocks.blocks in
    let es = vec_items c.in_ok-entries.field-0 in
    let ds = vec_items c.in_ok-dealt.dealt in
    let lent = c.deref-2.ensures.value in
    let entries = c.in_ok-entries.ensures.0 ∙ lent in
    record {
      rules = subst Admitted (sym (same_table q bs es ds blocks.0 dealt.0 entries)) (told_admitted_lem (rows_of c.args.table) c.requires);
      blocks_stand = blocks_made q bs es ds blocks.0 dealt.0 entries dealt.1;
      spans_stand = spans_made q bs es ds blocks.0 dealt.0 entries blocks.1;
      readers_stand = readers_made q bs es ds blocks.0 dealt.0 entries _ (c.in_ok-entries.ensures.1 ∙ ap (λ l. listed (readers_in l) (length l)) lent);
      reached_stand = reached_made q bs es ds blocks.0 dealt.0 entries _ (c.in_ok-reached.ensures ∙ ap₂ (λ l n. listed (λ tag. listed (reached_before l tag (length l)) n) c.args.table.tags) lent (c.len.ensures ∙ c.in_ok-blocks.blocks.ok.0));
    }

pub returns : goal.returns
returns c =
    let entries = c.in_ok-entries.ensures.0 in
    same_table (told_by (rows_of c.args.table)) (vec_items c.in_ok-blocks.blocks) (vec_items c.in_ok-entries.field-0) (vec_items c.in_ok-dealt.dealt) c.in_ok-blocks.ensures.0 c.in_ok-dealt.ensures.0 (entries ∙ c.deref-2.ensures.value)
