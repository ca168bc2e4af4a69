use Rattle.std.proofs.Common.{◌≡◌, ◌++◌, [], map, length, take, drop, vec_items, sym, ap, ◌∙◌, ap₂, arith}
use Rattle.std.proofs.Math.Seq.{take-append_seam}
use Rattle.std.proofs.lemmas.List.{length-map}
use Rattle.queries.specs.Entries.{dealt_of, readers_at}
use Rattle.queries.specs.Workings.{noted, readers_in, reads_within}
use Rattle.queries.proofs.Listed.{listed_all}
use Rattle.queries.proofs.Readers.{readers_before, readers_more}
use Rattle.queries.proofs.workings.DealtTerms.entries.Goals as goal

pub loop-reader-preserved : goal.loop-reader-preserved
loop-reader-preserved c =
    let terms = c.args.self.terms.now in
    let es = vec_items c.loop-reader.entries in
    let new = c.note_operands.new.entries in
    let lent = c.deref_mut.ensures.value in
    let done = c.in_ok-note_operands.ensures in
    let kept = c.loop-reader.invariant in
    let back : take c.loop-reader.entries.len (new ++ drop (length new) es) ≡ new = ap (λ n. take n (new ++ drop (length new) es)) (sym (c.note_operands.auto.entries ∙ c.deref_mut.ensures.len)) ∙ take-append_seam new (drop (length new) es) in
    record {
      dealt = ap (map dealt_of) back ∙ done.dealt ∙ ap (map dealt_of) lent ∙ kept.dealt;
      readers = λ t. ap (λ l. readers_at l t) back ∙ done.readers t ∙ ap₂ (λ ds l. noted (reads_within ds t c.loop-reader.reader) l c.loop-reader.reader) (ap (map dealt_of) lent ∙ kept.dealt) (ap (λ l. readers_at l t) lent ∙ kept.readers t) ∙ readers_more terms c.loop-reader.reader t;
    }

pub returns : goal.returns
returns c =
    let terms = c.args.self.terms.now in
    let es = vec_items c.loop-reader.entries in
    let kept = c.loop-reader.invariant in
    let all : c.loop-reader.reader ≡ length terms = omega arith in
    let count : length (map (λ e. vec_items e.readers) es) ≡ length terms = length-map es (λ e. vec_items e.readers) ∙ sym (length-map es dealt_of) ∙ ap length kept.dealt in
    (kept.dealt, listed_all (readers_in terms) (map (λ e. vec_items e.readers) es) (length terms) [] count (λ t h. kept.readers t ∙ ap (λ n. readers_before terms n t) all))
