-- What a query keeps of its blocks and terms, and its table.
use Rattle.std.proofs.Common.{◌≡◌, ℕ, zero, suc, ◌+◌, ◌<◌, Bool, List, [], ◌∷◌, map, length, get_or, vec_items, sym, refl, ap, ◌∙◌, ap₂, subst, arith}
use Rattle.std.proofs.lemmas.List.{length-map, get_or-map}
use Rattle.std.proofs.lemmas.Simd.{map-map}
use Rattle.queries.specs.declared.query.Query.{Query}
use Rattle.queries.specs.declared.query.entries.BlockEntry.{BlockEntry}
use Rattle.queries.specs.declared.query.entries.TermEntry.{TermEntry}
use Rattle.queries.specs.declared.term.Term.TheVariants.{Lowest}
use Rattle.queries.specs.declared.workings.DealtTerm.{DealtTerm}
use Rattle.queries.specs.Entries.{dealt_of, kept}
use Rattle.queries.specs.Queries.{table_of}
use Rattle.queries.specs.Table.{Table, table, Admitted, Reads, term_at, block_of}
use Rattle.queries.specs.Workings.{listed, nth_term, no_term, span_of, readers_in, reached_before}
use Rattle.queries.proofs.Deals.{before, before_more, dealt_in}
use Rattle.queries.proofs.Listed.{length_listed, getD_listed}

-- the terms of a table, each with its block
pub record DealtAs (q : Table) (ds : List DealtTerm) : Type 0 where
  pub count : length ds ≡ length q.terms
  pub terms : (i : ℕ) → (nth_term ds i).term ≡ term_at q i
  pub blocks : (i : ℕ) → i < length q.terms → (nth_term ds i).block ≡ block_of q i

nth_mapped : (ds : List DealtTerm) (i : ℕ) → (nth_term ds i).term ≡ get_or (map (λ d. d.term) ds) i Lowest
nth_mapped [] i = refl
nth_mapped (d ∷ ds) zero = refl
nth_mapped (d ∷ ds) (suc i) = nth_mapped ds i

pub dealt_by_parts : (q : Table) (ds : List DealtTerm) → map (λ (d : DealtTerm). d.term) ds ≡ q.terms → map (λ (d : DealtTerm). d.block) ds ≡ listed (block_of q) (length q.terms) → DealtAs q ds
dealt_by_parts q ds terms blocks = record {
  count = count;
  terms = λ i. nth_mapped ds i ∙ ap (λ l. get_or l i Lowest) terms;
  blocks = λ i h. sym (get_or-map (λ (d : DealtTerm). d.block) ds i no_term 0 (rw count h)) ∙ ap (λ l. get_or l i 0) blocks ∙ getD_listed (block_of q) (length q.terms) i 0 h;
}
  where
    count : length ds ≡ length q.terms
    count = sym (length-map ds (λ (d : DealtTerm). d.term)) ∙ ap length terms

-- the entries of the blocks of a table, by their spans
module _ (q : Table) (es : List BlockEntry) (spans : map (λ (e : BlockEntry). e.span) es ≡ listed (span_of q) (length q.blocks)) where
  pub entry_count : length es ≡ length q.blocks
  entry_count = sym (length-map es (λ (e : BlockEntry). e.span)) ∙ ap length spans ∙ length_listed (span_of q) (length q.blocks)

  pub end_of_entry : (k : ℕ) (d : BlockEntry) → k < length q.blocks → (get_or es k d).span.end ≡ before q.blocks (k + 1)
  end_of_entry k d h =
      let is : (get_or es k d).span ≡ span_of q k = sym (get_or-map (λ (e : BlockEntry). e.span) es k d d.span (rw entry_count h)) ∙ ap (λ l. get_or l k d.span) spans ∙ getD_listed (span_of q) (length q.blocks) k d.span h in
      ap (λ s. s.end) is ∙ sym (before_more q.blocks k h)

terms_of_entries : (es : List TermEntry) → map (λ (d : DealtTerm). d.term) (map dealt_of es) ≡ map (λ (e : TermEntry). e.term) es
terms_of_entries es = map-map (λ (d : DealtTerm). d.term) dealt_of es

blocks_of_entries : (es : List TermEntry) → map (λ (d : DealtTerm). d.block) (map dealt_of es) ≡ map (λ (e : TermEntry). e.block) es
blocks_of_entries es = map-map (λ (d : DealtTerm). d.block) dealt_of es

-- the terms of a query with their blocks
abbrev pub dealt : Query → List DealtTerm
dealt q = map dealt_of (vec_items q.terms)

pub dealt_as : (q : Query) → DealtAs (table_of q) (dealt q)
dealt_as q = dealt_by_parts (table_of q) (dealt q) (terms_of_entries (vec_items q.terms)) (blocks_of_entries (vec_items q.terms) ∙ q.blocks_stand)

-- every term of an admitted table stands in a block
pub in_some_block : (q : Table) → Admitted q → (i : ℕ) → i < length q.terms → block_of q i < length q.blocks
in_some_block q admitted i h = (dealt_in q.blocks i (omega (arith, admitted.sized.all_dealt))).stands

-- the terms of an admitted table as they are lent
module _ (q : Table) (admitted : Admitted q) (ds : List DealtTerm) (dealt_so : DealtAs q ds) where
  pub in_blocks : (i : ℕ) → i < length ds → (nth_term ds i).block < length q.blocks
  in_blocks i h =
      let there : i < length q.terms = subst (λ n. i < n) dealt_so.count h in
      omega (arith, dealt_so.blocks i there, in_some_block q admitted i there)

  pub operands_in : (i j : ℕ) → i < length ds → Reads (nth_term ds i).term j → j < length ds
  operands_in i j h reads =
      let there : i < length q.terms = subst (λ n. i < n) dealt_so.count h in
      omega (arith, dealt_so.count, admitted.operands_stand i there j (subst (λ t. Reads t j) (dealt_so.terms i) reads))

-- a query that is made of a table's parts
module _ (q : Table) (bs : List BlockEntry) (es : List TermEntry) (ds : List DealtTerm) (blocks : map (λ (b : BlockEntry). b.block) bs ≡ q.blocks) (terms : map (λ (d : DealtTerm). d.term) ds ≡ q.terms) (entries : map dealt_of es ≡ ds) where
  pub same_table : kept q.tags bs es ≡ q
  same_table = ap₂ (table q.tags) blocks (sym (terms_of_entries es) ∙ ap (map (λ (d : DealtTerm). d.term)) entries ∙ terms)

  pub blocks_made : map (λ (d : DealtTerm). d.block) ds ≡ listed (block_of q) (length q.terms) → map (λ (e : TermEntry). e.block) es ≡ listed (block_of (kept q.tags bs es)) (length (kept q.tags bs es).terms)
  blocks_made h = sym (blocks_of_entries es) ∙ ap (map (λ (d : DealtTerm). d.block)) entries ∙ h ∙ ap (λ t. listed (block_of t) (length t.terms)) (sym same_table)

  pub spans_made : map (λ (b : BlockEntry). b.span) bs ≡ listed (span_of q) (length q.blocks) → map (λ (b : BlockEntry). b.span) bs ≡ listed (span_of (kept q.tags bs es)) (length (kept q.tags bs es).blocks)
  spans_made h = h ∙ ap (λ t. listed (span_of t) (length t.blocks)) (sym same_table)

  count : length ds ≡ length (kept q.tags bs es).terms
  count = sym (length-map ds (λ (d : DealtTerm). d.term)) ∙ ap length (terms ∙ sym (ap (λ t. t.terms) same_table))

  pub readers_made : (rows : List (List ℕ)) → rows ≡ listed (readers_in ds) (length ds) → rows ≡ listed (readers_in (map dealt_of es)) (length (kept q.tags bs es).terms)
  readers_made rows h = h ∙ ap₂ (λ l n. listed (readers_in l) n) (sym entries) count

  pub reached_made : (rows : List (List Bool)) → rows ≡ listed (λ tag. listed (reached_before ds tag (length ds)) (length bs)) q.tags → rows ≡ listed (λ tag. listed (reached_before (map dealt_of es) tag (length (kept q.tags bs es).terms)) (length (kept q.tags bs es).blocks)) q.tags
  reached_made rows h =
      h ∙ ap₂ (λ l n. listed (λ tag. listed (reached_before l tag n) (length bs)) q.tags) (sym entries) count
      ∙ ap (λ m. listed (λ tag. listed (reached_before (map dealt_of es) tag (length (kept q.tags bs es).terms)) m) q.tags) (sym (length-map bs (λ (b : BlockEntry). b.block)))
