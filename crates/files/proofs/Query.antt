-- The check of the blocks and terms, with the lowest in the place of each term that was not read.
use Rattle.std.proofs.Common.{◌≡◌, ℕ, ◌+◌, ◌-◌, ◌<◌, ◌≤◌, ◌⊎◌, List, ◌++◌, length, get_or, take, replicate, refl, ap, ap₂, subst, ◌∙◌, inl, inr, arith}
use Rattle.std.proofs.lemmas.Bool.{cases_lt}
use Rattle.std.proofs.lemmas.List.{length-append, length-replicate, get_or-append_right, get_or-replicate, take-replicate}
use Rattle.std.proofs.Math.Seq.{take-append-add}
use Rattle.queries.specs.declared.rows.BlockRow.{BlockRow}
use Rattle.queries.specs.declared.rows.TermRow.{TermRow}
use Rattle.queries.specs.declared.term.Term.TheVariants.{Lowest}
use Rattle.queries.specs.declared.refusal.QueryRefusal.{QueryRefusal}
use Rattle.queries.specs.declared.refusal.QueryRefusal.TheVariants.{BadTerm, LaterBlock, OwnTurn}
use Rattle.queries.specs.Admission.{Breaks, BlockFits, BlocksAddUp, Fits, FineBefore}
use Rattle.queries.specs.Refusals.{published}
use Rattle.queries.specs.Rows.{Rows, rows, term_in}
use Rattle.queries.proofs.Rules.{none, stands_there, later_there, turn_there}
use Rattle.files.specs.declared.tables.Room.{Room}
use Rattle.files.specs.Causes.{FirstCause, lowest_row, rows_in, block_line, term_line, BlockCause, block, sum, TermCause}
use Rattle.files.specs.Checking.{CheckedTo, FirstOn}
use Rattle.files.specs.Contents.{Contents, BlocksThere}
use Rattle.files.proofs.Firsts.{block_first, term_first, later_first, turn_first, term_fine}
use Rattle.files.proofs.Passing.{causes_behind, passes, found}
use Rattle.files.proofs.Sections.{in_blocks, in_terms}

-- the rows with as many of the padded terms as the head says
pub same_rows : (tags n : ℕ) (bs bs' : List BlockRow) (xs xs' padded : List TermRow) → bs ≡ bs' → xs ≡ xs' → padded ≡ xs ++ replicate (64 - length xs) lowest_row → length xs' ≤ n → n ≤ 64 → rows tags bs (take n padded) ≡ rows tags bs' (xs' ++ replicate (n - length xs') lowest_row)
same_rows tags n bs bs' xs xs' padded same_blocks same_terms is le few =
    let ys = replicate (64 - length xs') lowest_row in
    let e : n ≡ length xs' + (n - length xs') = omega arith in
    let here : padded ≡ xs' ++ ys = is ∙ ap (λ zs. zs ++ replicate (64 - length zs) lowest_row) same_terms in
    ap₂ (rows tags) same_blocks (ap₂ (λ k zs. take k zs) e here ∙ (take-append-add xs' ys (n - length xs') ∙ ap (λ zs. xs' ++ zs) (take-replicate (n - length xs') (64 - length xs') lowest_row (omega arith))))

module _ (room : Room) (c : Contents) (checked : CheckedTo room c (2 + length c.nodes)) where
  abbrev r : Rows
  r = rows_in c

  many : length r.terms ≡ c.head.terms
  many = omega (arith, length-append c.terms (replicate (c.head.terms - length c.terms) lowest_row), length-replicate (c.head.terms - length c.terms) lowest_row, checked.in_order.few_terms)

  pub read_first : (i : ℕ) → i < length c.terms → i < length r.terms
  read_first i h = omega (arith, many, checked.in_order.few_terms)

  -- a term that was not read keeps every rule
  padded_fits : (i : ℕ) → length c.terms ≤ i → i < length r.terms → Fits r i
  padded_fits i behind here =
      let row : get_or r.terms i none ≡ lowest_row = get_or-append_right c.terms (replicate (c.head.terms - length c.terms) lowest_row) (length c.terms) i none refl behind ∙ get_or-replicate (c.head.terms - length c.terms) (i - length c.terms) lowest_row none (omega (arith, many)) in
      let is = ap term_in row in
      record {
        stands = stands_there r i here Lowest is refl;
        no_later_block = later_there r i here Lowest is refl;
        turn_earlier = turn_there r i here Lowest is (λ a e. cc);
      }

  -- so one that breaks a rule was read
  pub term_read : (i : ℕ) → i < length r.terms → (Fits r i → ⊥) → i < length c.terms
  term_read i here broken = elim (cases_lt i (length c.terms)) [ inl read ↦ read | inr behind ↦ absurd (broken (padded_fits i behind here)) ]

  pub blocks_there : length c.blocks ≡ c.head.blocks → BlocksThere c
  blocks_there e = (checked.in_order.blocks_after (λ n. omega (arith, ap length n, checked.head.fits.some_block)), e)

  pub blocks_pass : ((b : ℕ) → b < length c.blocks → BlockFits r b) → (BlocksThere c → BlocksAddUp r) → CheckedTo room c (2 + length c.nodes + length c.blocks)
  blocks_pass fits adds = passes room c in_blocks (length c.blocks) (omega arith) checked (λ rest. fine)
    where
      fine : (b n : ℕ) → b < length c.blocks → BlockCause c b n → ⊥
      fine b n h (block broken) = broken (fits b h)
      fine b n h (sum last there broken) = broken (adds there)

  pub terms_pass : CheckedTo room c (2 + length c.nodes + length c.blocks) → ((i : ℕ) → i < length c.terms → Fits r i) → CheckedTo room c (2 + length c.nodes + length c.blocks + length c.terms)
  terms_pass before fits = passes room c in_terms (length c.terms) (omega arith) before (λ rest i n h. term_fine c i (fits i h) n)

  pub block_found : (b : ℕ) → b < length c.blocks → BlockCause c b 3 → ((k : ℕ) → k < b → BlockFits r k) → (rest : List ℕ) → FirstCause room c rest 3 (block_line c b)
  block_found b here cause fits rest =
      found room c in_blocks b rest here (causes_behind room c in_blocks b rest (omega arith) (checked.causes rest) fine) 3 (block_line c b) refl (block_first c b cause)
    where
      fine : (k n : ℕ) → k < b → BlockCause c k n → ⊥
      fine k n h (block broken) = broken (fits k h)
      fine k n h (sum last there broken) = omega arith

  pub term_found : (i n : ℕ) → FineBefore r i → i < length c.terms → FirstOn (TermCause c i) n → (rest : List ℕ) → FirstCause room c rest n (term_line c i)
  term_found i n fine here first rest =
      let before = blocks_pass fine.framed.blocks (λ there. fine.framed.sum) in
      found room c in_terms i rest here
      (causes_behind room c in_terms i rest (omega arith) (before.causes rest) (λ k m h. term_fine c k (fine.before k h) m))
      n (term_line c i) refl first

  pub term_refused : (why : QueryRefusal) (i : ℕ) → (why ≡ BadTerm i) ⊎ ((why ≡ LaterBlock i) ⊎ (why ≡ OwnTurn i)) → Breaks r why → (rest : List ℕ) → FirstCause room c rest (published why) (term_line c i)
  term_refused why i (inl e) breaks =
      let b : Breaks r (BadTerm i) = subst (Breaks r) e breaks in
      rw e (term_found i 4 b.0 (term_read i b.0.term (λ f. b.1 f.stands)) (term_first c i b.1))
  term_refused why i (inr (inl e)) breaks =
      let b : Breaks r (LaterBlock i) = subst (Breaks r) e breaks in
      rw e (term_found i 5 b.0 (term_read i b.0.term (λ f. b.2 f.no_later_block)) (later_first c i b.1 b.2))
  term_refused why i (inr (inr e)) breaks =
      let b : Breaks r (OwnTurn i) = subst (Breaks r) e breaks in
      rw e (term_found i 6 b.0 (term_read i b.0.term (λ f. b.3 f.turn_earlier)) (turn_first c i b.1 b.2 b.3))

  -- where only blocks are missing nothing that was read is wrong
  pub missing_pass : ((b : ℕ) → b < length c.blocks → BlockFits r b) → (length c.blocks ≡ c.head.blocks → ⊥) → CheckedTo room c (term_line c (length c.terms))
  missing_pass fits missing =
      terms_pass (blocks_pass fits (λ there. absurd (missing there.1)))
      (λ i h. absurd (missing (checked.in_order.terms_after (λ n. omega (arith, ap length n))).1))
