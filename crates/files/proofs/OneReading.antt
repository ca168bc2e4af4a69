-- A file is read in one way: what its lines say, and the rest behind them.
use Rattle.std.proofs.Common.{◌≡◌, ℕ, ◌<◌, List, [], ◌∷◌, ◌++◌, length, Some, None, Option, ◌≢◌, refl, sym, ap, ◌∙◌, append_assoc, arith}
use Rattle.files.specs.declared.rows.AskedRow.{AskedRow}
use Rattle.files.specs.Contents.{Contents, NoHead, Reads, InOrder, NodesThere, BlocksThere, TermsThere, asked_text, text_of}
use Rattle.files.specs.Contents.Next.{node, block, term, mark, asked}
use Rattle.files.specs.Lines.{row_text, rows_text, RowFits}
use Rattle.files.specs.Rows.{head_form, node_form, block_form, term_form, mark_form, asked_form}
use Rattle.files.proofs.Apart.{EndsBefore, row_apart, rows_apart, same_letter, head_tells, node_tells, block_tells, term_tells, mark_tells, asked_tells}

-- what stands from the nodes on, from the blocks on, and so forth
abbrev pub from_asked : Contents → List ℕ → List ℕ
from_asked c rest = asked_text c.asked ++ rest

abbrev pub from_marks : Contents → List ℕ → List ℕ
from_marks c rest = rows_text mark_form c.marks ++ from_asked c rest

abbrev pub from_terms : Contents → List ℕ → List ℕ
from_terms c rest = rows_text term_form c.terms ++ from_marks c rest

abbrev pub from_blocks : Contents → List ℕ → List ℕ
from_blocks c rest = rows_text block_form c.blocks ++ from_terms c rest

abbrev pub from_nodes : Contents → List ℕ → List ℕ
from_nodes c rest = rows_text node_form c.nodes ++ from_blocks c rest

pub in_parts : (c : Contents) (rest : List ℕ) → text_of c ++ rest ≡ row_text head_form c.head ++ from_nodes c rest
in_parts c rest = simp append_assoc

-- a file with a reading begins with a head
pub head_stands : {file : List ℕ} {c : Contents} {rest : List ℕ} → Reads file c rest → NoHead file → ⊥
head_stands {c = c} {rest = rest} r none = none c.head _ r.fitting.head (r.written ∙ in_parts c rest)

none_of : {X : Type 0} (xs : List X) → (xs ≢ [] → ⊥) → xs ≡ []
none_of [] h = refl
none_of (x ∷ xs) h = absurd (h (λ e. cc))

pub none_asked : (o : Option AskedRow) → (o ≢ None → ⊥) → o ≡ None
none_asked None h = refl
none_asked (Some r) h = absurd (h (λ e. cc))

some_of : {X : Type 0} (xs : List X) (n : ℕ) → n < length xs → xs ≢ []
some_of xs n l e = omega (arith, ap length e)

-- a reading that begins as another one goes on as that one does, since what it stops before is no line that may come next
module _ {file : List ℕ} {c : Contents} {rest : List ℕ} (r : Reads file c rest) {d : Contents} (o : InOrder d) (h : c.head ≡ d.head) where
  no_asked : (TermsThere c → ⊥) → from_asked c rest ≡ rest
  no_asked short = ap (λ a. asked_text a ++ rest) (none_asked c.asked (λ some. short (r.in_order.asked_after some)))

  no_marks : (TermsThere c → ⊥) → from_marks c rest ≡ rest
  no_marks short = ap (λ l. rows_text mark_form l ++ from_asked c rest) (none_of c.marks (λ some. short (r.in_order.marks_after some))) ∙ no_asked short

  no_terms : (BlocksThere c → ⊥) → from_terms c rest ≡ rest
  no_terms short = ap (λ l. rows_text term_form l ++ from_marks c rest) (none_of c.terms (λ some. short (r.in_order.terms_after some))) ∙ no_marks (λ all. short all.0)

  no_blocks : (NodesThere c → ⊥) → from_blocks c rest ≡ rest
  no_blocks short = ap (λ l. rows_text block_form l ++ from_terms c rest) (none_of c.blocks (λ some. short (r.in_order.blocks_after some))) ∙ no_terms (λ all. short all.0)

  pub nodes_end : EndsBefore node_form c.nodes d.nodes (from_blocks c rest)
  nodes_end s more l fits e =
      let few : length c.nodes < c.head.nodes = omega (arith, o.few_nodes, ap (λ k. k.nodes) h) in
      r.stops _ more (node s few fits) (sym (no_blocks (λ all. omega arith)) ∙ e)

  module _ (n : c.nodes ≡ d.nodes) where
    nodes_there : NodesThere d → NodesThere c
    nodes_there all = omega (arith, ap length n, ap (λ k. k.nodes) h)

    pub blocks_end : EndsBefore block_form c.blocks d.blocks (from_terms c rest)
    blocks_end s more l fits e =
        let all : NodesThere c = nodes_there (o.blocks_after (some_of d.blocks _ l)) in
        let few : length c.blocks < c.head.blocks = omega (arith, o.few_blocks, ap (λ k. k.blocks) h) in
        r.stops _ more (block s all few fits) (sym (no_terms (λ there. omega arith)) ∙ e)

    module _ (b : c.blocks ≡ d.blocks) where
      blocks_there : BlocksThere d → BlocksThere c
      blocks_there all = (nodes_there all.0, omega (arith, ap length b, ap (λ k. k.blocks) h))

      pub terms_end : EndsBefore term_form c.terms d.terms (from_marks c rest)
      terms_end s more l fits e =
          let all : BlocksThere c = blocks_there (o.terms_after (some_of d.terms _ l)) in
          let few : length c.terms < c.head.terms = omega (arith, o.few_terms, ap (λ k. k.terms) h) in
          r.stops _ more (term s all few fits) (sym (no_marks (λ there. omega arith)) ∙ e)

      module _ (t : c.terms ≡ d.terms) where
        terms_there : TermsThere d → TermsThere c
        terms_there all = (blocks_there all.0, omega (arith, ap length t, ap (λ k. k.terms) h))

        pub marks_end : EndsBefore mark_form c.marks d.marks (from_asked c rest)
        marks_end s more l fits e = unless c.asked refl
          where
            unless : (a : Option AskedRow) → c.asked ≡ a → ⊥
            unless None is = r.stops _ more (mark s (terms_there (o.marks_after (some_of d.marks _ l))) is fits) (sym (ap (λ a. asked_text a ++ rest) is) ∙ e)
            unless (Some q) is = let letter : ◌≡◌ {A = ℕ} 81 77 = same_letter asked_form mark_form q s rest more (sym (ap (λ a. asked_text a ++ rest) is) ∙ e) in omega arith

        pub asked_end : (q : AskedRow) (more : List ℕ) → d.asked ≡ Some q → c.asked ≡ None → RowFits asked_form q → rest ≡ row_text asked_form q ++ more → ⊥
        asked_end q more is none fits e = r.stops _ more (asked q (terms_there (o.asked_after (λ n. cc))) none fits) e

-- two readings of one file
module _ {file : List ℕ} {c d : Contents} {rest rest' : List ℕ} (r : Reads file c rest) (s : Reads file d rest') where
  heads : (c.head ≡ d.head) × (from_nodes c rest ≡ from_nodes d rest')
  heads = row_apart head_form head_tells c.head d.head _ _ r.fitting.head s.fitting.head (sym (in_parts c rest) ∙ sym r.written ∙ s.written ∙ in_parts d rest')

  h : c.head ≡ d.head
  h = heads.0

  nodes : (c.nodes ≡ d.nodes) × (from_blocks c rest ≡ from_blocks d rest')
  nodes = rows_apart node_form node_tells c.nodes d.nodes _ _ r.fitting.nodes s.fitting.nodes (nodes_end r s.in_order h) (nodes_end s r.in_order (sym h)) heads.1

  n : c.nodes ≡ d.nodes
  n = nodes.0

  blocks : (c.blocks ≡ d.blocks) × (from_terms c rest ≡ from_terms d rest')
  blocks = rows_apart block_form block_tells c.blocks d.blocks _ _ r.fitting.blocks s.fitting.blocks (blocks_end r s.in_order h n) (blocks_end s r.in_order (sym h) (sym n)) nodes.1

  b : c.blocks ≡ d.blocks
  b = blocks.0

  terms : (c.terms ≡ d.terms) × (from_marks c rest ≡ from_marks d rest')
  terms = rows_apart term_form term_tells c.terms d.terms _ _ r.fitting.terms s.fitting.terms (terms_end r s.in_order h n b) (terms_end s r.in_order (sym h) (sym n) (sym b)) blocks.1

  t : c.terms ≡ d.terms
  t = terms.0

  marks : (c.marks ≡ d.marks) × (from_asked c rest ≡ from_asked d rest')
  marks = rows_apart mark_form mark_tells c.marks d.marks _ _ r.fitting.marks s.fitting.marks (marks_end r s.in_order h n b t) (marks_end s r.in_order (sym h) (sym n) (sym b) (sym t)) terms.1

  asked_same : (a a' : Option AskedRow) → c.asked ≡ a → d.asked ≡ a' → asked_text a ++ rest ≡ asked_text a' ++ rest' → (a ≡ a') × (rest ≡ rest')
  asked_same None None is is' e = (refl, e)
  asked_same None (Some q) is is' e = absurd (asked_end r s.in_order h n b t q rest' is' is (s.fitting.asked q is') e)
  asked_same (Some q) None is is' e = absurd (asked_end s r.in_order (sym h) (sym n) (sym b) (sym t) q rest is is' (r.fitting.asked q is) (sym e))
  asked_same (Some q) (Some q') is is' e =
      let one = row_apart asked_form asked_tells q q' rest rest' (r.fitting.asked q is) (s.fitting.asked q' is') e in
      (ap Some one.0, one.1)

  asks : (c.asked ≡ d.asked) × (rest ≡ rest')
  asks = asked_same c.asked d.asked refl refl marks.1

  pub one_reading : (c ≡ d) × (rest ≡ rest')
  one_reading = (λ i. record { head = h i; nodes = n i; blocks = b i; terms = t i; marks = marks.0 i; asked = asks.0 i }, asks.1)
