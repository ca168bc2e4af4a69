-- The lines of a file in sections, one for each kind of rows, and the causes on the lines of each.
use Rattle.std.proofs.Common.{◌≡◌, ℕ, ◌+◌, ◌<◌, ◌≤◌, List, length, refl, sym, subst, ap, ◌∙◌, arith}
use Rattle.files.specs.declared.tables.Room.{Room}
use Rattle.files.specs.Causes.{AskedCause, BlockCause, Cause, CauseBehind, HeadCause, MarkCause, NodeCause, TermCause, block_line, mark_at, mark_line, missing_term, node_line, term_line}
use Rattle.files.specs.Causes.Cause.{at_asked, at_block, at_end, at_head, at_mark, at_node, at_term}
use Rattle.files.specs.Contents.{Contents, asked_count, lines_of}

pub data Section : Type 0 where
  in_head : Section
  in_nodes : Section
  in_blocks : Section
  in_terms : Section
  in_marks : Section
  in_asked : Section
  behind : Section

module _ (c : Contents) where
  -- the first line of a section
  abbrev pub start : Section → ℕ
  start in_head = 1
  start in_nodes = 2
  start in_blocks = 2 + length c.nodes
  start in_terms = 2 + length c.nodes + length c.blocks
  start in_marks = 2 + length c.nodes + length c.blocks + length c.terms
  start in_asked = 2 + length c.nodes + length c.blocks + length c.terms + length c.marks
  start behind = lines_of c + 1

  -- how many lines it has
  abbrev pub size : Section → ℕ
  size in_head = 1
  size in_nodes = length c.nodes
  size in_blocks = length c.blocks
  size in_terms = length c.terms
  size in_marks = length c.marks
  size in_asked = asked_count c.asked
  size behind = 1

  -- no two sections have a line in common
  one_section : (s t : Section) (j k : ℕ) → j < size s → k < size t → start s + j ≡ start t + k → s ≡ t
  one_section in_head in_head j k a b e = refl
  one_section in_nodes in_nodes j k a b e = refl
  one_section in_blocks in_blocks j k a b e = refl
  one_section in_terms in_terms j k a b e = refl
  one_section in_marks in_marks j k a b e = refl
  one_section in_asked in_asked j k a b e = refl
  one_section behind behind j k a b e = refl
  one_section s t j k a b e = absurd (omega arith)

  first_line : (s : Section) → 1 ≤ start s
  first_line in_head = omega arith
  first_line s = omega arith

module _ (room : Room) (c : Contents) (rest : List ℕ) where
  -- the causes on the k-th line of a section, by number
  abbrev pub CauseIn : Section → ℕ → ℕ → Type 0
  CauseIn in_head k = HeadCause room c.head
  CauseIn in_nodes x = NodeCause c x
  CauseIn in_blocks b = BlockCause c b
  CauseIn in_terms i = TermCause c i
  CauseIn in_marks j = MarkCause c.head (mark_at c j)
  CauseIn in_asked k = AskedCause c
  CauseIn behind k = CauseBehind c rest

  -- a cause stands on a line of a section
  abbrev Located : ℕ → ℕ → Type 0
  Located n l = (s : Section) × (k : ℕ) × (k < size c s) × (l ≡ start c s + k) × CauseIn s k n

  located : (n l : ℕ) → Cause room c rest n l → Located n l
  located n l (at_head m h) = (in_head, 0, omega arith, omega arith, h)
  located n l (at_node x m here h) = (in_nodes, x, here, omega arith, h)
  located n l (at_block b m here h) = (in_blocks, b, here, omega arith, h)
  located n l (at_term i m here h) = (in_terms, i, here, omega arith, h)
  located n l (at_mark j m here h) = (in_marks, j, here, omega arith, h)
  located n l (at_asked m (missing_term r asks h)) = (in_asked, 0, rw asks (omega arith), rw asks (omega arith), missing_term r asks h)
  located n l (at_end m h) = (behind, 0, omega arith, omega arith, h)

  -- every line is counted from 1
  pub counted : (n l : ℕ) → Cause room c rest n l → 1 ≤ l
  counted n l cause = let w : Located n l = located n l cause in omega (arith, w.3, first_line c w.0)

  -- on a line of a section are the causes of that line
  pub on_line : (t : Section) (k n l : ℕ) → k < size c t → l ≡ start c t + k → Cause room c rest n l → CauseIn t k n
  on_line t k n l inside at cause =
      let w : Located n l = located n l cause in
      let same : w.0 ≡ t = one_section c w.0 t w.1 k w.2 inside (sym w.3 ∙ at) in
      let found : (l ≡ start c t + w.1) × CauseIn t w.1 n = subst (λ s. (l ≡ start c s + w.1) × CauseIn s w.1 n) same (w.3, w.4) in
      let here : w.1 ≡ k = omega (arith, found.0) in
      subst (λ j. CauseIn t j n) here found.1

  -- and each of them is a cause
  pub made : (t : Section) (k n : ℕ) → k < size c t → CauseIn t k n → (l : ℕ) × (l ≡ start c t + k) × Cause room c rest n l
  made in_head k n inside h = (1, omega arith, at_head n h)
  made in_nodes x n inside h = (node_line x, refl, at_node x n inside h)
  made in_blocks b n inside h = (block_line c b, refl, at_block b n inside h)
  made in_terms i n inside h = (term_line c i, refl, at_term i n inside h)
  made in_marks j n inside h = (mark_line c j, refl, at_mark j n inside h)
  made in_asked k n inside (missing_term r asks h) = (lines_of c, omega (arith, ap asked_count asks), at_asked 8 (missing_term r asks h))
  made behind k n inside h = (lines_of c + 1, omega arith, at_end n h)
