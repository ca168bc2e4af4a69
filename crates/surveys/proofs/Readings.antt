-- What a block reads, and that what its terms give depends on that alone and keeps the order of its values.
use Rattle.std.proofs.Common.{◌≡◌, ℕ, ◌<◌, ◌≤◌, length, refl, arith}
use native.Mathlib.Decide.{ℕ_discrete}
use Rattle.shapes.specs.Tree.{Tree}
use Rattle.queries.specs.declared.term.Term.TheVariants.{Mark}
use Rattle.queries.specs.Table.{Table, Reads, term_at, block_of, direction}
use Rattle.meaning.specs.Solutions.{Grades, Entry, Better}
use Rattle.meaning.specs.Readings.{Reading}
use Rattle.meaning.proofs.Readings.{reading_reads, reading_node, grade_same}
use Rattle.meaning.proofs.Monotone.{Lawful, grades_better}
use Rattle.surveys.specs.Rules.{Opening, EntryOf, given}

-- what an accepted opening gives
abbrev pub Accepted : {G : Type 0} → Opening G → Type 0
Accepted o = Lawful o.kind o.tree o.query

-- block b reads term j
pub record ReadsTerm (q : Table) (b j : ℕ) : Type 0 where
  pub reader : ℕ
  pub stands : reader < length q.terms
  pub dealt_here : block_of q reader ≡ b
  pub reads : Reads (term_at q reader) j

-- block b reads the marks of tag a
pub record ReadsTag (q : Table) (b a : ℕ) : Type 0 where
  pub reader : ℕ
  pub stands : reader < length q.terms
  pub dealt_here : block_of q reader ≡ b
  pub reads : term_at q reader ≡ Mark a

pub reads_term : {t : Tree} {q : Table} {b i x j y : ℕ} → Entry q t b i x → Reading t (term_at q i) x j y → ReadsTerm q b j
reads_term {i = i} e r = record { reader = i; stands = e.term; dealt_here = e.dealt_here; reads = reading_reads r }

-- the two have the same at every entry of block b
abbrev pub AgreeOwn : {G : Type 0} → Opening G → ℕ → Grades G → Grades G → Type 0
AgreeOwn o b v w = (i x : ℕ) → EntryOf o b i x → v i x ≡ w i x

-- at every entry of another block that block b reads
abbrev pub AgreeRead : {G : Type 0} → Opening G → ℕ → Grades G → Grades G → Type 0
AgreeRead o b v w = (j y : ℕ) → ReadsTerm o.query b j → (block_of o.query j ≡ b → ⊥) → y < o.tree.count → v j y ≡ w j y

-- at every mark that block b reads
abbrev pub AgreeMarks : {G : Type 0} → Opening G → ℕ → Grades G → Grades G → Type 0
AgreeMarks o b m m' = (a x : ℕ) → ReadsTag o.query b a → x < o.tree.count → m a x ≡ m' a x

-- g is better than h as a value of term i
abbrev pub BetterAt : {G : Type 0} → Opening G → ℕ → G → G → Type 0
BetterAt o i g h = Better o.kind (direction o.query i) g h

module _ {G : Type 0} (o : Opening G) (f : Accepted o) where
  pub read_entry : (b j y : ℕ) → ReadsTerm o.query b j → y < o.tree.count → EntryOf o (block_of o.query j) j y
  read_entry b j y r n = record { term = f.admitted.operands_stand r.reader r.stands j r.reads; dealt_here = refl; node = n }

  -- what a block reads stands in no later block
  pub read_earlier : (b j : ℕ) → ReadsTerm o.query b j → block_of o.query j ≤ b
  read_earlier b j r = omega (arith, f.admitted.no_later_block r.reader r.stands j r.reads, r.dealt_here)

  pub read_tag : (b a : ℕ) → ReadsTag o.query b a → a < o.query.tags
  read_tag b a r = f.admitted.tag_stands r.reader r.stands a r.reads

  -- what a block's terms give depends on what it reads alone
  pub given_same : (b : ℕ) (m m' v v' : Grades G) → AgreeMarks o b m m' → AgreeOwn o b v v' → AgreeRead o b v v' → AgreeOwn o b (given o m v) (given o m' v')
  given_same b m m' v v' marks own read i x e =
      grade_same o.kind o.tree m m' v v' (term_at o.query i) x
      (λ a is. marks a x (record { reader = i; stands = e.term; dealt_here = e.dealt_here; reads = is }) e.node)
      (λ j y r.
      let here : ReadsTerm o.query b j = reads_term e r in
      let node : y < o.tree.count = reading_node f.tree e.node r in
      elim (ℕ_discrete (block_of o.query j) b) [
        | yes same ↦ own j y (record { term = (read_entry b j y here node).term; dealt_here = same; node = node })
        | no other ↦ read j y here other node
      ])

  -- and keeps the order of its values
  pub given_better : (b : ℕ) (m v w : Grades G) → AgreeRead o b v w → ((j y : ℕ) → EntryOf o b j y → BetterAt o j (v j y) (w j y)) → (i x : ℕ) → EntryOf o b i x → BetterAt o i (given o m v i x) (given o m w i x)
  given_better b m v w read own i x e = grades_better f m b v w own i x e (λ j y r other. read j y (reads_term e r) other (reading_node f.tree e.node r))
