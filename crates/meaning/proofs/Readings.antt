-- What a term reads at a node, and that its grade depends on its mark and on that alone.
use Rattle.std.proofs.Common.{◌≡◌, ℕ, ◌<◌, Some, None, Option, refl, ap, ap₂}
use Rattle.grades.specs.Kind.{Kind}
use Rattle.shapes.specs.Tree.{Tree, along, Laws as TreeLaws}
use Rattle.queries.specs.declared.term.Term.{Term}
use Rattle.queries.specs.declared.term.Term.TheVariants.{Mark, Turn, Meet, Join, SomeNeighbour, EveryNeighbour, Lowest, Highest}
use Rattle.queries.specs.Table.{Table, Admitted, Reads, by_turn, by_meet_left, by_meet_right, by_join_left, by_join_right, by_some, by_every, term_at, block_of}
use Rattle.meaning.specs.Solutions.{Grades, Entry, grade_of_lem, at_or}
use Rattle.meaning.specs.Readings.{Reading}
use Rattle.meaning.specs.Readings.Reading.{turned, met_left, met_right, joined_left, joined_right, some_there, every_there}

-- a reading at a node is a reading of the term
pub reading_reads : {t : Tree} {m : Term} {x j y : ℕ} → Reading t m x j y → Reads m j
reading_reads (turned a x) = by_turn a
reading_reads (met_left a b x) = by_meet_left a b
reading_reads (met_right a b x) = by_meet_right a b
reading_reads (joined_left a b x) = by_join_left a b
reading_reads (joined_right a b x) = by_join_right a b
reading_reads (some_there axis a x y e) = by_some axis a
reading_reads (every_there axis a x y e) = by_every axis a

-- what is read at a node is read at a node
pub reading_node : {t : Tree} {m : Term} {x j y : ℕ} → TreeLaws t → x < t.count → Reading t m x j y → y < t.count
reading_node nodes h (turned a x) = h
reading_node nodes h (met_left a b x) = h
reading_node nodes h (met_right a b x) = h
reading_node nodes h (joined_left a b x) = h
reading_node nodes h (joined_right a b x) = h
reading_node nodes h (some_there axis a x y e) = nodes.inside axis x y e
reading_node nodes h (every_there axis a x y e) = nodes.inside axis x y e

-- what an entry reads is an entry of its own block
pub read_stands : {q : Table} {t : Tree} {b i x j y : ℕ} → TreeLaws t → Admitted q → Entry q t b i x → Reading t (term_at q i) x j y → Entry q t (block_of q j) j y
read_stands nodes admitted e r = record { term = admitted.operands_stand _ e.term _ (reading_reads r); dealt_here = refl; node = reading_node nodes e.node r }

at_or_same : {G : Type 0} (none : G) (v w : ℕ → G) (o : Option ℕ) → ((y : ℕ) → o ≡ Some y → v y ≡ w y) → at_or none v o ≡ at_or none w o
at_or_same none v w None h = refl
at_or_same none v w (Some y) h = h y refl

-- a term's grade depends on its mark and on the entries that it reads alone
pub grade_same : {G : Type 0} (k : Kind G) (t : Tree) (marks marks' v w : Grades G) (m : Term) (x : ℕ) → ((a : ℕ) → m ≡ Mark a → marks a x ≡ marks' a x) → ((j y : ℕ) → Reading t m x j y → v j y ≡ w j y) → grade_of_lem k t marks v m x ≡ grade_of_lem k t marks' w m x
grade_same k t marks marks' v w (Mark a) x h r = h a refl
grade_same k t marks marks' v w (Turn a) x h r = ap k.turned (r a x (turned a x))
grade_same k t marks marks' v w (Meet a b) x h r = ap₂ k.met (r a x (met_left a b x)) (r b x (met_right a b x))
grade_same k t marks marks' v w (Join a b) x h r = ap₂ k.joined (r a x (joined_left a b x)) (r b x (joined_right a b x))
grade_same k t marks marks' v w (SomeNeighbour axis a) x h r = at_or_same k.lowest (v a) (w a) (along t axis x) (λ y e. r a y (some_there axis a x y e))
grade_same k t marks marks' v w (EveryNeighbour axis a) x h r = at_or_same k.highest (v a) (w a) (along t axis x) (λ y e. r a y (every_there axis a x y e))
grade_same k t marks marks' v w Lowest x h r = refl
grade_same k t marks marks' v w Highest x h r = refl
