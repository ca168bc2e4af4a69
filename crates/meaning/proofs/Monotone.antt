-- What a term gives is monotone in what it reads.
use Rattle.std.proofs.Common.{◌≡◌, ℕ, ◌<◌, length, Some, None, Option, sym, refl, ◌∙◌, subst, arith}
use native.Mathlib.Decide.{ℕ_discrete}
use Rattle.grades.specs.Kind.{Kind, Laws as KindLaws}
use Rattle.shapes.specs.Tree.{Tree, along, Laws as TreeLaws}
use Rattle.queries.specs.declared.block.Solution.{Solution}
use Rattle.queries.specs.declared.term.Term.{Term}
use Rattle.queries.specs.declared.term.Term.TheVariants.{Mark, Turn, Meet, Join, SomeNeighbour, EveryNeighbour, Lowest, Highest}
use Rattle.queries.specs.Table.{Table, Admitted, Directed, Reads, by_meet_left, by_meet_right, by_join_left, by_join_right, by_some, by_every, term_at, block_of, direction, opposite}
use Rattle.queries.proofs.Directions.{directed}
use Rattle.meaning.specs.Solutions.{Grades, Entry, Better, AgreeBefore, grade_of_lem, at_or}
use Rattle.meaning.specs.Readings.{Reading}
use Rattle.meaning.specs.Readings.Reading.{turned, met_left, met_right, joined_left, joined_right, some_there, every_there}
use Rattle.meaning.proofs.Better.{better_refl, better_equal, better_met, better_joined, better_turned}
use Rattle.meaning.proofs.Readings.{reading_reads, read_stands}

-- all that the theory asks of a kind, a tree and a query
pub record Lawful {G : Type 0} (k : Kind G) (t : Tree) (q : Table) : Type 0 where
  pub kind : KindLaws k
  pub tree : TreeLaws t
  pub admitted : Admitted q

-- v is better than w at every entry of block b
abbrev pub Ordered : {G : Type 0} → Kind G → Tree → Table → ℕ → Grades G → Grades G → Type 0
Ordered k t q b v w = (i x : ℕ) → Entry q t b i x → Better k (direction q i) (v i x) (w i x)

-- the direction in which the operands of a term have to go so that it goes in the direction d
abbrev pub under : Term → Solution → Solution
under (Mark a) d = d
under (Turn a) d = opposite d
under (Meet a b) d = d
under (Join a b) d = d
under (SomeNeighbour x a) d = d
under (EveryNeighbour x a) d = d
under Lowest d = d
under Highest d = d

at_or_better : {G : Type 0} {k : Kind G} → KindLaws k → (d : Solution) (none : G) (v w : ℕ → G) (o : Option ℕ) → ((y : ℕ) → o ≡ Some y → Better k d (v y) (w y)) → Better k d (at_or none v o) (at_or none w o)
at_or_better laws d none v w None h = better_refl laws d none
at_or_better laws d none v w (Some y) h = h y refl

-- where what it reads is better, so is what a term gives
pub grade_better : {G : Type 0} {k : Kind G} → KindLaws k → (t : Tree) (marks v w : Grades G) (d : Solution) (m : Term) (x : ℕ) → ((j y : ℕ) → Reading t m x j y → Better k (under m d) (v j y) (w j y)) → Better k d (grade_of_lem k t marks v m x) (grade_of_lem k t marks w m x)
grade_better laws t marks v w d (Mark a) x h = better_refl laws d _
grade_better laws t marks v w d (Turn a) x h = better_turned laws d _ _ (h a x (turned a x))
grade_better laws t marks v w d (Meet a b) x h = better_met laws d _ _ _ _ (h a x (met_left a b x)) (h b x (met_right a b x))
grade_better laws t marks v w d (Join a b) x h = better_joined laws d _ _ _ _ (h a x (joined_left a b x)) (h b x (joined_right a b x))
grade_better {k = k} laws t marks v w d (SomeNeighbour axis a) x h = at_or_better laws d k.lowest (v a) (w a) (along t axis x) (λ y e. h a y (some_there axis a x y e))
grade_better {k = k} laws t marks v w d (EveryNeighbour axis a) x h = at_or_better laws d k.highest (v a) (w a) (along t axis x) (λ y e. h a y (every_there axis a x y e))
grade_better laws t marks v w d Lowest x h = better_refl laws d _
grade_better laws t marks v w d Highest x h = better_refl laws d _

abbrev IsTurn : Term → Type 0
IsTurn (Mark a) = ⊥
IsTurn (Turn a) = Unit {0}
IsTurn (Meet a b) = ⊥
IsTurn (Join a b) = ⊥
IsTurn (SomeNeighbour x a) = ⊥
IsTurn (EveryNeighbour x a) = ⊥
IsTurn Lowest = ⊥
IsTurn Highest = ⊥

-- within a block an entry that is read has the direction that its reader needs
module _ {q : Table} (dir : Directed q) (i : ℕ) (stands : i < length q.terms) where
  like : (m : Term) → term_at q i ≡ m → (IsTurn m → ⊥) → (j : ℕ) → Reads m j → block_of q j ≡ block_of q i → direction q j ≡ direction q i
  like m e steady j r = dir.others_like i j stands (subst (λ n. Reads n j) (sym e) r) (λ a e'. steady (subst IsTurn (sym e' ∙ e) tt))

  reads_as : {t : Tree} {m : Term} {x j y : ℕ} → term_at q i ≡ m → Reading t m x j y → block_of q j ≡ block_of q i → direction q j ≡ under m (direction q i)
  reads_as e (turned a x) = dir.turn_unlike i a stands e
  reads_as e (met_left a b x) = like (Meet a b) e (λ z. z) a (by_meet_left a b)
  reads_as e (met_right a b x) = like (Meet a b) e (λ z. z) b (by_meet_right a b)
  reads_as e (joined_left a b x) = like (Join a b) e (λ z. z) a (by_join_left a b)
  reads_as e (joined_right a b x) = like (Join a b) e (λ z. z) b (by_join_right a b)
  reads_as e (some_there axis a x y f) = like (SomeNeighbour axis a) e (λ z. z) a (by_some axis a)
  reads_as e (every_there axis a x y f) = like (EveryNeighbour axis a) e (λ z. z) a (by_every axis a)

  pub reads_like : {t : Tree} {x j y : ℕ} → Reading t (term_at q i) x j y → block_of q j ≡ block_of q i → direction q j ≡ under (term_at q i) (direction q i)
  reads_like = reads_as refl

module _ {G : Type 0} {k : Kind G} {t : Tree} {q : Table} (lawful : Lawful k t q) (marks : Grades G) (b : ℕ) (v w : Grades G) where
  -- of two assignments that are in order at block b, and agree on what its entry reads elsewhere, the grades of the entry are in order too
  pub grades_better : Ordered k t q b v w → (i x : ℕ) → Entry q t b i x → ((j y : ℕ) → Reading t (term_at q i) x j y → (block_of q j ≡ b → ⊥) → v j y ≡ w j y) → Better k (direction q i) (grade_of_lem k t marks v (term_at q i) x) (grade_of_lem k t marks w (term_at q i) x)
  grades_better ordered i x here elsewhere = grade_better lawful.kind t marks v w (direction q i) (term_at q i) x (λ j y r. elim (ℕ_discrete (block_of q j) b) [
    | yes e ↦
        let stands : Entry q t (block_of q j) j y = read_stands lawful.tree lawful.admitted here r in
        subst (λ d. Better k d (v j y) (w j y)) (reads_like (directed lawful.admitted) i here.term r (e ∙ sym here.dealt_here)) (ordered j y (record { term = stands.term; dealt_here = e; node = stands.node }))
    | no other ↦ better_equal lawful.kind (under (term_at q i) (direction q i)) (v j y) (w j y) (elsewhere j y r other)
  ])

  -- and so where the two agree before block b
  pub grades_ordered : AgreeBefore t q b v w → Ordered k t q b v w → (i x : ℕ) → Entry q t b i x → Better k (direction q i) (grade_of_lem k t marks v (term_at q i) x) (grade_of_lem k t marks w (term_at q i) x)
  grades_ordered agree ordered i x here = grades_better ordered i x here (λ j y r other.
      let no_later = lawful.admitted.no_later_block i here.term j (reading_reads r) in
      agree (block_of q j) j y (omega (arith, here.dealt_here)) (read_stands lawful.tree lawful.admitted here r))
