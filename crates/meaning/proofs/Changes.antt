-- One entry of a block at a time: what rises towards the best solution goes on rising towards it, in any order of the entries.
use Rattle.std.proofs.Common.{◌≡◌, ℕ, sym, ap, subst, subst₂, inl, inr, arith}
use Rattle.std.proofs.lemmas.Bool.{cases_eq}
use Rattle.grades.specs.Kind.{Kind}
use Rattle.shapes.specs.Tree.{Tree}
use Rattle.queries.specs.Table.{Table, term_at, block_of, direction}
use Rattle.meaning.specs.Solutions.{Grades, Entry, Better, Solves, AgreeBefore, Best, grade_of_lem}
use Rattle.meaning.specs.Rounds.{start}
use Rattle.meaning.proofs.Better.{better_equal, better_trans, better_start}
use Rattle.meaning.proofs.Monotone.{Lawful, Ordered, grades_ordered}
use Rattle.meaning.proofs.Agreement.{agree_trans}

-- every entry of block b is better than the grade that its term gives, or the same
abbrev pub Rising : {G : Type 0} → Kind G → Tree → Table → Grades G → ℕ → Grades G → Type 0
Rising k t q marks b v = (i x : ℕ) → Entry q t b i x → Better k (direction q i) (v i x) (grade_of_lem k t marks v (term_at q i) x)

-- v is better than every solution of block b over the same earlier blocks
abbrev pub Towards : {G : Type 0} → Kind G → Tree → Table → Grades G → ℕ → Grades G → Type 0
Towards {G} k t q marks b v = (w : Grades G) → AgreeBefore t q b v w → Solves k t q marks b w → Ordered k t q b v w

-- entry (j, y) takes the grade that its term gives, all else stays
pub record Changes {G : Type 0} (k : Kind G) (t : Tree) (q : Table) (marks : Grades G) (j y : ℕ) (v v' : Grades G) : Type 0 where
  pub takes : v' j y ≡ grade_of_lem k t marks v (term_at q j) y
  pub others : (i x : ℕ) → ((i ≡ j) × (x ≡ y) → ⊥) → v' i x ≡ v i x

-- what holds at one pair of numbers and at all others holds at all
at_pair : (P : ℕ → ℕ → Type 0) (j y : ℕ) → P j y → ((i x : ℕ) → ((i ≡ j) × (x ≡ y) → ⊥) → P i x) → (i x : ℕ) → P i x
at_pair P j y here others i x =
    elim (cases_eq i j) [
      | inr ne ↦ others i x (λ e. ne e.0)
      | inl e ↦
          elim (cases_eq x y) [
            | inr ne ↦ others i x (λ e'. ne e'.1)
            | inl e' ↦ subst₂ P (sym e) (sym e') here
          ]
    ]

-- a solution that is better than every solution is the best
pub towards_best : {G : Type 0} {k : Kind G} {t : Tree} {q : Table} (marks : Grades G) (b : ℕ) (v : Grades G) → Towards k t q marks b v → Solves k t q marks b v → Best k t q marks b v
towards_best marks b v towards solves = record { solves = solves; best = towards }

module _ {G : Type 0} {k : Kind G} {t : Tree} {q : Table} (lawful : Lawful k t q) (marks : Grades G) (b : ℕ) (v : Grades G) where
  -- a block at its start values rises, and is better than every solution
  pub start_rising : ((i x : ℕ) → Entry q t b i x → v i x ≡ start k (direction q i)) → Rising k t q marks b v
  start_rising at i x e = subst (λ g. Better k (direction q i) g (grade_of_lem k t marks v (term_at q i) x)) (sym (at i x e)) (better_start lawful.kind (direction q i) _)

  pub start_towards : ((i x : ℕ) → Entry q t b i x → v i x ≡ start k (direction q i)) → Towards k t q marks b v
  start_towards at w agree solves i x e = subst (λ g. Better k (direction q i) g (w i x)) (sym (at i x e)) (better_start lawful.kind (direction q i) _)

module _ {G : Type 0} {k : Kind G} {t : Tree} {q : Table} (lawful : Lawful k t q) (marks : Grades G) (b j y : ℕ) (here : Entry q t b j y) (v v' : Grades G) (changes : Changes k t q marks j y v v') where
  pub change_agrees : AgreeBefore t q b v v'
  change_agrees c i x l e = sym (changes.others i x (λ same. omega (arith, e.dealt_here, here.dealt_here, ap (block_of q) same.0)))

  -- no entry becomes better
  pub change_rises : Rising k t q marks b v → Ordered k t q b v v'
  change_rises rising =
      at_pair (λ i x. Entry q t b i x → Better k (direction q i) (v i x) (v' i x)) j y
      (λ e. subst (λ g. Better k (direction q j) (v j y) g) (sym changes.takes) (rising j y e))
      (λ i x ne e. better_equal lawful.kind (direction q i) (v i x) (v' i x) (sym (changes.others i x ne)))

  pub change_rising : Rising k t q marks b v → Rising k t q marks b v'
  change_rising rising =
      at_pair (λ i x. Entry q t b i x → Better k (direction q i) (v' i x) (grade_of_lem k t marks v' (term_at q i) x)) j y
      (λ e. subst (λ g. Better k (direction q j) g (grade_of_lem k t marks v' (term_at q j) y)) (sym changes.takes) (graded j y e))
      (λ i x ne e. subst (λ g. Better k (direction q i) g (grade_of_lem k t marks v' (term_at q i) x)) (sym (changes.others i x ne)) (better_trans lawful.kind (direction q i) (v i x) (grade_of_lem k t marks v (term_at q i) x) _ (rising i x e) (graded i x e)))
    where
      graded : (i x : ℕ) → Entry q t b i x → Better k (direction q i) (grade_of_lem k t marks v (term_at q i) x) (grade_of_lem k t marks v' (term_at q i) x)
      graded i x e = grades_ordered lawful marks b v v' change_agrees (change_rises rising) i x e

  pub change_towards : Towards k t q marks b v → Towards k t q marks b v'
  change_towards towards w agree solves =
      let agree' : AgreeBefore t q b v w = agree_trans t q b v v' w change_agrees agree in
      at_pair (λ i x. Entry q t b i x → Better k (direction q i) (v' i x) (w i x)) j y
      (λ e. subst₂ (Better k (direction q j)) (sym changes.takes) (sym (solves j y e)) (grades_ordered lawful marks b v w agree' (towards w agree' solves) j y e))
      (λ i x ne e. subst (λ g. Better k (direction q i) g (w i x)) (sym (changes.others i x ne)) (towards w agree' solves i x e))
