-- What a term reads, by its operands.
use Rattle.std.proofs.Common.{◌≡◌, ℕ, true, false, ◌||◌, eqb, IfSome, Some, None, sym, refl, ap, ◌∙◌, subst, inl, inr}
use Rattle.std.proofs.lemmas.Option.{MatchOption-at_some}
use Rattle.std.proofs.lemmas.Bool.{false≢true, or_cases, or_left, or_right, eqb-true, eq-eqb}
use Rattle.queries.specs.declared.term.Operands.{Operands}
use Rattle.queries.specs.declared.term.Term.{Term}
use Rattle.queries.specs.declared.term.Term.TheVariants.{Mark, Turn, Meet, Join, SomeNeighbour, EveryNeighbour, Lowest, Highest}
use Rattle.queries.specs.Operands.{operands_of, either_is}
use Rattle.queries.specs.Table.{Reads, by_turn, by_meet_left, by_meet_right, by_join_left, by_join_right, by_some, by_every}

-- P of both operands, if there are any
abbrev OfBoth : (ℕ → Type 0) → Term → Type 0
OfBoth P t = IfSome (operands_of t) (λ o. P o.left × P o.right)

-- where P holds of all that is read
of_both : (P : ℕ → Type 0) (t : Term) → ((j : ℕ) → Reads t j → P j) → OfBoth P t
of_both P (Mark a) h = tt
of_both P (Turn a) h = (h a (by_turn a), h a (by_turn a))
of_both P (Meet a b) h = (h a (by_meet_left a b), h b (by_meet_right a b))
of_both P (Join a b) h = (h a (by_join_left a b), h b (by_join_right a b))
of_both P (SomeNeighbour x a) h = (h a (by_some x a), h a (by_some x a))
of_both P (EveryNeighbour x a) h = (h a (by_every x a), h a (by_every x a))
of_both P Lowest h = tt
of_both P Highest h = tt

either_left : (a b : ℕ) → (eqb a a || eqb b a) ≡ true
either_left a b = or_left (eqb a a) (eqb b a) (eq-eqb a a refl)

either_right : (a b : ℕ) → (eqb a b || eqb b b) ≡ true
either_right a b = or_right (eqb a b) (eqb b b) (eq-eqb b b refl)

-- a term reads its operands, and nothing else
pub reads_test : {t : Term} {j : ℕ} → Reads t j → either_is (operands_of t) j ≡ true
reads_test (by_turn a) = either_left a a
reads_test (by_meet_left a b) = either_left a b
reads_test (by_meet_right a b) = either_right a b
reads_test (by_join_left a b) = either_left a b
reads_test (by_join_right a b) = either_right a b
reads_test (by_some x a) = either_left a a
reads_test (by_every x a) = either_left a a

either_one : (t : Term) (a b j : ℕ) → Reads t a → Reads t b → (eqb a j || eqb b j) ≡ true → Reads t j
either_one t a b j p q e = elim (or_cases (eqb a j) (eqb b j) e) [ inl l ↦ subst (Reads t) (eqb-true a j l) p | inr r ↦ subst (Reads t) (eqb-true b j r) q ]

pub test_reads : (t : Term) (j : ℕ) → either_is (operands_of t) j ≡ true → Reads t j
test_reads (Mark a) j e = absurd (false≢true e)
test_reads (Turn a) j e = either_one (Turn a) a a j (by_turn a) (by_turn a) e
test_reads (Meet a b) j e = either_one (Meet a b) a b j (by_meet_left a b) (by_meet_right a b) e
test_reads (Join a b) j e = either_one (Join a b) a b j (by_join_left a b) (by_join_right a b) e
test_reads (SomeNeighbour x a) j e = either_one (SomeNeighbour x a) a a j (by_some x a) (by_some x a) e
test_reads (EveryNeighbour x a) j e = either_one (EveryNeighbour x a) a a j (by_every x a) (by_every x a) e
test_reads Lowest j e = absurd (false≢true e)
test_reads Highest j e = absurd (false≢true e)

-- at the operands that a term has
module _ (t : Term) (o : Operands) (e : operands_of t ≡ Some o) where
  pub left_read : Reads t o.left
  left_read = (MatchOption-at_some (Unit {0}) (λ p. Reads t p.left × Reads t p.right) o e (of_both (Reads t) t (λ j r. r))).0

  pub right_read : Reads t o.right
  right_read = (MatchOption-at_some (Unit {0}) (λ p. Reads t p.left × Reads t p.right) o e (of_both (Reads t) t (λ j r. r))).1

-- a term with none reads nothing
pub none_read : (t : Term) → operands_of t ≡ None → (j : ℕ) → Reads t j → ⊥
none_read t e j r = let z : false ≡ true = ap (λ p. either_is p j) (sym e) ∙ reads_test r in false≢true z

pub turn_read : (t : Term) (a : ℕ) → t ≡ Turn a → Reads t a
turn_read t a e = subst (λ u. Reads u a) (sym e) (by_turn a)
