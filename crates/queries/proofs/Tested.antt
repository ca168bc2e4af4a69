-- Tests of a term's operands, and what they decide.
use Rattle.std.proofs.Common.{◌≡◌, ℕ, ◌+◌, ◌<◌, ◌≤◌, Bool, true, ◌&&◌, ltb, leb, Some, Decides, sym, refl, ap, ◌∙◌, ap₂, inl, inr, arith}
use Rattle.std.proofs.lemmas.Bool.{cases_lt, and_parts, and_from, ltb-true, lt-ltb, le-ltb, leb-true, le-leb, lt-leb}
use Rattle.queries.specs.declared.block.Span.{Span}
use Rattle.queries.specs.declared.term.Operands.{Operands}
use Rattle.queries.specs.declared.term.Term.{Term}
use Rattle.queries.specs.declared.term.Term.TheVariants.{Mark, Turn, Meet, Join, SomeNeighbour, EveryNeighbour, Lowest, Highest}
use Rattle.queries.specs.Checks.{both_in, tag_below, standing, reading_up_to, SpanOf}
use Rattle.queries.specs.Operands.{operands_of}
use Rattle.queries.specs.Table.{Table, block_of, Reads, by_turn, by_meet_left, by_meet_right, by_join_left, by_join_right, by_some, by_every}
use Rattle.queries.proofs.Deals.{before, before_more, dealt_before, dealt_from}

-- the rules for a term by itself, and with the block of each term
pub record StandsAlone (tags count : ℕ) (term : Term) : Type 0 where
  pub tag : (a : ℕ) → term ≡ Mark a → a < tags
  pub operands : (j : ℕ) → Reads term j → j < count

abbrev pub ReadsUpTo : (ℕ → ℕ) → ℕ → Term → Type 0
ReadsUpTo blocks block term = (j : ℕ) → Reads term j → blocks j ≤ block

-- a test of both operands is one of all that is read
module _ (test : ℕ → Bool) where
  each : {t : Term} {j : ℕ} (other : Bool) → both_in (operands_of t) other test ≡ true → Reads t j → test j ≡ true
  each other e (by_turn a) = (and_parts (test a) (test a) e).0
  each other e (by_meet_left a b) = (and_parts (test a) (test b) e).0
  each other e (by_meet_right a b) = (and_parts (test a) (test b) e).1
  each other e (by_join_left a b) = (and_parts (test a) (test b) e).0
  each other e (by_join_right a b) = (and_parts (test a) (test b) e).1
  each other e (by_some x a) = (and_parts (test a) (test a) e).0
  each other e (by_every x a) = (and_parts (test a) (test a) e).0

  both : (t : Term) (other : Bool) → other ≡ true → ((j : ℕ) → Reads t j → test j ≡ true) → both_in (operands_of t) other test ≡ true
  both (Mark a) other e h = e
  both (Turn a) other e h = and_from (test a) (test a) (h a (by_turn a)) (h a (by_turn a))
  both (Meet a b) other e h = and_from (test a) (test b) (h a (by_meet_left a b)) (h b (by_meet_right a b))
  both (Join a b) other e h = and_from (test a) (test b) (h a (by_join_left a b)) (h b (by_join_right a b))
  both (SomeNeighbour x a) other e h = and_from (test a) (test a) (h a (by_some x a)) (h a (by_some x a))
  both (EveryNeighbour x a) other e h = and_from (test a) (test a) (h a (by_every x a)) (h a (by_every x a))
  both Lowest other e h = e
  both Highest other e h = e

tag_there : (t : Term) (tags : ℕ) → ((a : ℕ) → t ≡ Mark a → a < tags) → tag_below t tags ≡ true
tag_there (Mark a) tags h = lt-ltb a tags (h a refl)
tag_there (Turn a) tags h = refl
tag_there (Meet a b) tags h = refl
tag_there (Join a b) tags h = refl
tag_there (SomeNeighbour x a) tags h = refl
tag_there (EveryNeighbour x a) tags h = refl
tag_there Lowest tags h = refl
tag_there Highest tags h = refl

pub standing_decided : (tags count : ℕ) (t : Term) → Decides (standing tags count t) (StandsAlone tags count t)
standing_decided tags count t = (
  (λ e. record { tag = λ a m. ltb-true a tags (ap (standing tags count) (sym m) ∙ e); operands = λ j r. ltb-true j count (each (λ k. ltb k count) (tag_below t tags) e r) }),
  (λ s. both (λ k. ltb k count) t (tag_below t tags) (tag_there t tags s.tag) (λ j r. lt-ltb j count (s.operands j r))),
)

pub reading_decided : (blocks : ℕ → ℕ) (block : ℕ) (t : Term) → Decides (reading_up_to blocks block t) (ReadsUpTo blocks block t)
reading_decided blocks block t = (
  (λ e j r. leb-true (blocks j) block (each (λ k. leb (blocks k) block) true e r)),
  (λ h. both (λ k. leb (blocks k) block) t true refl (λ j r. le-leb (blocks j) block (h j r))),
)

-- tests by the terms of a block
module _ (q : Table) (block : ℕ) (s : Span) (of : SpanOf q block s) where
  pub first_at : s.first ≡ before q.blocks block
  first_at = ap (λ (x : Span). x.first) of.is

  pub end_at : s.end ≡ before q.blocks (block + 1)
  end_at = ap (λ (x : Span). x.end) of.is ∙ sym (before_more q.blocks block of.stands)

  pub before_end : (j : ℕ) → ltb j s.end ≡ leb (block_of q j) block
  before_end j = elim (cases_lt j s.end) [ inl l ↦ below l | inr l ↦ past l ]
    where
      below : j < s.end → ltb j s.end ≡ leb (block_of q j) block
      below l = lt-ltb j s.end l ∙ sym (le-leb (block_of q j) block (omega (arith, end_at, dealt_before q.blocks (block + 1) j (omega (arith, of.stands)) (omega (arith, end_at)))))

      past : s.end ≤ j → ltb j s.end ≡ leb (block_of q j) block
      past l = le-ltb j s.end l ∙ sym (lt-leb (block_of q j) block (omega (arith, end_at, dealt_from q.blocks (block + 1) j (omega (arith, of.stands)) (omega (arith, end_at)))))

  pub both_before_end : (o : Operands) → (ltb o.left s.end && ltb o.right s.end) ≡ both_in (Some o) true (λ j. leb (block_of q j) block)
  both_before_end o = ap₂ ◌&&◌ (before_end o.left) (before_end o.right)

  pub before_first : (a : ℕ) → a < s.first → block_of q a < block
  before_first a l = dealt_before q.blocks block a (omega (arith, of.stands)) (omega (arith, first_at))

  pub first_before : (a : ℕ) → block_of q a < block → a < s.first
  first_before a l = elim (cases_lt a s.first) [ inl h ↦ h | inr h ↦ absurd (past h) ]
    where
      past : s.first ≤ a → ⊥
      past h = omega (arith, dealt_from q.blocks block a (omega (arith, of.stands)) (omega (arith, first_at)))
