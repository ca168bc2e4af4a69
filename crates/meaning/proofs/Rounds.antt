-- Rounds of a block from its start values: each leads on in the order of the solution, and none past a solution.
use Rattle.std.proofs.Common.{◌≡◌, ℕ, zero, suc, eqb, sym, ◌∙◌, subst, subst₂, arith}
use Rattle.std.proofs.lemmas.Bool.{cond-true, cond-false, eq-eqb, ne_eqb}
use Rattle.grades.specs.Kind.{Kind}
use Rattle.shapes.specs.Tree.{Tree}
use Rattle.queries.specs.Table.{Table, term_at, block_of, direction}
use Rattle.meaning.specs.Solutions.{Grades, Entry, Better, Solves, AgreeBefore, grade_of_lem}
use Rattle.meaning.specs.Rounds.{start, started, advanced, after}
use Rattle.meaning.proofs.Agreement.{agree_sym, agree_trans}
use Rattle.meaning.proofs.Better.{better_trans, better_antisym, better_start}
use Rattle.meaning.proofs.Monotone.{Lawful, Ordered, grades_ordered}

module _ {G : Type 0} (k : Kind G) (t : Tree) (q : Table) (marks : Grades G) (b : ℕ) (v : Grades G) (i x : ℕ) where
  pub started_here : block_of q i ≡ b → started k q b v i x ≡ start k (direction q i)
  unfolding started
  started_here e = cond-true (eqb (block_of q i) b) _ _ (eq-eqb (block_of q i) b e)

  pub advanced_here : block_of q i ≡ b → advanced k t q marks b v i x ≡ grade_of_lem k t marks v (term_at q i) x
  unfolding advanced
  advanced_here e = cond-true (eqb (block_of q i) b) _ _ (eq-eqb (block_of q i) b e)

  started_elsewhere : (block_of q i ≡ b → ⊥) → started k q b v i x ≡ v i x
  unfolding started
  started_elsewhere ne = cond-false (eqb (block_of q i) b) _ _ (ne_eqb (block_of q i) b ne)

  advanced_elsewhere : (block_of q i ≡ b → ⊥) → advanced k t q marks b v i x ≡ v i x
  unfolding advanced
  advanced_elsewhere ne = cond-false (eqb (block_of q i) b) _ _ (ne_eqb (block_of q i) b ne)

-- rounds of block b leave all other blocks as they were
pub after_elsewhere : {G : Type 0} (k : Kind G) (t : Tree) (q : Table) (marks : Grades G) (b : ℕ) (v : Grades G) (i x : ℕ) → (block_of q i ≡ b → ⊥) → (n : ℕ) → after k t q marks b v n i x ≡ v i x
after_elsewhere k t q marks b v i x ne zero = started_elsewhere k t q marks b v i x ne
after_elsewhere k t q marks b v i x ne (suc n) = advanced_elsewhere k t q marks b (after k t q marks b v n) i x ne ∙ after_elsewhere k t q marks b v i x ne n

pub after_agrees : {G : Type 0} (k : Kind G) (t : Tree) (q : Table) (marks : Grades G) (b : ℕ) (v : Grades G) (n : ℕ) → AgreeBefore t q b v (after k t q marks b v n)
after_agrees k t q marks b v n c i x h e = sym (after_elsewhere k t q marks b v i x (λ e'. omega (arith, e.dealt_here)) n)

module _ {G : Type 0} {k : Kind G} {t : Tree} {q : Table} (lawful : Lawful k t q) (marks : Grades G) (b : ℕ) (v : Grades G) where
  -- block b after n rounds
  abbrev at : ℕ → Grades G
  at n = after k t q marks b v n

  rounds_agree : (m n : ℕ) → AgreeBefore t q b (at m) (at n)
  rounds_agree m n = agree_trans t q b (at m) v (at n) (agree_sym t q b v (at m) (after_agrees k t q marks b v m)) (after_agrees k t q marks b v n)

  start_better : (w : Grades G) → Ordered k t q b (at zero) w
  start_better w i x e = subst (λ g. Better k (direction q i) g (w i x)) (sym (started_here k t q marks b v i x e.dealt_here)) (better_start lawful.kind (direction q i) (w i x))

  -- each round leads to grades no better than those before
  pub rounds_rise : (n : ℕ) → Ordered k t q b (at n) (at (suc n))
  rounds_rise zero i x e = start_better (at 1) i x e
  rounds_rise (suc n) i x e =
      subst₂ (Better k (direction q i))
      (sym (advanced_here k t q marks b (at n) i x e.dealt_here))
      (sym (advanced_here k t q marks b (at (suc n)) i x e.dealt_here))
      (grades_ordered lawful marks b (at n) (at (suc n)) (rounds_agree n (suc n)) (rounds_rise n) i x e)

  -- and stays better than every solution over the same earlier blocks
  pub rounds_better : (w : Grades G) → AgreeBefore t q b v w → Solves k t q marks b w → (n : ℕ) → Ordered k t q b (at n) w
  rounds_better w agree solves zero i x e = start_better w i x e
  rounds_better w agree solves (suc n) i x e =
      subst₂ (Better k (direction q i))
      (sym (advanced_here k t q marks b (at n) i x e.dealt_here))
      (sym (solves i x e))
      (grades_ordered lawful marks b (at n) w (agree_trans t q b (at n) v w (agree_sym t q b v (at n) (after_agrees k t q marks b v n)) agree) (rounds_better w agree solves n) i x e)

  -- what the next round repeats is a solution
  pub repeats_solves : (n : ℕ) → ((i x : ℕ) → Entry q t b i x → at n i x ≡ at (suc n) i x) → Solves k t q marks b (at n)
  repeats_solves n same i x e = same i x e ∙ advanced_here k t q marks b (at n) i x e.dealt_here

  -- once solved, solved in the next round too
  pub solved_stays : (n : ℕ) → Solves k t q marks b (at n) → Solves k t q marks b (at (suc n))
  solved_stays n solves =
      repeats_solves (suc n) λ i x e.
      better_antisym lawful.kind (direction q i) (at (suc n) i x) (at (suc (suc n)) i x)
      (rounds_rise (suc n) i x e)
      (better_trans lawful.kind (direction q i) (at (suc (suc n)) i x) (at n i x) (at (suc n) i x)
      (rounds_better (at n) (after_agrees k t q marks b v n) solves (suc (suc n)) i x e)
      (rounds_rise n i x e))
