-- The blockwise solution stands, and is the only one.
use Rattle.std.proofs.Common.{◌≡◌, ℕ, zero, suc, ◌<◌, ◌≤◌, length, sym, refl, ◌∙◌, subst, le_refl, arith}
use Rattle.grades.specs.Kind.{Kind}
use Rattle.shapes.specs.Tree.{Tree}
use Rattle.queries.specs.Table.{Table, term_at, block_of, direction}
use Rattle.meaning.specs.Solutions.{Grades, Entry, Better, AgreeBefore, Best, Blockwise, grade_of_lem}
use Rattle.meaning.specs.Rounds.{after, enough}
use Rattle.meaning.proofs.Better.{better_equal, better_antisym}
use Rattle.meaning.proofs.Monotone.{Lawful, grades_ordered}
use Rattle.meaning.proofs.Sums.{below_suc}
use Rattle.meaning.proofs.Admitted.{block_stands}
use Rattle.meaning.proofs.Agreement.{agree_sym, agree_trans, agree_fewer, agree_more}
use Rattle.meaning.proofs.Rounds.{after_elsewhere}
use Rattle.meaning.proofs.Reached.{rounds_best, best_unique}

-- the first b blocks solved, one after the other
built : {G : Type 0} → Kind G → Tree → Table → Grades G → ℕ → Grades G
built k t q marks zero = λ i x. k.lowest
built k t q marks (suc b) = after k t q marks b (built k t q marks b) (enough k t q)

module _ {G : Type 0} {k : Kind G} {t : Tree} {q : Table} (lawful : Lawful k t q) (marks : Grades G) where
  -- what the terms of block b give depends on block b and those before it alone
  pub grades_same : (b : ℕ) (v w : Grades G) → AgreeBefore t q (suc b) v w → (i x : ℕ) → Entry q t b i x → grade_of_lem k t marks v (term_at q i) x ≡ grade_of_lem k t marks w (term_at q i) x
  grades_same b v w agree i x e =
      better_antisym lawful.kind (direction q i) _ _
      (grades_ordered lawful marks b v w (agree_fewer t q b v w agree) (λ j y e'. better_equal lawful.kind (direction q j) (v j y) (w j y) (agree b j y (le_refl (suc b)) e')) i x e)
      (grades_ordered lawful marks b w v (agree_sym t q b v w (agree_fewer t q b v w agree)) (λ j y e'. better_equal lawful.kind (direction q j) (w j y) (v j y) (sym (agree b j y (le_refl (suc b)) e'))) i x e)

  -- so whether an assignment is best at block b depends on block b and those before it alone
  pub best_carries : (b : ℕ) (v w : Grades G) → AgreeBefore t q (suc b) v w → Best k t q marks b v → Best k t q marks b w
  best_carries b v w agree best = record {
    solves = λ i x e. sym (agree b i x (le_refl (suc b)) e) ∙ (best.solves i x e ∙ grades_same b v w agree i x e);
    best = λ u agree' solves i x e. subst (λ g. Better k (direction q i) g (u i x)) (agree b i x (le_refl (suc b)) e) (best.best u (agree_trans t q b v w u (agree_fewer t q b v w agree) agree') solves i x e);
  }

  built_agrees : (b : ℕ) → AgreeBefore t q b (built k t q marks b) (built k t q marks (suc b))
  unfolding built
  built_agrees b c i x h e = sym (after_elsewhere k t q marks b (built k t q marks b) i x (λ e'. omega (arith, e.dealt_here)) (enough k t q))

  built_best : (b c : ℕ) → c < b → Best k t q marks c (built k t q marks b)
  unfolding built
  built_best zero c h = absurd (omega arith)
  built_best (suc b) c h =
      below_suc (λ d. Best k t q marks d (built k t q marks (suc b))) b
      (λ d l. best_carries d (built k t q marks b) (built k t q marks (suc b)) (λ a i x m e. built_agrees b a i x (omega arith) e) (built_best b d l))
      (rounds_best lawful marks b (built k t q marks b) (enough k t q) (le_refl (enough k t q))) c h

  -- there is a blockwise solution
  pub blockwise_stands : (v : Grades G) × Blockwise k t q marks v
  blockwise_stands = (built k t q marks (length q.blocks), built_best (length q.blocks))

  agree_up_to : (v w : Grades G) → Blockwise k t q marks v → Blockwise k t q marks w → (b : ℕ) → b ≤ length q.blocks → AgreeBefore t q b v w
  agree_up_to v w bv bw zero h c i x l e = absurd (omega arith)
  agree_up_to v w bv bw (suc b) h c i x l e =
      let before : AgreeBefore t q b v w = agree_up_to v w bv bw b (omega arith) in
      agree_more t q b v w before (best_unique lawful marks b v w before (bv b h) (bw b h)) c i x l e

  -- two blockwise solutions are the same at every term and node
  pub blockwise_unique : (v w : Grades G) → Blockwise k t q marks v → Blockwise k t q marks w → (i x : ℕ) → i < length q.terms → x < t.count → v i x ≡ w i x
  blockwise_unique v w bv bw i x hi hx =
      agree_up_to v w bv bw (length q.blocks) (le_refl (length q.blocks)) (block_of q i) i x (block_stands lawful.admitted i hi)
      (record { term = hi; dealt_here = refl; node = hx })
