-- The rows of settled blocks are those of the blockwise solution.
use Rattle.std.proofs.Common.{◌≡◌, ℕ, zero, suc, ◌<◌, Bool, cond, T, eqb, [], sym, refl, ◌∙◌, arith}
use Rattle.std.proofs.lemmas.Bool.{cond-true, cond-false, eq-eqb, ne_eqb}
use Rattle.queries.specs.Table.{Table, block_of, direction}
use Rattle.meaning.specs.Solutions.{Grades, Solves, AgreeBefore, Best}
use Rattle.meaning.proofs.Better.{better_between, better_antisym}
use Rattle.surveys.specs.Promise.{SolutionNow}
use Rattle.surveys.specs.Rules.{Opening, State, EntryOf, EveryBlockSettled}
use Rattle.surveys.proofs.Membership.{in_none}
use Rattle.surveys.proofs.Readings.{Accepted, AgreeRead, AgreeOwn, BetterAt, read_entry, read_earlier, given_same}
use Rattle.surveys.proofs.Ready.{Ready}
use Rattle.surveys.proofs.Sound.{Sound}

-- u in block b, and v elsewhere
abbrev spliced : {G : Type 0} → Table → ℕ → Grades G → Grades G → Grades G
spliced q b u v i x = cond (eqb (block_of q i) b) (u i x) (v i x)

module _ {G : Type 0} (o : Opening G) (f : Accepted o) (m : Grades G) (b : ℕ) where
  -- the best solution is best over what the block reads: what agrees with it there can be made to agree on all earlier blocks
  best_over_readings : (v : Grades G) → Best o.kind o.tree o.query m b v → (w : Grades G) → AgreeRead o b v w → Solves o.kind o.tree o.query m b w → (i x : ℕ) → EntryOf o b i x → BetterAt o i (v i x) (w i x)
  best_over_readings v best w agree solves i x e = better_between f.kind (direction o.query i) (v i x) (v i x) (z i x) (w i x) refl (sym (own i x e)) (best.best z before z_solves i x e)
    where
      z : Grades G
      z = spliced o.query b w v

      own : (i x : ℕ) → EntryOf o b i x → z i x ≡ w i x
      own i x e = cond-true (eqb (block_of o.query i) b) (w i x) (v i x) (eq-eqb (block_of o.query i) b e.dealt_here)

      other : (i x : ℕ) → (block_of o.query i ≡ b → ⊥) → z i x ≡ v i x
      other i x n = cond-false (eqb (block_of o.query i) b) (w i x) (v i x) (ne_eqb (block_of o.query i) b n)

      before : AgreeBefore o.tree o.query b v z
      before c i x earlier e = sym (other i x (λ d. omega (arith, e.dealt_here)))

      z_solves : Solves o.kind o.tree o.query m b z
      z_solves i x e = own i x e ∙ solves i x e ∙ given_same o f b m m w z (λ a x reads n. refl) (λ i x e. sym (own i x e)) (λ j y reads elsewhere n. sym (agree j y reads elsewhere n) ∙ sym (other j y elsewhere)) i x e

  -- over the same readings there is one best solution
  best_once : (u v : Grades G) → Best o.kind o.tree o.query m b u → Best o.kind o.tree o.query m b v → AgreeRead o b u v → AgreeOwn o b u v
  best_once u v p r agree i x e = better_antisym f.kind (direction o.query i) (u i x) (v i x) (best_over_readings u p v agree r.solves i x e) (best_over_readings v r u (λ j y reads other n. sym (agree j y reads other n)) p.solves i x e)

module _ {G : Type 0} (o : Opening G) (f : Accepted o) where
  -- a block with no entry waiting has its best solution over the earlier blocks
  ready_best : (m v : Grades G) (settled : ℕ → Bool) (b : ℕ) → Ready o m v settled b [] → Best o.kind o.tree o.query m b v
  ready_best m v settled b r = record {
    solves = λ i x e. r.quiet i x e in_none;
    best = λ w before. r.under w (λ j y reads other n. before (block_of o.query j) j y (omega (arith, read_earlier o f b j reads)) (read_entry o f b j y reads n));
  }

  module _ (s : State G) (sound : Sound o s) where
    -- all settled blocks below n, in order
    settled_agree : (v : Grades G) → SolutionNow o s v → (n b : ℕ) → b < n → T (s.settled b) → AgreeOwn o b s.values v
    settled_agree v blockwise zero b below h = absurd (omega arith)
    settled_agree v blockwise (suc n) b below h =
        let r = sound.settled_ready b h in
        best_once o f s.marks b s.values v (ready_best s.marks s.values s.settled b r) (blockwise b r.stands)
        (λ j y reads other node. settled_agree v blockwise n (block_of o.query j) (omega (arith, read_earlier o f b j reads)) (r.grounds j reads other) j y (read_entry o f b j y reads node))

    -- the row of a settled block is that of the blockwise solution on the marks of this moment
    pub sound_key : (v : Grades G) → SolutionNow o s v → (b i x : ℕ) → T (s.settled b) → EntryOf o b i x → s.values i x ≡ v i x
    sound_key v blockwise b i x h e = settled_agree v blockwise (suc b) b (omega arith) h i x e

    -- with all blocks settled, the values are the blockwise solution
    pub all_settled_blockwise : EveryBlockSettled o s → SolutionNow o s s.values
    all_settled_blockwise all b stands = ready_best s.marks s.values s.settled b (sound.settled_ready b (all b stands))
