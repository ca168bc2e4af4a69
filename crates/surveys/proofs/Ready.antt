-- A block on its way to its best solution: what holds while some of its entries wait, and so, with none waiting, of its solution.
use Rattle.std.proofs.Common.{◌≡◌, ℕ, ◌<◌, Bool, T, List, length, sym, refl, ◌∙◌, arith}
use Rattle.queries.specs.Table.{block_of, direction}
use Rattle.meaning.specs.Solutions.{Grades, Solves}
use Rattle.meaning.proofs.Better.{better_between, better_start}
use Rattle.surveys.specs.Places.{Place, In, Lists}
use Rattle.surveys.specs.Rules.{Opening, EntryOf, start_of, given}
use Rattle.surveys.proofs.Readings.{Accepted, ReadsTerm, AgreeRead, AgreeOwn, AgreeMarks, BetterAt, read_earlier, given_same}

-- block b, with the entries of the queue waiting
pub record Ready {G : Type 0} (o : Opening G) (m v : Grades G) (settled : ℕ → Bool) (b : ℕ) (queue : List Place) : Type 0 where
  pub stands : b < length o.query.blocks
  -- the other blocks that it reads are settled
  pub grounds : (j : ℕ) → ReadsTerm o.query b j → (block_of o.query j ≡ b → ⊥) → T (settled (block_of o.query j))
  -- what waits is an entry of the block
  pub within : (p : Place) → In p queue → EntryOf o b p.0 p.1
  -- no entry has passed what its term gives
  pub rising : (i x : ℕ) → EntryOf o b i x → BetterAt o i (v i x) (given o m v i x)
  -- nor any solution of the block over the same readings
  pub under : (w : Grades G) → AgreeRead o b v w → Solves o.kind o.tree o.query m b w → (i x : ℕ) → EntryOf o b i x → BetterAt o i (v i x) (w i x)
  -- an entry that does not wait has what its term gives
  pub quiet : (i x : ℕ) → EntryOf o b i x → (In (i, x) queue → ⊥) → v i x ≡ given o m v i x

module _ {G : Type 0} (o : Opening G) (f : Accepted o) where
  -- a block stays so while nothing that it reads is changed
  pub ready_stays : (m m' v v' : Grades G) (settled settled' : ℕ → Bool) (b : ℕ) (queue : List Place) → AgreeMarks o b m m' → AgreeOwn o b v v' → AgreeRead o b v v' → ((j : ℕ) → ReadsTerm o.query b j → T (settled (block_of o.query j)) → T (settled' (block_of o.query j))) → Ready o m v settled b queue → Ready o m' v' settled' b queue
  ready_stays m m' v v' settled settled' b queue marks own read keep r = record {
    stands = r.stands;
    grounds = λ j reads other. keep j reads (r.grounds j reads other);
    within = r.within;
    rising = λ i x e. better_between f.kind (direction o.query i) (v i x) (v' i x) (given o m v i x) (given o m' v' i x) (sym (own i x e)) (sym (next i x e)) (r.rising i x e);
    under = λ w agree solves i x e.
        better_between f.kind (direction o.query i) (v i x) (v' i x) (w i x) (w i x) (sym (own i x e)) refl
        (r.under w (λ j y reads other n. read j y reads other n ∙ agree j y reads other n)
        (λ i x e. solves i x e ∙ sym (given_same o f b m m' w w marks (λ i x e. refl) (λ j y reads other n. refl) i x e)) i x e);
    quiet = λ i x e out. sym (own i x e) ∙ r.quiet i x e out ∙ next i x e;
  }
    where
      next : AgreeOwn o b (given o m v) (given o m' v')
      next = given_same o f b m m' v v' marks own read

  -- a block that begins, with all its entries waiting at their start values
  pub ready_begins : (m v : Grades G) (settled : ℕ → Bool) (b : ℕ) (queue : List Place) → b < length o.query.blocks → ((c : ℕ) → c < b → T (settled c)) → ((i x : ℕ) → EntryOf o b i x → v i x ≡ start_of o i) → Lists (λ p. EntryOf o b p.0 p.1) queue → Ready o m v settled b queue
  ready_begins m v settled b queue stands earlier start lists = record {
    stands = stands;
    grounds = λ j reads other. earlier (block_of o.query j) (omega (arith, read_earlier o f b j reads));
    within = lists.sound;
    rising = λ i x e. best i x e (given o m v i x);
    under = λ w agree solves i x e. best i x e (w i x);
    quiet = λ i x e out. absurd (out (lists.whole (i, x) e));
  }
    where
      best : (i x : ℕ) → EntryOf o b i x → (g : G) → BetterAt o i (v i x) g
      best i x e g = better_between f.kind (direction o.query i) (start_of o i) (v i x) g g (start i x e) refl (better_start f.kind (direction o.query i) g)
