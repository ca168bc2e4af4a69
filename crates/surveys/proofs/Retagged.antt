-- A retag keeps a state sound.
use Rattle.std.proofs.Common.{◌≡◌, ℕ, false, T, List, [], Some, None, Option, sym, refl, ◌∙◌, subst}
use Rattle.queries.specs.Table.{Reaches, block_of}
use Rattle.surveys.specs.Places.{Place}
use Rattle.surveys.specs.Promise.{Lasts}
use Rattle.surveys.specs.Rules.{Opening, State, EntryOf, Retags, start_of}
use Rattle.surveys.proofs.Decisions.{grade?, fails_not, none_some, some_some}
use Rattle.surveys.proofs.Readings.{Accepted, ReadsTerm, AgreeMarks, AgreeOwn, AgreeRead, read_entry, read_tag}
use Rattle.surveys.proofs.Ready.{Ready, ready_stays}
use Rattle.surveys.proofs.Sound.{Sound}

module _ {G : Type 0} (o : Opening G) (f : Accepted o) (tag node : ℕ) (grade : G) (s s' : State G) (r : Retags o tag node grade s s') where
  settled_unreached : (b : ℕ) → T (s'.settled b) → Reaches o.query tag b → ⊥
  settled_unreached b h reached = fails_not (r.reached_stale b reached) h

  -- an unreached block that is settled stays so, with its rows
  pub retag_lasts : (b : ℕ) → (Reaches o.query tag b → ⊥) → T (s.settled b) → Lasts o b s s'
  retag_lasts b not h = record { settled = rw (r.unreached_settled b not) h; rows = r.unreached_values b not }

  module _ (b : ℕ) (not : Reaches o.query tag b → ⊥) where
    -- an unreached block reads unreached blocks
    reads_unreached : (j : ℕ) → ReadsTerm o.query b j → Reaches o.query tag (block_of o.query j) → ⊥
    reads_unreached j reads reached = not (subst (Reaches o.query tag) reads.dealt_here (Reaches.by_reading reads.reader j reads.stands reads.reads reached))

    -- so nothing changes of what it reads
    pub unreached_marks : AgreeMarks o b s.marks s'.marks
    unreached_marks a x reads n = sym (r.other_marks a x (read_tag o f b a reads) n (λ e. not (subst (Reaches o.query tag) reads.dealt_here (Reaches.by_mark reads.reader reads.stands (rw e.0 at reads.reads)))))

    pub unreached_own : AgreeOwn o b s.values s'.values
    unreached_own i x e = sym (r.unreached_values b not i x e)

    pub unreached_read : AgreeRead o b s.values s'.values
    unreached_read j y reads other n = sym (r.unreached_values (block_of o.query j) (reads_unreached j reads) j y (read_entry o f b j y reads n))

    unreached_stays : (queue : List Place) → Ready o s.marks s.values s.settled b queue → Ready o s'.marks s'.values s'.settled b queue
    unreached_stays queue =
        ready_stays o f s.marks s'.marks s.values s'.values s.settled s'.settled b queue unreached_marks unreached_own unreached_read
        (λ j reads t. rw (r.unreached_settled (block_of o.query j) (reads_unreached j reads)) t)

  -- the current block was current, and is not reached
  pub current_before : (b : ℕ) → s'.current ≡ Some b → (s.current ≡ Some b) × ((Reaches o.query tag b → ⊥) × (s'.queue ≡ s.queue))
  current_before b h = go s.current refl
    where
      go : (w : Option ℕ) → s.current ≡ w → (s.current ≡ Some b) × ((Reaches o.query tag b → ⊥) × (s'.queue ≡ s.queue))
      go None e = absurd (none_some (r.none_current e).0 h)
      go (Some c) e =
          let not : Reaches o.query tag c → ⊥ = λ reached. none_some (r.reached_current c reached e).0 h in
          let same : c ≡ b = some_some (r.unreached_current c not e).0 h in
          (rw same at e, (rw same at not, (r.unreached_current c not e).1))

  module _ (sound : Sound o s) where
    unreached_start : (b : ℕ) → (Reaches o.query tag b → ⊥) → s'.settled b ≡ false → (s'.current ≡ Some b → ⊥) → (i x : ℕ) → EntryOf o b i x → s'.values i x ≡ start_of o i
    unreached_start b not stale idle i x e = r.unreached_values b not i x e ∙ sound.untouched b (sym (r.unreached_settled b not) ∙ stale) (λ w. idle (r.unreached_current b not w).0) i x e

    pub sound_retags : Sound o s'
    sound_retags = record {
      settled_ready = λ b h. let not = settled_unreached b h in unreached_stays b not [] (sound.settled_ready b (rw (r.unreached_settled b not) at h));
      current_ready = λ b e. let w = current_before b e in rw w.1.1 (unreached_stays b w.1.0 s.queue (sound.current_ready b w.0));
      current_stale = λ b e. let w = current_before b e in r.unreached_settled b w.1.0 ∙ sound.current_stale b w.0;
      current_waits = λ b e empty. let w = current_before b e in sound.current_waits b w.0 (sym w.1.1 ∙ empty);
      untouched = λ b stale idle i x e. elim (grade? f.kind (s'.values i x) (start_of o i)) [
        | yes start ↦ start
        | no moved ↦ unreached_start b (λ reached. moved (r.reached_start b reached i x e)) stale idle i x e
      ];
    }
