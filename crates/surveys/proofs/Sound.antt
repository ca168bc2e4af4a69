-- What holds of a survey's state after every call.
use Rattle.std.proofs.Common.{◌≡◌, ℕ, false, T, [], Some, refl}
use Rattle.surveys.specs.Rules.{Opening, State, EntryOf, opened, start_of}
use Rattle.surveys.proofs.Decisions.{none_some}
use Rattle.surveys.proofs.Ready.{Ready}

pub record Sound {G : Type 0} (o : Opening G) (s : State G) : Type 0 where
  -- a settled block has come to its best solution
  pub settled_ready : (b : ℕ) → T (s.settled b) → Ready o s.marks s.values s.settled b []
  -- the current block is on its way there, stale, and some of its entries wait
  pub current_ready : (b : ℕ) → s.current ≡ Some b → Ready o s.marks s.values s.settled b s.queue
  pub current_stale : (b : ℕ) → s.current ≡ Some b → s.settled b ≡ false
  pub current_waits : (b : ℕ) → s.current ≡ Some b → s.queue ≡ [] → ⊥
  -- every other block has its start values
  pub untouched : (b : ℕ) → s.settled b ≡ false → (s.current ≡ Some b → ⊥) → (i x : ℕ) → EntryOf o b i x → s.values i x ≡ start_of o i

pub sound_opened : {G : Type 0} (o : Opening G) → Sound o (opened o)
sound_opened o = record {
  settled_ready = λ b h. elim h [ ];
  current_ready = λ b e. absurd (none_some refl e);
  current_stale = λ b e. refl;
  current_waits = λ b e. absurd (none_some refl e);
  untouched = λ b stale idle i x e. refl;
}
