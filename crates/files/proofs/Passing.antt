-- A file is checked section by section: what a section that is fine, and the first cause in one, say of the whole.
use Rattle.std.proofs.Common.{◌≡◌, ℕ, ◌+◌, ◌-◌, ◌<◌, ◌≤◌, List, sym, subst, ◌∙◌, inl, inr, arith}
use Rattle.std.proofs.lemmas.Bool.{cases_lt}
use Rattle.files.specs.declared.fault.LineCause.{LineCause}
use Rattle.files.specs.declared.fault.LineFault.{LineFault}
use Rattle.files.specs.declared.tables.Room.{Room}
use Rattle.files.specs.Causes.{Cause, FirstCause}
use Rattle.files.specs.Checking.{CheckedTo, FirstOn}
use Rattle.files.specs.Contents.{Contents}
use Rattle.files.specs.Faults.{number_of_cause}
use Rattle.files.proofs.Sections.{Section, start, size, CauseIn, on_line, made}

module _ (room : Room) (c : Contents) (t : Section) (k : ℕ) where
  abbrev CausesFrom : List ℕ → ℕ → Type 0
  CausesFrom rest line = (n l : ℕ) → Cause room c rest n l → line ≤ l

  -- where nothing is wrong with the first lines of a section, every cause is behind these
  pub causes_behind : (rest : List ℕ) → k ≤ size c t → CausesFrom rest (start c t) → ((j n : ℕ) → j < k → CauseIn room c rest t j n → ⊥) → CausesFrom rest (start c t + k)
  causes_behind rest inside before fine n l cause =
      elim (cases_lt l (start c t + k)) [
        | inl here ↦
            let from : start c t ≤ l = before n l cause in
            absurd (fine (l - start c t) n (omega arith) (on_line room c rest t (l - start c t) n l (omega arith) (omega arith) cause))
        | inr later ↦ later
      ]

  pub passes : k ≤ size c t → CheckedTo room c (start c t) → ((rest : List ℕ) (j n : ℕ) → j < k → CauseIn room c rest t j n → ⊥) → CheckedTo room c (start c t + k)
  passes inside checked fine = record {
    in_order = checked.in_order;
    few = checked.few;
    head = checked.head;
    causes = λ rest. causes_behind rest inside (checked.causes rest) (fine rest);
  }

  module _ (rest : List ℕ) (inside : k < size c t) (before : CausesFrom rest (start c t + k)) where
    -- where no cause is on an earlier line, the first on a line is the first of all
    pub found : (n l : ℕ) → l ≡ start c t + k → FirstOn (CauseIn room c rest t k) n → FirstCause room c rest n l
    found n l at on =
        let it = made room c rest t k n inside on.is in
        record {
          cause = subst (Cause room c rest n) (it.1 ∙ sym at) it.2;
          first = λ m l' cause. elim (cases_lt l l') [
            | inl later ↦ inl later
            | inr near ↦
                let same : l ≡ l' = omega (arith, before m l' cause) in
                inr (same, on.first m (on_line room c rest t k m l' inside (sym same ∙ at) cause))
          ];
        }

    -- and so is the fault that says it
    pub found_at : (why : LineCause) (line : ℕ) (f : LineFault) → f ≡ record { line = line; cause = why } → line ≡ start c t + k → FirstOn (CauseIn room c rest t k) (number_of_cause why) → FirstCause room c rest (number_of_cause f.cause) f.line
    found_at why line f is at on = rw is (found (number_of_cause why) line at on)
