-- A reading is accepted exactly when its block is settled, with the row of the blockwise solution.
use Rattle.std.proofs.Common.{◌≡◌, ℕ, ◌<◌, false, T, length, refl, ◌∙◌}
use Rattle.queries.specs.Table.{block_of}
use Rattle.meaning.specs.Solutions.{Grades}
use Rattle.surveys.specs.declared.refusal.SurveyRefusal.TheVariants.{NotSettled}
use Rattle.surveys.specs.Calls.{Does}
use Rattle.surveys.specs.Calls.Answer.{row, refused}
use Rattle.surveys.specs.Calls.Call.{read}
use Rattle.surveys.specs.Promise.{ReadsExactly, SolutionNow}
use Rattle.surveys.specs.Rules.{Opening, State}
use Rattle.surveys.proofs.Keys.{sound_key}
use Rattle.surveys.proofs.Readings.{Accepted}
use Rattle.surveys.proofs.Sound.{Sound}

read_settled : {G : Type 0} {o : Opening G} {s s' : State G} {r : ℕ} {vs : ℕ → G} → Does o s (read r) (row vs) s' → T (s.settled (block_of o.query r))
read_settled (Does.reads r vs h t rows) = t

refused_stale : {G : Type 0} {o : Opening G} {s s' : State G} {r : ℕ} → Does o s (read r) (refused NotSettled) s' → s.settled (block_of o.query r) ≡ false
refused_stale (Does.not_settled r l e) = e

read_right : {G : Type 0} (o : Opening G) → Accepted o → {s s' : State G} → Sound o s → {r : ℕ} {vs : ℕ → G} → Does o s (read r) (row vs) s' → (v : Grades G) → SolutionNow o s v → (x : ℕ) → x < o.tree.count → vs x ≡ v r x
read_right o f {s = s} sound (Does.reads r vs h t rows) v solution x n = rows x n ∙ sound_key o f s sound v solution (block_of o.query r) r x t (record { term = h; dealt_here = refl; node = n })

pub reads_exactly : {G : Type 0} (o : Opening G) → Accepted o → (s : State G) → Sound o s → (r : ℕ) → r < length o.query.terms → ReadsExactly o s r
reads_exactly o f s sound r h = record {
  accepted = (λ t. (s.values r, (s, Does.reads r (s.values r) h t (λ x n. refl))), λ w. read_settled w.1.1);
  right = λ vs s' does. read_right o f sound does;
  not_settled = (λ stale. (s, Does.not_settled r h stale), λ w. refused_stale w.1);
}
