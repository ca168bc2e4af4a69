use Rattle.std.proofs.Common.{◌≡◌, ℕ, ◌<◌, ◌≤◌, true, false, Some, None, Option, MatchOption, arith, rules}
use Rattle.std.proofs.lemmas.Iterator.{first_from_Range}
use borrow.Author.Tests.{tests}
use Rattle.surveys.specs.declared.survey.Survey.{Survey}
use Rattle.surveys.specs.Stepping.{flag, AllFlagged, FirstStale}
use Rattle.surveys.proofs.survey.Survey.first_stale.Goals as goal

first_of_all : (v : Survey) (r : Option ℕ) → MatchOption r ((k : ℕ) → 0 ≤ k → k < v.blocks → flag v k ≡ true) (λ i. (0 ≤ i) × (i < v.blocks) × (flag v i ≡ false) × ((k : ℕ) → 0 ≤ k → k < i → flag v k ≡ true)) → MatchOption r (AllFlagged v) (λ b. FirstStale v b)
first_of_all v None h = λ b below. h b (omega arith) below
first_of_all v (Some b) h = record { stands = h.1; stale = h.2; before = λ c below. h.3 c (omega arith) below }

pub returns : goal.returns
returns c = first_of_all c.args.self.now c.find.result (first_from_Range _ _ _ c.find.result (λ b. flag c.args.self.now b ≡ false) (λ b. flag c.args.self.now b ≡ true) c.find.ensures.ran (λ x q k. search (rules, tests)) (λ x q k. search (rules, tests)))
