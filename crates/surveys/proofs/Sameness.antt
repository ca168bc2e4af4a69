-- States that are the same: what they have in common.
use Rattle.std.proofs.Common.{◌≡◌, ℕ, Bool, true, false, T, List, sym, refl, ◌∙◌, subst, arith}
use native.Mathlib.Decide.{dec_lt}
use Rattle.grades.specs.Kind.{Says}
use Rattle.surveys.specs.Places.{Place, Lists}
use Rattle.surveys.specs.Promise.{SameState}
use Rattle.surveys.specs.Rules.{Opening, State, EntryOf, WorksOn, EveryBlockSettled}
use Rattle.surveys.proofs.Decisions.{fails_not, none_some, some_some}
use Rattle.surveys.proofs.Order.{listed_once}

pub says_same : {P Q : Type 0} (b c : Bool) → Says b P → Says c Q → (P → Q) → (Q → P) → b ≡ c
says_same true true p r to from = refl
says_same true false p r to from = absurd (r.1 (to (p.0 tt)))
says_same false true p r to from = absurd (p.1 (from (r.0 tt)))
says_same false false p r to from = refl

module _ {G : Type 0} (o : Opening G) where
  pub same_itself : (s : State G) → SameState o s s
  same_itself s = record { marks = λ a x h n. refl; values = λ b i x e. refl; settled = λ b. refl; current = refl; queue = refl }

  pub same_back : (s t : State G) → SameState o s t → SameState o t s
  same_back s t same = record { marks = λ a x h n. sym (same.marks a x h n); values = λ b i x e. sym (same.values b i x e); settled = λ b. sym (same.settled b); current = sym same.current; queue = sym same.queue }

module _ {G : Type 0} (o : Opening G) (s t : State G) (same : SameState o s t) where
  pub all_same : EveryBlockSettled o s → EveryBlockSettled o t
  all_same all b l = subst T (same.settled b) (all b l)

  -- the next step is at the same place
  pub works_same : {b c : ℕ} {ps rs : List Place} → WorksOn o s b ps → WorksOn o t c rs → (b ≡ c) × (ps ≡ rs)
  works_same (WorksOn.goes_on b e) (WorksOn.goes_on c e') = (some_some (sym same.current ∙ e) e', same.queue)
  works_same (WorksOn.goes_on b e) (WorksOn.begins c rs idle stands stale earlier lists) = absurd (none_some idle (sym same.current ∙ e))
  works_same (WorksOn.begins b ps idle stands stale earlier lists) (WorksOn.goes_on c e) = absurd (none_some idle (same.current ∙ e))
  works_same (WorksOn.begins b ps idle stands stale earlier lists) (WorksOn.begins c rs idle' stands' stale' earlier' lists') =
      let e : b ≡ c = first in
      (e, listed_once (subst (λ d. Lists (λ p. EntryOf o d p.0 p.1) ps) e lists) lists')
    where
      first : b ≡ c
      first = elim (dec_lt b c) [
        | yes l ↦ absurd (fails_not (sym (same.settled b) ∙ stale) (earlier' b l))
        | no n ↦ elim (dec_lt c b) [
          | yes l ↦ absurd (fails_not (same.settled c ∙ stale') (earlier c l))
          | no m ↦ omega arith
        ]
      ]
