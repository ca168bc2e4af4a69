-- Decisions made of tests, and what they tell.
use Rattle.std.proofs.Common.{◌≡◌, ℕ, ◌≤◌, Bool, true, false, eqb, leb, Decides, refl}
use Rattle.std.proofs.lemmas.Bool.{eqb-true, eq-eqb, leb-true, le-leb}

pub le_decides : (m n : ℕ) → Decides (leb m n) (m ≤ n)
le_decides m n = (leb-true m n, le-leb m n)

pub eq_decides : (m n : ℕ) → Decides (eqb m n) (m ≡ n)
eq_decides m n = (eqb-true m n, eq-eqb m n)

pub decides? : (b : Bool) {P : Type 0} → Decides b P → Dec P
decides? true d = yes (d.0 refl)
decides? false d = no (λ p. let e = d.1 p in cc)

-- what is decided and cannot fail to hold, holds
pub sure : {P : Type 0} → Dec P → ((P → ⊥) → ⊥) → P
sure (yes p) h = p
sure (no n) h = absurd (h n)
