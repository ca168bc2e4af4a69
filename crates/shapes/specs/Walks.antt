-- Walks along a partial map of numbers, whatever the map.
use Rattle.std.specs.Prelude.{◌≡◌, ℕ, zero, suc, ◌<◌, ◌≤◌, ◌⊎◌, Some, None, Option, ◌≢◌, refl}
use Rattle.std.proofs.Common.{subst, inl, inr, ⊎_elim, arith}
use Rattle.std.proofs.lemmas.Bool.{cases_lt}
use Rattle.shapes.specs.Tree.{Present}
use Rattle.shapes.specs.Mirrors.{Leads, walk_end}
use Rattle.shapes.specs.Mirrors.Leads.{here, onward}

-- options
pub option_cases : (o : Option ℕ) → (o ≡ None) ⊎ Present o
option_cases None = inl refl
option_cases (Some y) = inr (y, refl)

pub not_both : (o : Option ℕ) (y : ℕ) → o ≡ None → o ≢ Some y
not_both o y n s = cc

pub absent : (o : Option ℕ) → (Present o → ⊥) → o ≡ None
absent None h = refl
absent (Some y) h = absurd (h (y, refl))

-- a map that has nothing from n on has something only below n
pub within : (f : ℕ → Option ℕ) (n x y : ℕ) → (n ≤ x → f x ≡ None) → f x ≡ Some y → x < n
within f n x y outside e = ⊎_elim (λ h. h) (λ h. absurd (not_both (f x) y (outside h) e)) (cases_lt x n)

pub walk_stop : (f : ℕ → Option ℕ) (k x : ℕ) → f x ≡ None → walk_end f k x ≡ x
walk_stop f zero x e = refl
walk_stop f (suc k) x e = rw (e, walk_end) refl

walk_on : (f : ℕ → Option ℕ) (k x y : ℕ) → f x ≡ Some y → walk_end f (suc k) x ≡ walk_end f k y
walk_on f k x y e = rw (e, walk_end) refl

pub walk_leads : (f : ℕ → Option ℕ) (k x : ℕ) → Leads f x (walk_end f k x)
walk_leads f zero x = here x
walk_leads f (suc k) x = ⊎_elim
    (λ e. rw (walk_stop f (suc k) x e) (here x))
    (λ w. rw (walk_on f k x w.0 w.1) (onward x w.0 _ w.1 (walk_leads f k w.0)))
    (option_cases (f x))

-- a walk with enough steps ends where the map has none
pub walk_ends : (f : ℕ → Option ℕ) (μ : ℕ → ℕ) → ((x y : ℕ) → f x ≡ Some y → μ y < μ x) → (k x : ℕ) → μ x < k → f (walk_end f k x) ≡ None
walk_ends f μ falls zero x lt = absurd (omega arith)
walk_ends f μ falls (suc k) x lt = ⊎_elim
    (λ e. rw (walk_stop f (suc k) x e) e)
    (λ w. rw (walk_on f k x w.0 w.1) (walk_ends f μ falls k w.0 (omega (arith, falls x w.0 w.1))))
    (option_cases (f x))

pub leads_more : (f : ℕ → Option ℕ) (x y z : ℕ) → Leads f x y → f y ≡ Some z → Leads f x z
leads_more f _ _ z (here x) e = onward x z z e (here z)
leads_more f _ _ z (onward x y w s r) e = onward x y z s (leads_more f y w z r e)

-- the same way back
pub leads_back : (f g : ℕ → Option ℕ) → ((x y : ℕ) → f x ≡ Some y → g y ≡ Some x) → (x z : ℕ) → Leads f x z → Leads g z x
leads_back f g turn _ _ (here x) = here x
leads_back f g turn _ _ (onward x y z e r) = leads_more g z y x (leads_back f g turn y z r) (turn x y e)

pub one_end : (f : ℕ → Option ℕ) (x y z : ℕ) → Leads f x y → f y ≡ None → Leads f x z → f z ≡ None → y ≡ z
one_end f _ _ z (here x) ey r ez = stays x z ey r
  where
    stays : (x z : ℕ) → f x ≡ None → Leads f x z → x ≡ z
    stays _ _ n (here x) = refl
    stays _ _ n (onward x y z e r) = absurd (not_both (f x) y n e)
one_end f _ _ z (onward x w y e r) ey r' ez = one_end f w y z r ey (past x z w e ez r') ez
  where
    past : (x z w : ℕ) → f x ≡ Some w → f z ≡ None → Leads f x z → Leads f w z
    past _ _ w e n (here x) = absurd (not_both (f x) w n e)
    past _ _ w e n (onward x v z e' r) = let s : v ≡ w = cc in subst (λ (i : ℕ). Leads f i z) s r

-- what passes along each step passes along the way
pub leads_keeps : (f : ℕ → Option ℕ) (P : ℕ → Type 0) → ((x y : ℕ) → f x ≡ Some y → P x → P y) → (x z : ℕ) → Leads f x z → P x → P z
leads_keeps f P step _ _ (here x) p = p
leads_keeps f P step _ _ (onward x y z e r) p = leads_keeps f P step y z r (step x y e p)
