-- What holds in every lawful tree: levels stay below the count, so a walk along an axis ends within it.
use Rattle.std.specs.Prelude.{◌≡◌, ℕ, zero, suc, ◌+◌, ◌-◌, ◌<◌, ◌≤◌, cond, ◌⊎◌, Some, None, ◌==◌, ◌≢◌, refl}
use Rattle.std.proofs.Common.{sym, ap, subst, ◌∙◌, inl, inr, ⊎_elim}
use native.Mathlib.Omega.{arith}
use Rattle.std.proofs.lemmas.Bool.{cases_eq, cases_lt, cond-true, cond-false, eq-eqb, ne_eqb}
use Rattle.shapes.specs.declared.axis.Axis.{Axis}
use Rattle.shapes.specs.declared.axis.Axis.TheVariants.{First, Next, Owner, Previous}
use Rattle.shapes.specs.Tree.{Tree, Laws, along}
use Rattle.shapes.specs.Mirrors.{Leads, walk_end}
use Rattle.shapes.specs.Walks.{not_both, absent, within, walk_stop, walk_leads, walk_ends, one_end}

-- where the values of f below n cover the numbers below m, m is at most n
pub covered : (n m : ℕ) (f : ℕ → ℕ) → ((k : ℕ) → k < m → (y : ℕ) × (y < n) × (f y ≡ k)) → m ≤ n
covered n zero f h = omega arith
covered zero (suc m) f h = absurd (let c = h 0 (omega arith) in omega arith)
covered (suc n) (suc m) f h =
    ⊎_elim
    (λ over. let rest : suc m ≤ n = covered n (suc m) f (λ k lt. let c = h k lt in (c.0, below k c.0 c.1 c.2 (λ e. omega arith), c.2)) in omega arith)
    (λ le. let rest : m ≤ n = covered n m (λ y. cond (f y == m) (f n) (f y)) moved in omega arith)
    (cases_lt m (f n))
  where
    below : (k y : ℕ) → y < suc n → f y ≡ k → (f n ≢ k) → y < n
    below k y lt e d = ⊎_elim (λ s. absurd (d (ap f (sym s) ∙ e))) (λ s. omega arith) (cases_eq y n)

    moved : (k : ℕ) → k < m → (y : ℕ) × (y < n) × (cond (f y == m) (f n) (f y) ≡ k)
    moved k lt = ⊎_elim
        (λ s. let c = h m (omega arith) in (c.0, below m c.0 c.1 c.2 (λ e. omega arith), cond-true _ _ _ (eq-eqb _ _ c.2) ∙ s))
        (λ d. let c = h k (omega arith) in (c.0, below k c.0 c.1 c.2 d, cond-false _ _ _ (ne_eqb (f c.0) m (λ e. omega arith)) ∙ c.2))
        (cases_eq (f n) k)

module _ (t : Tree) (l : Laws t) where
  -- what has a neighbour is a node
  pub starts_inside : (a : Axis) (x y : ℕ) → along t a x ≡ Some y → x < t.count
  starts_inside a x y e = within (along t a) t.count x y (l.outside a x) e

  -- no two nodes have the same neighbour along one axis
  pub injective : (a : Axis) (x x' y : ℕ) → along t a x ≡ Some y → along t a x' ≡ Some y → x ≡ x'
  injective a x x' y e e' = let s = l.reversed a x y e in let s' = l.reversed a x' y e' in cc

  pub way_in : (y : ℕ) → y < t.count → (y ≡ 0) ⊎ (((p : ℕ) × (t.first p ≡ Some y)) ⊎ ((p : ℕ) × (t.next p ≡ Some y)))
  way_in zero h = inl refl
  way_in (suc y) h = ⊎_elim
      (λ b. inr (inl (b.0.0, l.reversed Owner (suc y) b.0.0 b.0.1)))
      (λ b. inr (inr (b.1.0, l.reversed Previous (suc y) b.1.0 b.1.1)))
      (l.one_way_in (suc y) (omega arith) h)

  -- what holds at the root and passes along first and along next holds at every node
  pub tree_ind : (P : ℕ → Type 0) → P 0 → ((x y : ℕ) → t.first x ≡ Some y → P x → P y) → ((x y : ℕ) → t.next x ≡ Some y → P x → P y) → (x : ℕ) → x < t.count → P x
  tree_ind P r f n x h = go (suc (l.level x)) x h (omega arith)
    where
      go : (k x : ℕ) → x < t.count → l.level x < k → P x
      go zero x h lt = absurd (omega arith)
      go (suc k) x h lt = ⊎_elim
          (λ e. subst P (sym e) r)
          (⊎_elim
          (λ w. f w.0 x w.1 (go k w.0 (starts_inside First w.0 x w.1) (omega (arith, l.level_first w.0 x w.1))))
          (λ w. n w.0 x w.1 (go k w.0 (starts_inside Next w.0 x w.1) (omega (arith, l.level_next w.0 x w.1)))))
          (way_in x h)

  -- on the way from the root to a node every level up to its own is met
  level_met : (k x : ℕ) → x < t.count → k ≤ l.level x → (y : ℕ) × (y < t.count) × (l.level y ≡ k)
  level_met k = tree_ind (λ x. k ≤ l.level x → (y : ℕ) × (y < t.count) × (l.level y ≡ k))
      (λ le. (0, omega (arith, l.countable), omega (arith, l.level_root)))
      (λ x y e met. on x y (l.inside First x y e) (l.level_first x y e) met)
      (λ x y e met. on x y (l.inside Next x y e) (l.level_next x y e) met)
    where
      on : (x y : ℕ) → y < t.count → l.level y ≡ l.level x + 1 → (k ≤ l.level x → (y : ℕ) × (y < t.count) × (l.level y ≡ k)) → k ≤ l.level y → (y : ℕ) × (y < t.count) × (l.level y ≡ k)
      on x y lt e met le = ⊎_elim (λ h. met (omega arith)) (λ h. (y, lt, omega arith)) (cases_lt k (l.level y))

  pub level_below : (x : ℕ) → x < t.count → l.level x < t.count
  level_below x h = covered t.count (suc (l.level x)) l.level (λ k lt. level_met k x h (omega arith))

  -- how many steps along an axis there can be yet
  unfoldable pub to_go : Axis → ℕ → ℕ
  to_go First x = t.count - 1 - l.level x
  to_go Next x = t.count - 1 - l.level x
  to_go Owner x = l.level x
  to_go Previous x = l.level x

  to_go_below : (a : Axis) (x : ℕ) → x < t.count → to_go a x < t.count
  unfolding to_go
  to_go_below First x h = omega arith
  to_go_below Next x h = omega arith
  to_go_below Owner x h = level_below x h
  to_go_below Previous x h = level_below x h

  pub to_go_falls : (a : Axis) (x y : ℕ) → along t a x ≡ Some y → to_go a y < to_go a x
  unfolding to_go
  to_go_falls First x y e = omega (arith, l.level_first x y e, level_below y (l.inside First x y e))
  to_go_falls Next x y e = omega (arith, l.level_next x y e, level_below y (l.inside Next x y e))
  to_go_falls Owner x y e = omega (arith, l.level_first y x (l.reversed Owner x y e))
  to_go_falls Previous x y e = omega (arith, l.level_next y x (l.reversed Previous x y e))

  -- so a walk of as many steps as there are nodes comes to the end
  pub axis_ends : (a : Axis) (x : ℕ) → along t a (walk_end (along t a) t.count x) ≡ None
  axis_ends a x = ⊎_elim
      (λ lt. walk_ends (along t a) (to_go a) (to_go_falls a) t.count x (to_go_below a x lt))
      (λ le. let e = l.outside a x le in rw (walk_stop (along t a) t.count x e) e)
      (cases_lt x t.count)

  pub end_is : (a : Axis) (x z : ℕ) → Leads (along t a) x z → along t a z ≡ None → z ≡ walk_end (along t a) t.count x
  end_is a x z r e = one_end (along t a) x z _ r e (walk_leads (along t a) t.count x) (axis_ends a x)

  -- a child has no second way in, and is not the root
  pub child_first : (x y : ℕ) → t.first x ≡ Some y → (0 < y) × (t.previous y ≡ None)
  child_first x zero e = absurd (not_both _ x l.root_owner (l.reversed First x 0 e))
  child_first x (suc y) e = (
    omega arith,
    ⊎_elim
        (λ b. absent _ b.1)
        (λ b. absurd (b.0 (x, l.reversed First x (suc y) e)))
        (l.one_way_in (suc y) (omega arith) (l.inside First x (suc y) e)),
  )

  pub sibling_later : (x y : ℕ) → t.next x ≡ Some y → (0 < y) × (t.owner y ≡ None)
  sibling_later x zero e = absurd (not_both _ x l.root_previous (l.reversed Next x 0 e))
  sibling_later x (suc y) e = (
    omega arith,
    ⊎_elim
        (λ b. absurd (b.1 (x, l.reversed Next x (suc y) e)))
        (λ b. absent _ b.0)
        (l.one_way_in (suc y) (omega arith) (l.inside Next x (suc y) e)),
  )
