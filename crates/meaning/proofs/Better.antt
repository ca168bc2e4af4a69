-- The order of a solution, least or greatest: its laws, the operations on it, and how far a grade is from the start value.
use Rattle.std.proofs.Common.{◌≡◌, ℕ, ◌-◌, ◌<◌, ◌≤◌, ◌⊎◌, sym, ap, subst, inl, inr, arith}
use Rattle.grades.specs.Kind.{Kind, Laws, Below}
use Rattle.queries.specs.declared.block.Solution.{Solution}
use Rattle.queries.specs.declared.block.Solution.TheVariants.{Least, Greatest}
use Rattle.queries.specs.Table.{opposite}
use Rattle.meaning.specs.Solutions.{Better}
use Rattle.meaning.specs.Rounds.{start}

-- how far a grade is from the start value, by rank
abbrev pub distance : {G : Type 0} → Kind G → Solution → G → ℕ
distance k Least x = k.rank x
distance k Greatest x = k.height - k.rank x

module _ {G : Type 0} {k : Kind G} (laws : Laws k) where
  pub better_refl : (s : Solution) (x : G) → Better k s x x
  better_refl Least x = laws.below_refl x
  better_refl Greatest x = laws.below_refl x

  pub better_equal : (s : Solution) (x y : G) → x ≡ y → Better k s x y
  better_equal s x y e = subst (λ z. Better k s x z) e (better_refl s x)

  pub better_trans : (s : Solution) (x y z : G) → Better k s x y → Better k s y z → Better k s x z
  better_trans Least x y z p r = laws.below_trans x y z p r
  better_trans Greatest x y z p r = laws.below_trans z y x r p

  pub better_antisym : (s : Solution) (x y : G) → Better k s x y → Better k s y x → x ≡ y
  better_antisym Least x y p r = laws.below_antisym x y p r
  better_antisym Greatest x y p r = laws.below_antisym x y r p

  -- what is equal to the ends may take their place
  pub better_between : (s : Solution) (x x' y y' : G) → x' ≡ x → y' ≡ y → Better k s x y → Better k s x' y'
  better_between s x x' y y' p r h = better_trans s x' x y' (better_equal s x' x p) (better_trans s x y y' h (better_equal s y y' (sym r)))

  -- the start value is better than every grade
  pub better_start : (s : Solution) (x : G) → Better k s (start k s) x
  better_start Least x = laws.lowest_below x
  better_start Greatest x = laws.below_highest x

  pub below_met : (x x' y y' : G) → Below k x x' → Below k y y' → Below k (k.met x y) (k.met x' y')
  below_met x x' y y' p r = laws.meet_greatest x' y' (k.met x y) (laws.below_trans _ x _ (laws.meet_left x y) p) (laws.below_trans _ y _ (laws.meet_right x y) r)

  pub below_joined : (x x' y y' : G) → Below k x x' → Below k y y' → Below k (k.joined x y) (k.joined x' y')
  below_joined x x' y y' p r = laws.join_least x y (k.joined x' y') (laws.below_trans _ x' _ p (laws.join_left x' y')) (laws.below_trans _ y' _ r (laws.join_right x' y'))

  pub better_met : (s : Solution) (x x' y y' : G) → Better k s x x' → Better k s y y' → Better k s (k.met x y) (k.met x' y')
  better_met Least x x' y y' p r = below_met x x' y y' p r
  better_met Greatest x x' y y' p r = below_met x' x y' y p r

  pub better_joined : (s : Solution) (x x' y y' : G) → Better k s x x' → Better k s y y' → Better k s (k.joined x y) (k.joined x' y')
  better_joined Least x x' y y' p r = below_joined x x' y y' p r
  better_joined Greatest x x' y y' p r = below_joined x' x y' y p r

  -- what is better in the opposite order is better in this one once turned
  pub better_turned : (s : Solution) (x y : G) → Better k (opposite s) x y → Better k s (k.turned x) (k.turned y)
  better_turned Least x y p = laws.turn_reverses y x p
  better_turned Greatest x y p = laws.turn_reverses x y p

  pub distance_bounded : (s : Solution) (x : G) → distance k s x ≤ k.height
  distance_bounded Least x = laws.rank_bounded x
  distance_bounded Greatest x = omega arith

  -- of two grades in order the second is the same or further from the start value
  pub further : (s : Solution) (x y : G) → Better k s x y → ((x ≡ y) × (distance k s x ≤ distance k s y)) ⊎ (distance k s x < distance k s y)
  further Least x y p =
      elim (laws.rank_rises x y p) [
        | inl e ↦ inl (e, omega (arith, ap k.rank e))
        | inr h ↦ inr h
      ]
  further Greatest x y p =
      elim (laws.rank_rises y x p) [
        | inl e ↦ inl (sym e, omega (arith, ap k.rank e))
        | inr h ↦ inr (omega (arith, laws.rank_bounded x, laws.rank_bounded y))
      ]
