use Rattle.std.specs.Prelude.{◌≡◌, ℕ, ◌+◌, ◌<◌, Bool, true, false, Decides, length}
use Rattle.std.specs.Bool.{MatchBool}
use Rattle.std.specs.List.{AllWithin, HoldsAt, range_with_len}
use Rattle.std.proofs.Common.{sym, refl, subst, ◌∙◌, arith, rules}
use Rattle.std.proofs.lemmas.Iterator.{cases_from_all, YieldsList-from_range}
use Rattle.std.proofs.lemmas.List.FromFn.{get_or-range_with_len, length-range_with_len}
use Rattle.shapes.specs.Certified.{certified_at}
use Rattle.shapes.proofs.certified.Leveled.all_certified.Goals as goal

-- what `all` tells of the numbers below n
range_decides : (n : ℕ) (r : Bool) (test : ℕ → Bool) → MatchBool r (AllWithin (λ x. test x ≡ true) (range_with_len 0 n) 0 (length (range_with_len 0 n))) ((k : ℕ) × (k < length (range_with_len 0 n)) × HoldsAt (λ x. test x ≡ false) (range_with_len 0 n) k) → Decides r ((x : ℕ) → x < n → test x ≡ true)
range_decides n true test h = (
  (λ _ x lt. let e : 0 + x ≡ x = omega arith in subst (λ y. test y ≡ true) (get_or-range_with_len 0 n x 0 lt ∙ e) (h x 0 (omega arith) (omega (arith, length-range_with_len 0 n)))),
  (λ _. refl),
)
range_decides n false test h = (
  (λ e. cc),
  (λ all.
      let lt : h.0 < n = omega (arith, h.1, length-range_with_len 0 n) in
      let e : 0 + h.0 ≡ h.0 = omega arith in
      let no' : test h.0 ≡ false = subst (λ y. test y ≡ false) (get_or-range_with_len 0 n h.0 0 lt ∙ e) (h.2 0) in sym no' ∙ all h.0 lt),
)

pub returns : goal.returns
returns c =
    let test : ℕ → Bool = certified_at c.args.self.now.rows.now c.args.self.now.levels.now in
    range_decides (length c.args.self.now.rows.now) c.all.result test
    (cases_from_all _ _ _ (λ x. test x ≡ true) (λ x. test x ≡ false) c.all.ensures.ran (YieldsList-from_range 0 _ (length c.args.self.now.rows.now) refl (omega arith)) (λ x q k. search rules) (λ x q k. search rules))
