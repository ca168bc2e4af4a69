-- Depths and capped depths keep the rule of depths at the same nodes, up to the first fault; lawful depths are small, so that 16 bits hold them.
use Rattle.std.proofs.Common.{◌≡◌, ℕ, ◌-◌, ◌<◌, ◌≤◌, List, length, map, refl, arith}
use Rattle.std.proofs.lemmas.Grind.{same_number_lists}
use Rattle.std.proofs.lemmas.List.{length-map, get_or-map}
use Rattle.shapes.specs.Depths.{KeepsRule, LawfulDepths, depth_at}
use Rattle.shapes.proofs.DepthSteps.{depth_bound}
use Rattle.files.specs.Reading.{capped}

module _ (ds : List ℕ) (few : length ds ≤ 2048) where
  abbrev cs : List ℕ
  cs = map capped ds

  at : (x : ℕ) → x < length ds → depth_at cs x ≡ capped (depth_at ds x)
  at x here = get_or-map capped ds x 0 0 here

  -- a node that keeps the rule, and all before it, is not deep enough to be capped
  same : (x : ℕ) → x < length ds → ((y : ℕ) → y ≤ x → KeepsRule cs y) → depth_at cs x ≡ depth_at ds x
  same x here keep = omega (arith, at x here, depth_bound cs x keep)

  pub keeps_there : (x : ℕ) → x < length ds → ((y : ℕ) → y ≤ x → KeepsRule cs y) → KeepsRule ds x
  keeps_there x here keep =
      let k = keep x (omega arith) in
      let e = same x here keep in
      record {
        root = λ z. omega (arith, k.root z);
        other = λ p. omega (arith, k.other p);
        rises = λ p. omega (arith, k.rises p, same (x - 1) (omega arith) (λ y le. keep y (omega arith)));
      }

  pub keeps_here : (x : ℕ) → x < length ds → ((y : ℕ) → y < x → KeepsRule cs y) → KeepsRule ds x → KeepsRule cs x
  keeps_here x here keep k =
      let e = at x here in
      record {
        root = λ z. omega (arith, k.root z);
        other = λ p. omega (arith, k.other p);
        rises = λ p. omega (arith, k.rises p, same (x - 1) (omega arith) (λ y le. keep y (omega arith)));
      }

  pub capped_same : LawfulDepths ds → cs ≡ ds
  capped_same lawful = same_number_lists cs ds (rw length-map refl) small
    where
      small : (x : ℕ) → x < length cs → depth_at cs x ≡ depth_at ds x
      small x l = let here : x < length ds = rw length-map at l in omega (arith, at x here, depth_bound ds x (λ y le. lawful y (omega arith)))
