-- Places of a table over n nodes.
use Rattle.std.proofs.Common.{◌≡◌, ℕ, zero, suc, ◌*◌, ◌/◌, ◌%◌, ◌<◌, ◌≤◌, sym, ap, ◌∙◌, mul-le-mul_right, suc-mul, mul-zero, arith}
use Rattle.std.proofs.lemmas.Nat.{div-mul-add, mod-mul-add, div-add-mod', le-div, div_below, mod_below}
use Rattle.meaning.specs.Tables.{place}

-- a place tells its row and its node
pub place_apart : (n i j x y : ℕ) → x < n → y < n → place n i x ≡ place n j y → (i ≡ j) × (x ≡ y)
place_apart n i j x y hx hy e = (sym (div-mul-add i n x hx) ∙ (ap (λ p. p / n) e ∙ div-mul-add j n y hy), sym (mod-mul-add i n x hx) ∙ (ap (λ p. p % n) e ∙ mod-mul-add j n y hy))

-- the places of the rows from one up to another
pub place_past : (n low i x : ℕ) → low ≤ i → low * n ≤ place n i x
place_past n low i x h = omega (arith, mul-le-mul_right n h)

pub place_inside : (n high i x : ℕ) → i < high → x < n → place n i x < high * n
place_inside n high i x h hx = omega (arith, suc-mul i n, mul-le-mul_right n h)

-- each of these places is that of a row among them, at a node
pub record Placed (n low high p : ℕ) : Type 0 where
  pub row : ℕ
  pub node : ℕ
  pub above : low ≤ row
  pub below : row < high
  pub there : node < n
  pub is : place n row node ≡ p

some_node : (n high p : ℕ) → p < high * n → 0 < n
some_node zero high p h = absurd (omega (arith, mul-zero high))
some_node (suc n) high p h = omega arith

pub placed : (n low high p : ℕ) → low * n ≤ p → p < high * n → Placed n low high p
placed n low high p l h =
    let some = some_node n high p h in
    record { row = p / n; node = p % n; above = le-div low p n some l; below = div_below p n high some h; there = mod_below p n some; is = div-add-mod' p n }
