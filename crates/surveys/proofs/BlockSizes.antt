-- How many entries a block has: its terms are dealt from one range, so that a rising list of its entries is short.
use Rattle.std.proofs.Common.{◌≡◌, ℕ, zero, suc, ◌+◌, ◌-◌, ◌*◌, ◌<◌, ◌≤◌, Bool, true, false, cond, ltb, List, [], ◌∷◌, length, get_or, refl, ap, subst, inl, inr, mul-le-mul_right, suc-mul, add-mul, arith}
use Rattle.std.proofs.lemmas.Bool.{ltb-true, ltb-false}
use Rattle.shapes.specs.Tree.{Tree}
use Rattle.queries.specs.declared.block.Block.{Block}
use Rattle.queries.specs.Table.{Table, Admitted, blocks_terms, no_block, dealt, total}
use Rattle.meaning.specs.Solutions.{Entry}
use Rattle.surveys.specs.Places.{Place, In, Before, Rising, Lists}
use Rattle.surveys.specs.Places.In.{first, later}
use Rattle.surveys.specs.Places.Rising.{none, one_more}

-- the number of terms in the blocks before block b
abbrev pub terms_before : List Block → ℕ → ℕ
terms_before [] b = 0
terms_before (c ∷ bs) zero = 0
terms_before (c ∷ bs) (suc b) = c.terms + terms_before bs b

-- term i is among the terms of block b, by where these stand
abbrev Within : List Block → ℕ → ℕ → Type 0
Within bs b i = (terms_before bs b ≤ i) × (i < terms_before bs b + (get_or bs b no_block).terms)

dealt_within : (bs : List Block) (i : ℕ) → i < total bs → Within bs (dealt bs i) i
dealt_within [] i l = absurd (omega arith)
dealt_within (c ∷ bs) i l = by_test (ltb i c.terms) (ltb-true i c.terms) (λ e. let past : c.terms ≤ i = ltb-false i c.terms e in (past, dealt_within bs (i - c.terms) (omega arith)))
  where
    by_test : (t : Bool) → (t ≡ true → i < c.terms) → (t ≡ false → (c.terms ≤ i) × Within bs (dealt bs (i - c.terms)) (i - c.terms)) → Within (c ∷ bs) (cond t 0 (suc (dealt bs (i - c.terms)))) i
    by_test true here there = (omega arith, omega (arith, here refl))
    by_test false here there = let past = (there refl).0 in let r = (there refl).1 in (omega arith, omega arith)

-- a place as a number, among n nodes
abbrev code : ℕ → Place → ℕ
code n p = p.0 * n + p.1

code_rises : (n : ℕ) (p r : Place) → p.1 < n → Before p r → code n p < code n r
code_rises n p r l (inl h) = omega (arith, suc-mul p.0 n, mul-le-mul_right n h)
code_rises n p r l (inr h) = omega (arith, ap (λ i. i * n) h.0)

rising_short : (n high low : ℕ) (ps : List Place) → Rising ps → ((p : Place) → In p ps → (p.1 < n) × ((low ≤ code n p) × (code n p < high))) → low ≤ high → length ps + low ≤ high
rising_short n high low _ none h l = omega arith
rising_short n high low _ (one_more p ps before r) h l =
    let here = h p (first ps) in
    let rest : length ps + suc (code n p) ≤ high =
    rising_short n high (suc (code n p)) ps r (λ s i. ((h s (later p ps i)).0, (code_rises n p s here.0 (before s i), (h s (later p ps i)).1.1))) here.1.1 in
    omega (arith, here.1.0)

pub few_entries : {q : Table} (t : Tree) → Admitted q → (b : ℕ) (ps : List Place) → Lists (λ p. Entry q t b p.0 p.1) ps → length ps ≤ blocks_terms q b * t.count
few_entries {q} t admitted b ps lists =
    let n : ℕ = t.count in
    let low : ℕ = terms_before q.blocks b in
    let within : (p : Place) → In p ps → (p.1 < n) × ((low * n ≤ code n p) × (code n p < (low + blocks_terms q b) * n)) = λ p i.
    let e = lists.sound p i in
    let r : Within q.blocks b p.0 = subst (λ c. Within q.blocks c p.0) e.dealt_here (dealt_within q.blocks p.0 (omega (arith, e.term, admitted.sized.all_dealt))) in
    (e.node, (omega (arith, mul-le-mul_right n r.0), omega (arith, e.node, suc-mul p.0 n, mul-le-mul_right n r.1))) in
    omega (arith, rising_short n ((low + blocks_terms q b) * n) (low * n) ps lists.rising within (mul-le-mul_right n (omega arith)), add-mul low (blocks_terms q b) n)
