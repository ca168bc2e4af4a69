-- Fields: how long they are, what they show, and that two with more behind them are the same only if all is.
use Rattle.std.proofs.Common.{◌≡◌, ℕ, zero, suc, ◌-◌, ◌^◌, ◌<◌, ◌≤◌, List, ◌++◌, length, take, drop, replicate, decimal, refl, sym, ap, ◌∙◌, arith}
use Rattle.std.proofs.lemmas.List.{length-append, length-replicate, take_at, drop_at}
use Rattle.std.proofs.lemmas.Fmt.{length-decimal-le, decimal_injective}
use Rattle.fields.specs.Fields.{field, Shows}
use Rattle.fields.proofs.Blanks.{no_blank, same_behind, below_10_digits}

-- a field is as long as it is wide
pub length_field : (w n : ℕ) → 0 < w → n < 10 ^ w → w ≤ 10 → length (field w n) ≡ w
length_field w n some room narrow =
    length-append (replicate (w - length (decimal n)) 32) (decimal n)
    ∙ rw length-replicate (omega (arith, length-decimal-le w n some room (below_10_digits n w narrow room)))

-- lists of one length before others tell where they end
pub same_parts : (fs gs xs ys : List ℕ) → length fs ≡ length gs → fs ++ xs ≡ gs ++ ys → (fs ≡ gs) × (xs ≡ ys)
same_parts fs gs xs ys long e = (
  sym (take_at fs xs (length gs) long) ∙ ap (take (length gs)) e ∙ take_at gs ys (length gs) refl,
  sym (drop_at fs xs (length gs) long) ∙ ap (drop (length gs)) e ∙ drop_at gs ys (length gs) refl,
)

-- fields of one width are as long as each other, also with no column
same_length : (w m n : ℕ) → w ≤ 10 → m < 10 ^ w → n < 10 ^ w → length (field w m) ≡ length (field w n)
same_length zero m n narrow p q = let e : m ≡ n = omega arith in ap (λ k. length (field 0 k)) e
same_length (suc w) m n narrow p q = length_field (suc w) m (omega arith) p narrow ∙ sym (length_field (suc w) n (omega arith) q narrow)

-- a field shows its number
pub field_shows : (w n : ℕ) → 0 < w → n < 10 ^ w → w ≤ 10 → Shows (field w n) n
field_shows w n some room narrow = record { narrow = rw wide narrow; room = rw wide room; written = rw wide refl }
  where
    wide : length (field w n) ≡ w
    wide = length_field w n some room narrow

-- a field tells its number
pub field_tells : (w m n : ℕ) → w ≤ 10 → m < 10 ^ w → n < 10 ^ w → field w m ≡ field w n → m ≡ n
field_tells w m n narrow p q e = decimal_injective m n small-m small-n (same_behind (w - length (decimal m)) (w - length (decimal n)) (decimal m) (decimal n) (no_blank m small-m) (no_blank n small-n) e)
  where
    small-m : m < 2 ^ 64
    small-m = below_10_digits m w narrow p

    small-n : n < 2 ^ 64
    small-n = below_10_digits n w narrow q

-- a field before more tells its number, and where it ends
pub field_apart : (w m n : ℕ) (xs ys : List ℕ) → w ≤ 10 → m < 10 ^ w → n < 10 ^ w → field w m ++ xs ≡ field w n ++ ys → (m ≡ n) × (xs ≡ ys)
field_apart w m n xs ys narrow p q e =
    let parts = same_parts (field w m) (field w n) xs ys (same_length w m n narrow p q) e in
    (field_tells w m n narrow p q parts.0, parts.1)
