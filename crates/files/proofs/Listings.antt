-- Listings, as far as they are written.
use Rattle.std.proofs.Common.{◌≡◌, ℕ, ◌+◌, ◌*◌, ◌^◌, ◌<◌, ◌≤◌, List, [], ◌∷◌, ◌++◌, length, refl, sym, ap, subst, ◌∙◌, append-nil, arith, rules}
use Rattle.std.proofs.lemmas.List.{length-append, flat_map_more}
use Rattle.std.specs.List.{flat_map}
use borrow.Rule.Slice.PartMut.{put_mid, mid_of}
use Rattle.files.proofs.Columns.{length_line}
use Rattle.files.proofs.Selecting.{none_below, one_passed, one_more}
use Rattle.files.proofs.Written.{part_written}
use Rattle.files.specs.Listings.{ListsBelow, Writes}
use Rattle.files.specs.Lines.{Column, five, ten, line_text}

-- a line with five columns and ten, as it was put
pub record LinePut (letter m n : ℕ) (before after : List ℕ) (size : ℕ) : Type 0 where
  pub is_size : size ≡ length (line_text letter (five m ∷ (ten n ∷ [])) [])
  pub short : size ≡ 17
  pub writes : Writes before after (line_text letter (five m ∷ (ten n ∷ [])) [])

pub line_put : (letter m n : ℕ) (a b : Column) (before after : List ℕ) (size : ℕ) → a ≡ five m → b ≡ ten n → m < 10 ^ 5 → n < 10 ^ 10
    → size ≡ length (line_text letter (a ∷ (b ∷ [])) []) → Writes before after (line_text letter (a ∷ (b ∷ [])) []) → LinePut letter m n before after size
line_put letter m n a b before after size is_a is_b small-m small-n is_size writes = record {
  is_size = long;
  short = long ∙ length_line letter (five m ∷ (ten n ∷ [])) (search rules);
  writes = subst (Writes before after) same writes;
}
  where
    same : line_text letter (a ∷ (b ∷ [])) [] ≡ line_text letter (five m ∷ (ten n ∷ [])) []
    same = ap (λ x. line_text letter (x ∷ (b ∷ [])) []) is_a ∙ ap (λ x. line_text letter (five m ∷ (x ∷ [])) []) is_b

    long : size ≡ length (line_text letter (five m ∷ (ten n ∷ [])) [])
    long = is_size ∙ ap length same

-- what is written of a listing below a place of a row: the first line, and one for each number for which P holds
pub record WrittenBelow (P : ℕ → Type 0) (first : List ℕ) (line : ℕ → List ℕ) (i : ℕ) (before now : List ℕ) (at count : ℕ) : Type 0 where
  pub selected : List ℕ
  pub lists : ListsBelow i P selected
  pub counted : count ≡ length selected
  pub few : count ≤ i
  pub is_at : at ≡ length (first ++ flat_map line selected)
  pub short : at ≡ 17 + 17 * count
  pub writes : Writes before now (first ++ flat_map line selected)

module _ {P : ℕ → Type 0} {first : List ℕ} {line : ℕ → List ℕ} {before : List ℕ} where
  pub first_written : (now : List ℕ) (at : ℕ) → at ≡ length first → at ≡ 17 → Writes before now first → WrittenBelow P first line 0 before now at 0
  first_written now at is_at short writes = record {
    selected = [];
    lists = none_below;
    counted = refl;
    few = omega arith;
    is_at = rw append-nil is_at;
    short = omega arith;
    writes = subst (Writes before now) (sym (append-nil first)) writes;
  }

  module _ (i at count : ℕ) (now : List ℕ) (w : WrittenBelow P first line i before now at count) where
    pub node_passed : (P i → ⊥) → WrittenBelow P first line (i + 1) before now at count
    node_passed fails = record {
      selected = w.selected;
      lists = one_passed i w.selected w.lists fails;
      counted = w.counted;
      few = omega arith;
      is_at = w.is_at;
      short = w.short;
      writes = w.writes;
    }

    -- a piece is put behind them
    pub line_behind : (k size : ℕ) (part piece text : List ℕ) → length now ≤ at + k → size ≡ length piece → Writes (mid_of at k now) part piece
        → (first ++ flat_map line w.selected) ++ piece ≡ text → (at + size ≡ length text) × Writes before (put_mid at k now part) text
    line_behind k size part piece text rest is_size put is_text = (
      omega (arith, length-append (first ++ flat_map line w.selected) piece, ap length is_text),
      subst (Writes before (put_mid at k now part)) is_text (part_written before now (first ++ flat_map line w.selected) at w.is_at w.writes k part piece rest put),
    )

    pub node_listed : P i → (k size : ℕ) (part : List ℕ) → length now ≤ at + k → size ≡ length (line i) → size ≡ 17 → Writes (mid_of at k now) part (line i)
        → WrittenBelow P first line (i + 1) before (put_mid at k now part) (at + size) (count + 1)
    node_listed p k size part rest is_size short put =
        let behind = line_behind k size part (line i) _ rest is_size put (flat_map_more line first w.selected i) in
        record {
          selected = w.selected ++ i ∷ [];
          lists = one_more i w.selected w.lists p;
          counted = omega (arith, w.counted, length-append w.selected (i ∷ []));
          few = omega (arith, w.few);
          is_at = behind.0;
          short = omega (arith, w.short, short);
          writes = behind.1;
        }
