-- Texts written into an output, one behind another.
use Rattle.std.proofs.Common.{◌≡◌, ℕ, suc, ◌+◌, ◌<◌, ◌≤◌, List, [], ◌∷◌, ◌++◌, length, set, take, drop, refl, sym, ap, append_assoc, ◌∙◌, arith}
use Rattle.std.proofs.lemmas.List.{length-append, length-drop, append-nil, take_all, drop_all, take_at, drop_at, drop-drop, set_split}
use borrow.Rule.Slice.PartMut.{put_mid, mid_of}
use Rattle.files.specs.Listings.{Writes}

module _ (before now text : List ℕ) (at : ℕ) (is_at : at ≡ length text) (writes : Writes before now text) where
  behind : drop at now ≡ drop at before
  behind = ap (drop at) writes ∙ drop_at text (drop (length text) before) at (sym is_at) ∙ ap (λ k. drop k before) (sym is_at)

  -- a piece written behind a text
  pub piece_written : (k : ℕ) (piece : List ℕ) → k ≡ length piece → Writes before (put_mid at k now piece) (text ++ piece)
  piece_written k piece long =
      ap (λ xs. xs ++ (piece ++ drop k (drop at now))) (ap (take at) writes ∙ take_at text (drop (length text) before) at (sym is_at))
      ∙ ap (λ xs. text ++ (piece ++ xs)) (ap (drop k) behind ∙ drop-drop k at before ∙ ap (λ j. drop j before) ends)
      ∙ sym (append_assoc text piece (drop (length (text ++ piece)) before))
    where
      ends : at + k ≡ length (text ++ piece)
      ends = omega (arith, length-append text piece)

  -- .. and the front of the part that the output has behind the text
  pub part_written : (k : ℕ) (part piece : List ℕ) → length now ≤ at + k → Writes (mid_of at k now) part piece → Writes before (put_mid at k now part) (text ++ piece)
  part_written k part piece rest put =
      ap (λ xs. take at now ++ (part ++ xs)) (drop_all k (drop at now) short) ∙ ap (λ xs. take at now ++ xs) (append-nil part ∙ put)
      ∙ ap (λ xs. take at now ++ (piece ++ drop (length piece) xs)) (take_all k (drop at now) short) ∙ piece_written (length piece) piece refl
    where
      short : length (drop at now) ≤ k
      short = omega (arith, length-drop at now)

  -- .. and a byte
  pub byte_written : (b : ℕ) → at < length now → Writes before (set now at b) (text ++ b ∷ [])
  byte_written b within = set_split now at b within ∙ ap (λ xs. take at now ++ b ∷ xs) next ∙ piece_written 1 (b ∷ []) refl
    where
      next : drop (suc at) now ≡ drop 1 (drop at now)
      next = let e : suc at ≡ at + 1 = omega arith in ap (λ k. drop k now) e ∙ sym (drop-drop 1 at now)
