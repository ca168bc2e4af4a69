use Rattle.std.proofs.Common.{◌≡◌, ℕ, ◌<◌, List, length, get_or, set, sym, ◌∙◌}
use Rattle.std.proofs.lemmas.List.{set-get_or, get_or_read}
use Rattle.surveys.proofs.survey.writing.put.Goals as goal

-- what stands at a place already, written there once more
already : {A : Type 0} (xs : List A) (i : ℕ) (x a d : A) → i < length xs → x ≡ get_or xs i x → x ≡ a → get_or xs i d ≡ a
already xs i x a d h is e = sym (get_or_read xs i x h is d) ∙ e

once_more : {A : Type 0} (xs : List A) (i : ℕ) (a d : A) → get_or xs i d ≡ a → xs ≡ set xs i a
once_more xs i a d e = sym (rw (sym e) (set-get_or xs i d))

pub returns-then-same : goal.returns-then-same
returns-then-same g c =
    let lowest = g.G.Grade.kind.lowest in
    let same = already c.args.table.now c.args.place c.index-table-place.result c.args.grade lowest c.requires c.index-table-place.is (c.if-same.ensures.0 tt) in
    record { says = same; after = once_more c.args.table.now c.args.place c.args.grade lowest same }
