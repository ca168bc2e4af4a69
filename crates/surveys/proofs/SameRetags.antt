-- From states that are the same, a retag leads to states that are the same.
use Rattle.std.proofs.Common.{◌≡◌, ℕ, ◌<◌, Some, None, Option, sym, refl, ◌∙◌, subst₂}
use Rattle.surveys.specs.Promise.{SameState}
use Rattle.surveys.specs.Rules.{Opening, State, EntryOf, Retags}
use Rattle.surveys.proofs.Decisions.{place?}
use Rattle.surveys.proofs.Reaching.{reaches?}
use Rattle.surveys.proofs.Readings.{Accepted}

module _ {G : Type 0} (o : Opening G) (f : Accepted o) (s t s' t' : State G) (same : SameState o s t) (tag node : ℕ) (grade : G) (r : Retags o tag node grade s s') (r' : Retags o tag node grade t t') where
  same_marks : (a x : ℕ) → a < o.query.tags → x < o.tree.count → s'.marks a x ≡ t'.marks a x
  same_marks a x h n = elim (place? a x tag node) [
    | yes p ↦ subst₂ (λ a x. s'.marks a x ≡ t'.marks a x) (sym p.0) (sym p.1) (r.sets ∙ sym r'.sets)
    | no other ↦ r.other_marks a x h n other ∙ same.marks a x h n ∙ sym (r'.other_marks a x h n other)
  ]

  same_settled : (b : ℕ) → s'.settled b ≡ t'.settled b
  same_settled b = elim (reaches? o.query f.admitted tag b) [
    | yes reached ↦ r.reached_stale b reached ∙ sym (r'.reached_stale b reached)
    | no not ↦ r.unreached_settled b not ∙ same.settled b ∙ sym (r'.unreached_settled b not)
  ]

  same_values : (b i x : ℕ) → EntryOf o b i x → s'.values i x ≡ t'.values i x
  same_values b i x e = elim (reaches? o.query f.admitted tag b) [
    | yes reached ↦ r.reached_start b reached i x e ∙ sym (r'.reached_start b reached i x e)
    | no not ↦ r.unreached_values b not i x e ∙ same.values b i x e ∙ sym (r'.unreached_values b not i x e)
  ]

  same_current : (s'.current ≡ t'.current) × (s'.queue ≡ t'.queue)
  same_current = go s.current refl
    where
      go : (w : Option ℕ) → s.current ≡ w → (s'.current ≡ t'.current) × (s'.queue ≡ t'.queue)
      go None e =
          let one = r.none_current e in
          let two = r'.none_current (sym same.current ∙ e) in
          (one.0 ∙ sym two.0, one.1 ∙ same.queue ∙ sym two.1)
      go (Some b) e = elim (reaches? o.query f.admitted tag b) [
        | yes reached ↦
            let one = r.reached_current b reached e in
            let two = r'.reached_current b reached (sym same.current ∙ e) in
            (one.0 ∙ sym two.0, one.1 ∙ sym two.1)
        | no not ↦
            let one = r.unreached_current b not e in
            let two = r'.unreached_current b not (sym same.current ∙ e) in
            (one.0 ∙ sym two.0, one.1 ∙ same.queue ∙ sym two.1)
      ]

  pub retags_same : SameState o s' t'
  retags_same = record { marks = same_marks; values = same_values; settled = same_settled; current = same_current.0; queue = same_current.1 }
