-- Blocks set back to their start values, one after the other, in a table over n nodes.
use Rattle.std.proofs.Common.{◌≡◌, ℕ, ◌+◌, ◌-◌, ◌*◌, ◌<◌, ◌≤◌, min, Bool, true, false, cond, eqb, ◌⊎◌, List, length, get_or, set, sym, refl, ap, ◌∙◌, subst, subst₂, inl, inr, ⊎_elim, arith}
use Rattle.std.proofs.lemmas.List.{length-set, get_or-set_same, get_or-set_other, set_past, get_or_past}
use Rattle.std.proofs.lemmas.Bool.{cases_lt, cases_eq, eq-eqb, ne_eqb, cond-true, cond-false}
use Rattle.grades.specs.Kind.{Kind}
use Rattle.queries.specs.declared.block.Span.{Span}
use Rattle.queries.specs.Queries.{Spans}
use Rattle.queries.specs.Table.{Table, Admitted, Reaches, block_of, solution_at}
use Rattle.queries.proofs.Deals.{before, before_more, before_le, in_block}
use Rattle.meaning.specs.Rounds.{start}
use Rattle.meaning.specs.Tables.{place}
use Rattle.surveys.proofs.Placed.{Placed, placed, place_apart, place_past, place_inside}
use Rattle.queues.specs.Within.{Within}
use Rattle.surveys.specs.Resets.{Resets, Unsettles}

-- a block's span ends after it starts, and within the terms
pub record Spanned (q : Table) (s : Span) : Type 0 where
  pub starts : s.first ≤ s.end
  pub ends : s.end ≤ length q.terms

pub spanned : (q : Table) → Admitted q → (b : ℕ) (s : Span) → Spans q b s → Spanned q s
spanned q admitted b s spans =
    let first : ℕ = before q.blocks b in
    let some = admitted.sized.no_empty_block b spans.stands in
    let there : first < length q.terms = omega (arith, some, admitted.sized.all_dealt, before_more q.blocks b spans.stands, before_le q.blocks (b + 1)) in
    let in_span = spans.all first there (in_block q.blocks b first spans.stands (omega arith) (omega (arith, some))) in
    record { starts = omega (arith, in_span.0, in_span.1); ends = omega (arith, (spans.inside (s.end - 1) (omega (arith, in_span.0, in_span.1)) (omega (arith, in_span.1))).0) }

module _ {G : Type 0} (k : Kind G) (q : Table) (n : ℕ) where
  -- one block
  pub resets_block : (b : ℕ) (s : Span) → Spans q b s → (before after : List G) → length after ≡ length before → ((p : ℕ) (d : G) → s.first * n ≤ p → p < s.end * n → get_or after p d ≡ start k (solution_at q b)) → ((p : ℕ) (d : G) → (p < s.first * n) ⊎ (s.end * n ≤ p) → get_or after p d ≡ get_or before p d) → Resets k q n (λ c. c ≡ b) before after
  resets_block b s spans before after len inner outer = record {
    same_length = len;
    inside = λ i x hi hx e. let in_span = spans.all i hi e in
        inner (place n i x) k.lowest (place_past n s.first i x in_span.0) (place_inside n s.end i x in_span.1 hx) ∙ ap (λ c. start k (solution_at q c)) (sym e);
    others = λ p d not. ⊎_elim (λ l. outer p d (inl l)) (λ l. ⊎_elim (λ h. absurd (at_place p not (placed n s.first s.end p l h))) (λ h. outer p d (inr h)) (cases_lt p (s.end * n))) (cases_lt p (s.first * n));
  }
    where
      at_place : (p : ℕ) → ((i x : ℕ) → i < length q.terms → x < n → block_of q i ≡ b → place n i x ≡ p → ⊥) → Placed n s.first s.end p → ⊥
      at_place p not f = let in_block = spans.inside f.row f.above f.below in not f.row f.node in_block.0 f.there in_block.1 f.is

  -- no block at all
  pub resets_none : (P : ℕ → Type 0) → ((i : ℕ) → i < length q.terms → P (block_of q i) → ⊥) → (table : List G) → Resets k q n P table table
  resets_none P never table = record { same_length = refl; inside = λ i x hi hx h. absurd (never i hi h); others = λ p d not. refl }

  -- one block more
  pub resets_more : (P P' : ℕ → Type 0) (b : ℕ) → ((c : ℕ) → P c → P' c) → ((c : ℕ) → P' c → P c ⊎ (c ≡ b)) → P' b → (xs ys zs : List G) → Resets k q n P xs ys → Resets k q n (λ c. c ≡ b) ys zs → Resets k q n P' xs zs
  resets_more P P' b more less here xs ys zs r s = record {
    same_length = s.same_length ∙ r.same_length;
    inside = λ i x hi hx h. ⊎_elim (s.inside i x hi hx) (λ ne. s.others (place n i x) k.lowest (elsewhere i x hx ne) ∙ r.inside i x hi hx (⊎_elim (λ p. p) (λ e. absurd (ne e)) (less (block_of q i) h))) (cases_eq (block_of q i) b);
    others = λ p d not. s.others p d (λ i x hi hx e. not i x hi hx (at_block (block_of q i) e)) ∙ r.others p d (λ i x hi hx h. not i x hi hx (more (block_of q i) h));
  }
    where
      elsewhere : (i x : ℕ) → x < n → (block_of q i ≡ b → ⊥) → (j y : ℕ) → j < length q.terms → y < n → block_of q j ≡ b → place n j y ≡ place n i x → ⊥
      elsewhere i x hx ne j y hj hy e same = ne (ap (block_of q) (sym (place_apart n j i y x hy hx same).0) ∙ e)

      at_block : (c : ℕ) → c ≡ b → P' c
      at_block c e = rw e here

  -- the same blocks, said otherwise
  pub resets_like : (P P' : ℕ → Type 0) → ((c : ℕ) → P c → P' c) → ((c : ℕ) → P' c → P c) → (xs ys : List G) → Resets k q n P xs ys → Resets k q n P' xs ys
  resets_like P P' to from xs ys r = record {
    same_length = r.same_length;
    inside = λ i x hi hx h. r.inside i x hi hx (from (block_of q i) h);
    others = λ p d not. r.others p d (λ i x hi hx h. not i x hi hx (to (block_of q i) h));
  }

  -- a reset stays within the entries
  pub resets_within : (P : ℕ → Type 0) (xs ys : List G) → Resets k q n P xs ys → Within (length q.terms * n) xs ys
  resets_within P xs ys r = record {
    same_length = r.same_length;
    beyond = λ p d h. r.others p d (λ i x hi hx _ e. omega (arith, place_inside n (length q.terms) i x hi hx));
  }

-- the blocks below m of which a test said yes are at their start; post tells what it may say of each
pub record ResetWhere {G : Type 0} (k : Kind G) (q : Table) (n : ℕ) (post : ℕ → Bool → Type 0) (m : ℕ) (before after : List G) : Type 0 where
  pub said : ℕ → Bool
  pub each : (b : ℕ) → b < m → post b (said b)
  pub resets : Resets k q n (λ b. (b < m) × (said b ≡ true)) before after

-- what it said, with the answer of block m
abbrev with_next : (ℕ → Bool) → ℕ → Bool → ℕ → Bool
with_next said m here b = cond (eqb b m) here (said b)

said_here : (said : ℕ → Bool) (m : ℕ) (here : Bool) (b : ℕ) → b ≡ m → with_next said m here b ≡ here
said_here said m here b e = cond-true (eqb b m) here (said b) (eq-eqb b m e)

said_before : (said : ℕ → Bool) (m : ℕ) (here : Bool) (b : ℕ) → b < m → with_next said m here b ≡ said b
said_before said m here b h = cond-false (eqb b m) here (said b) (ne_eqb b m (λ e. omega arith))

module _ {G : Type 0} (k : Kind G) (q : Table) (n : ℕ) (post : ℕ → Bool → Type 0) where
  pub where_none : (table : List G) → ResetWhere k q n post 0 table table
  where_none table = record { said = λ b. false; each = λ b h. absurd (omega arith); resets = resets_none k q n (λ b. (b < 0) × (false ≡ true)) (λ i h l. omega (arith, l.0)) table }

  each_next : (m : ℕ) (said : ℕ → Bool) (here : Bool) → ((b : ℕ) → b < m → post b (said b)) → post m here → (b : ℕ) → b < m + 1 → post b (with_next said m here b)
  each_next m said here each p b h =
      ⊎_elim (λ e. subst₂ post (sym e) (sym (said_here said m here b e)) p)
      (λ ne. let below : b < m = omega arith in subst (post b) (sym (said_before said m here b below)) (each b below))
      (cases_eq b m)

  pub where_yes : (m : ℕ) (xs ys zs : List G) → ResetWhere k q n post m xs ys → Resets k q n (λ c. c ≡ m) ys zs → post m true → ResetWhere k q n post (m + 1) xs zs
  where_yes m xs ys zs r s p = record {
    said = with_next r.said m true;
    each = each_next m r.said true r.each p;
    resets = resets_more k q n (λ b. (b < m) × (r.said b ≡ true)) (λ b. (b < m + 1) × (with_next r.said m true b ≡ true)) m
        (λ b h. (omega (arith, h.0), said_before r.said m true b h.0 ∙ h.1)) or_here (omega arith, said_here r.said m true m refl) xs ys zs r.resets s;
  }
    where
      or_here : (b : ℕ) → (b < m + 1) × (with_next r.said m true b ≡ true) → ((b < m) × (r.said b ≡ true)) ⊎ (b ≡ m)
      or_here b h = ⊎_elim (λ e. inr e) (λ ne. let below : b < m = omega (arith, h.0) in inl (below, sym (said_before r.said m true b below) ∙ h.1)) (cases_eq b m)

  pub where_no : (m : ℕ) (xs ys : List G) → ResetWhere k q n post m xs ys → post m false → ResetWhere k q n post (m + 1) xs ys
  where_no m xs ys r p = record {
    said = with_next r.said m false;
    each = each_next m r.said false r.each p;
    resets = resets_like k q n (λ b. (b < m) × (r.said b ≡ true)) (λ b. (b < m + 1) × (with_next r.said m false b ≡ true))
        (λ b h. (omega (arith, h.0), said_before r.said m false b h.0 ∙ h.1)) not_here xs ys r.resets;
  }
    where
      not_here : (b : ℕ) → (b < m + 1) × (with_next r.said m false b ≡ true) → (b < m) × (r.said b ≡ true)
      not_here b h = ⊎_elim (λ e. absurd (let no = sym (said_here r.said m false b e) ∙ h.1 in cc)) (λ ne. let below : b < m = omega (arith, h.0) in (below, sym (said_before r.said m false b below) ∙ h.1)) (cases_eq b m)

-- blocks made stale, one after the other
module _ (q : Table) (tag : ℕ) where
  pub unsettles_none : (flags : List Bool) → Unsettles q tag 0 flags flags
  unsettles_none flags = record { same_length = refl; reached = λ b h. absurd (omega arith); unreached = λ b not. refl; beyond = λ b h. refl }

  pub unsettles_here : (n : ℕ) (xs ys : List Bool) → Reaches q tag n → Unsettles q tag n xs ys → Unsettles q tag (n + 1) xs (set ys n false)
  unsettles_here n xs ys here l = record {
    same_length = length-set ys n false ∙ l.same_length;
    reached = λ b h r. ⊎_elim (λ e. rw e (set_false ys n)) (λ ne. get_or-set_other ys n b false false ne ∙ l.reached b (omega arith) r) (cases_eq b n);
    unreached = λ b not. get_or-set_other ys n b false false (λ e. not (rw e here)) ∙ l.unreached b not;
    beyond = λ b h. get_or-set_other ys n b false false (λ e. omega arith) ∙ l.beyond b (omega arith);
  }
    where
      set_false : (zs : List Bool) (i : ℕ) → get_or (set zs i false) i false ≡ false
      set_false zs i = ⊎_elim (λ h. get_or-set_same zs i false false h) (λ h. ap (λ l. get_or l i false) (set_past zs i false h) ∙ get_or_past zs i false h) (cases_lt i (length zs))

  pub unsettles_not : (n : ℕ) (xs ys : List Bool) → (Reaches q tag n → ⊥) → Unsettles q tag n xs ys → Unsettles q tag (n + 1) xs ys
  unsettles_not n xs ys not l = record {
    same_length = l.same_length;
    reached = λ b h r. ⊎_elim (λ e. absurd (not (subst (Reaches q tag) e r))) (λ ne. l.reached b (omega arith) r) (cases_eq b n);
    unreached = l.unreached;
    beyond = λ b h. l.beyond b (omega arith);
  }

  -- there are no flags past the last
  pub unsettles_all : (m n : ℕ) (xs ys : List Bool) → min n (length xs) ≤ m → m ≤ n → Unsettles q tag m xs ys → Unsettles q tag n xs ys
  unsettles_all m n xs ys h k l = record {
    same_length = l.same_length;
    reached = λ b there r. ⊎_elim (λ low. l.reached b low r) (λ past. get_or_past ys b false (omega (arith, l.same_length))) (cases_lt b m);
    unreached = l.unreached;
    beyond = λ b there. l.beyond b (omega arith);
  }
