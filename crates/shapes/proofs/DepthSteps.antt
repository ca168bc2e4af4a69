-- The steps of the loop that lays out the nodes of a depth list.
use Rattle.std.specs.Prelude.{◌≡◌, ℕ, zero, suc, ◌+◌, ◌-◌, ◌<◌, ◌≤◌, ◌⊎◌, List, [], ◌∷◌, ◌++◌, length, get_or, Some, None, Option, ◌≢◌, slice_index, slice_set, refl}
use Rattle.std.proofs.Common.{sym, ap, subst, ◌∙◌, inl, inr, arith}
use Rattle.std.proofs.lemmas.List.{get_or_default, get_or-set_same, get_or-set_other, get_or_append_left, get_or_push, length-set, length_push}
use Rattle.std.proofs.lemmas.Option.{none-some}
use Rattle.std.proofs.lemmas.Bool.{cases_eq, cases_lt}
use Rattle.shapes.specs.declared.depth.node.DepthNode.{DepthNode}
use Rattle.shapes.specs.Tree.{Iff}
use Rattle.shapes.specs.Depths.{depth_at, KeepsRule, LawfulDepths, NextSibling}
use Rattle.shapes.specs.DepthTables.{Latest, AllLatest, no_node, node_at}

-- a node has one next sibling and one previous one at most
pub next_once : (ds : List ℕ) (x y z : ℕ) → NextSibling ds x y → NextSibling ds x z → z ≤ y
next_once ds x y z s t =
    elim (cases_lt y z) [
      | inl h ↦ absurd (omega (arith, s.level, t.between y s.later h))
      | inr h ↦ h
    ]

pub previous_once : (ds : List ℕ) (x w y : ℕ) → NextSibling ds x y → NextSibling ds w y → w ≤ x
previous_once ds x w y s t =
    elim (cases_lt x w) [
      | inl h ↦ absurd (omega (arith, s.level, t.level, s.between w h t.later))
      | inr h ↦ h
    ]

-- a node is at most as deep as its number, where it keeps the rule and all before it do
pub depth_bound : (ds : List ℕ) (x : ℕ) → ((y : ℕ) → y ≤ x → KeepsRule ds y) → depth_at ds x ≤ x
depth_bound ds zero keep = omega (arith, (keep 0 (omega arith)).root refl)
depth_bound ds (suc x) keep =
    let e : suc x - 1 ≡ x = omega arith in
    omega (arith, (keep (suc x) (omega arith)).rises (omega arith), ap (depth_at ds) e, depth_bound ds x (λ y le. keep y (omega arith)))

-- the latest nodes once node x is noted
latest_noted : (ds : List ℕ) → LawfulDepths ds → (x d : ℕ) (table : List ℕ) → x < length ds → d ≡ depth_at ds x → d < length table → AllLatest ds x table → AllLatest ds (x + 1) (slice_set table d x)
latest_noted ds l x e table hx is he h pos d le =
    let back : x + 1 - 1 ≡ x = omega arith in
    let top : d ≤ e = omega (arith, ap (depth_at ds) back) in
    elim (cases_eq d e) [
      | inl same ↦
          subst (Latest ds (x + 1) d) (sym (ap (λ j. slice_index (slice_set table e x) j) same ∙ get_or-set_same table e x 0 he))
          (record { before = omega arith; level = omega arith; since = λ k a b. absurd (omega arith) })
      | inr other ↦
          let least : 0 < x = elim (cases_lt 0 x) [
            | inl p ↦ p
            | inr z ↦ let n : x ≡ 0 = omega arith in absurd (other (omega (arith, (l x hx).root n)))
          ] in
          let p = h least d (omega (arith, (l x hx).rises least)) in
          subst (Latest ds (x + 1) d) (sym (get_or-set_other table e d x 0 other))
          (record {
            before = omega (arith, p.before);
            level = p.level;
            since = λ k a b. elim (cases_lt k x) [
              | inl lt ↦ p.since k a lt
              | inr ge ↦ let s : k ≡ x = omega arith in omega (arith, ap (depth_at ds) s)
            ];
          })
    ]

pub latest_more : (ds : List ℕ) → LawfulDepths ds → (x d v : ℕ) (table : List ℕ) → x < length ds → d ≡ depth_at ds x → v ≡ x → d < length table → AllLatest ds x table → AllLatest ds (x + 1) (slice_set table d v)
latest_more ds l x d v table hx is noted hd h = subst (λ w. AllLatest ds (x + 1) (slice_set table d w)) (sym noted) (latest_noted ds l x d table hx is hd h)

-- the nodes once n is noted as the next of the one to its left
abbrev pub linked : List DepthNode → ℕ → Option ℕ → List DepthNode
linked nodes n None = nodes
linked nodes n (Some left) = slice_set nodes left (record { depth = (node_at nodes left).depth; next = Some n; previous = (node_at nodes left).previous })

module _ (nodes : List DepthNode) (n : ℕ) where
  length-linked : (p : Option ℕ) → length (linked nodes n p) ≡ length nodes
  length-linked None = refl
  length-linked (Some left) = length-set nodes left _

  -- what is linked keeps all but its next
  kept : {X : Type 0} (f : DepthNode → X) → ((v : DepthNode) → f (record { depth = v.depth; next = Some n; previous = v.previous }) ≡ f v) → (p : Option ℕ) → ((y : ℕ) → p ≡ Some y → y < length nodes) → (x : ℕ) → f (node_at (linked nodes n p) x) ≡ f (node_at nodes x)
  kept f same None inside x = refl
  kept f same (Some left) inside x =
      elim (cases_eq x left) [
        | inl e ↦ ap (λ j. f (node_at (linked nodes n (Some left)) j)) e ∙ (ap f (get_or-set_same nodes left _ no_node (inside left refl)) ∙ (same (node_at nodes left) ∙ ap (λ j. f (node_at nodes j)) (sym e)))
        | inr other ↦ ap f (get_or-set_other nodes left x _ no_node other)
      ]

  next_linked : (p : Option ℕ) → ((y : ℕ) → p ≡ Some y → y < length nodes) → (x : ℕ) → p ≡ Some x → (node_at (linked nodes n p) x).next ≡ Some n
  next_linked None inside x e = absurd (none-some x e)
  next_linked (Some left) inside x e =
      let same : x ≡ left = cc in
      ap (λ j. (node_at (linked nodes n (Some left)) j).next) same ∙ ap (λ v. v.next) (get_or-set_same nodes left _ no_node (inside left refl))

  next_kept : (p : Option ℕ) (x : ℕ) → (p ≢ Some x) → (node_at (linked nodes n p) x).next ≡ (node_at nodes x).next
  next_kept None x d = refl
  next_kept (Some left) x d = ap (λ v. v.next) (get_or-set_other nodes left x _ no_node (λ e. d (ap Some (sym e))))

-- the first n nodes are laid out, each with its siblings among them
pub record Laid (ds : List ℕ) (n : ℕ) (nodes : List DepthNode) : Type 0 where
  pub size : length nodes ≡ n
  pub depth : (x : ℕ) → x < n → (node_at nodes x).depth ≡ depth_at ds x
  pub previous : (x y : ℕ) → x < n → Iff ((node_at nodes x).previous ≡ Some y) (NextSibling ds y x)
  pub next : (x y : ℕ) → x < n → Iff ((node_at nodes x).next ≡ Some y) ((y < n) × NextSibling ds x y)

is_left : (p : Option ℕ) (x : ℕ) → (p ≡ Some x) ⊎ (p ≢ Some x)
is_left None x = inr (none-some x)
is_left (Some y) x = elim (cases_eq y x) [ inl e ↦ inl (ap Some e) | inr d ↦ inr (λ e. d (cc)) ]

-- one more node
module _ (ds : List ℕ) (n : ℕ) (nodes : List DepthNode) (v : DepthNode) (laid : Laid ds n nodes) (is : v.depth ≡ depth_at ds n) (last : v.next ≡ None) (here : (y : ℕ) → Iff (v.previous ≡ Some y) (NextSibling ds y n)) where
  abbrev more : List DepthNode
  more = nodes ++ v ∷ []

  old : (x : ℕ) → x < n → node_at more x ≡ node_at nodes x
  old x h = get_or_append_left nodes (v ∷ []) no_node x (omega (arith, laid.size))

  new : (x : ℕ) → x ≡ n → node_at more x ≡ v
  new x e = get_or_push nodes v no_node x (laid.size ∙ sym e)

  inside : (y : ℕ) → v.previous ≡ Some y → y < length more
  inside y e = omega (arith, laid.size, length_push nodes v, ((here y).0 e).later)

  at : (x : ℕ) → x < n + 1 → (x < n) ⊎ (x ≡ n)
  at x h = elim (cases_lt x n) [ inl lt ↦ inl lt | inr ge ↦ inr (omega arith) ]

  previous_at : (x y : ℕ) → x < n + 1 → Iff ((node_at more x).previous ≡ Some y) (NextSibling ds y x)
  previous_at x y h =
      elim (at x h) [
        | inl lt ↦ subst (λ w. Iff (w.previous ≡ Some y) (NextSibling ds y x)) (sym (old x lt)) (laid.previous x y lt)
        | inr e ↦ subst (λ w. Iff (w.previous ≡ Some y) (NextSibling ds y x)) (sym (new x e)) (subst (λ j. Iff (v.previous ≡ Some y) (NextSibling ds y j)) (sym e) (here y))
      ]

  -- what is no left neighbour of n has its next as before
  next_at : (x y : ℕ) → x < n + 1 → (v.previous ≢ Some x) → Iff ((node_at more x).next ≡ Some y) ((y < n + 1) × NextSibling ds x y)
  next_at x y h d =
      elim (at x h) [
        | inl lt ↦
            let l = laid.next x y lt in
            let e = old x lt in (
              (λ f. let r = l.0 (sym (ap (λ w. w.next) e) ∙ f) in (omega (arith, r.0), r.1)),
              (λ r. elim (at y r.0) [
                | inl below ↦ ap (λ w. w.next) e ∙ l.1 (below, r.1)
                | inr same ↦ absurd (d ((here x).1 (subst (NextSibling ds x) same r.1)))
              ]),
            )
        | inr e ↦ (
          (λ f. absurd (none-some y (sym (ap (λ w. w.next) (new x e) ∙ last) ∙ f))),
          (λ r. absurd (omega (arith, r.0, r.1.later))),
        )
      ]

  pub laid_more : Laid ds (n + 1) (linked more n v.previous)
  laid_more = record {
    size = length-linked more n v.previous ∙ (length_push nodes v ∙ ap (λ k. k + 1) laid.size);
    depth = λ x h. kept more n (λ w. w.depth) (λ w. refl) v.previous inside x
        ∙ elim (at x h) [
          | inl lt ↦ ap (λ w. w.depth) (old x lt) ∙ laid.depth x lt
          | inr e ↦ ap (λ w. w.depth) (new x e) ∙ (is ∙ ap (depth_at ds) (sym e))
        ];
    previous = λ x y h. subst (λ o. Iff (o ≡ Some y) (NextSibling ds y x)) (sym (kept more n (λ w. w.previous) (λ w. refl) v.previous inside x)) (previous_at x y h);
    next = λ x y h. elim (is_left v.previous x) [
      | inl e ↦
          let s : NextSibling ds x n = (here x).0 e in
          let f = next_linked more n v.previous inside x e in (
            (λ g. let same : n ≡ y = cc in (omega arith, subst (NextSibling ds x) same s)),
            (λ r. let same : n ≡ y = omega (arith, next_once ds x n y s r.1, next_once ds x y n r.1 s) in f ∙ ap Some same),
          )
      | inr d ↦ subst (λ o. Iff (o ≡ Some y) ((y < n + 1) × NextSibling ds x y)) (sym (next_kept more n v.previous x d)) (next_at x y h d)
    ];
  }

  -- the same by the steps of the code, where v has a node to its left
  pub laid_linked : (pushed : List DepthNode) (left : ℕ) (w : DepthNode) → pushed ≡ more → v.previous ≡ Some left → w ≡ get_or pushed left w → Laid ds (n + 1) (slice_set pushed left (record { depth = w.depth; next = Some n; previous = w.previous }))
  laid_linked pushed left w e p is =
      let there : w ≡ node_at more left = is ∙ (ap (λ xs. get_or xs left w) e ∙ get_or_default more left w no_node (inside left p)) in
      let same : slice_set pushed left (record { depth = w.depth; next = Some n; previous = w.previous }) ≡ linked more n (Some left) =
      ap (λ xs. slice_set xs left (record { depth = w.depth; next = Some n; previous = w.previous })) e
      ∙ ap (λ (u : DepthNode). slice_set more left (record { depth = u.depth; next = Some n; previous = u.previous })) there in
      subst (Laid ds (n + 1)) (ap (linked more n) p ∙ sym same) laid_more

  -- and where it has none
  pub laid_alone : (pushed : List DepthNode) → pushed ≡ more → v.previous ≡ None → Laid ds (n + 1) pushed
  laid_alone pushed e p = subst (Laid ds (n + 1)) (ap (linked more n) p ∙ sym e) laid_more
