-- The tree of lawful depths keeps the laws of trees.
use Rattle.std.specs.Prelude.{◌≡◌, ℕ, zero, suc, ◌+◌, ◌-◌, ◌<◌, ◌≤◌, cond, List, length, Some, None, Option, ◌≢◌, nat_le, refl}
use Rattle.std.proofs.Common.{sym, ap, subst, ◌∙◌, inl, inr, arith}
use Rattle.std.proofs.lemmas.List.{length-map}
use Rattle.std.proofs.lemmas.Bool.{cases_lt, cond-true, cond-false, le-leb, lt-leb}
use Rattle.shapes.specs.declared.axis.Axis.{Axis}
use Rattle.shapes.specs.declared.axis.Axis.TheVariants.{First, Next, Owner, Previous}
use Rattle.shapes.specs.declared.depth.node.DepthNode.{DepthNode}
use Rattle.shapes.specs.DepthTables.{depths_of, nodes_tree}
use Rattle.shapes.specs.Tree.{Tree, along, back, EitherOne, Present, Countable, Laws}
use Rattle.shapes.specs.Walks.{absent}
use Rattle.shapes.specs.Depths.{depth_at, LawfulDepths, FirstChild, NextSibling, Neighbour, DepthTree}

pub none_unless : (o : Option ℕ) → ((y : ℕ) → o ≢ Some y) → o ≡ None
none_unless o h = absent o (λ w. h w.0 w.1)

-- the nodes from k down to 1 whose depth is at most m and that of every such node above: with m the depth of node k they are k
-- and the nodes that lead to it, each by one step along first or next
minima : List ℕ → ℕ → ℕ → ℕ
minima ds zero m = 0
minima ds (suc k) m = cond (nat_le (depth_at ds (suc k)) m) (1 + minima ds k (depth_at ds (suc k))) (minima ds k m)

minima_here : (ds : List ℕ) (k m : ℕ) → depth_at ds (suc k) ≤ m → minima ds (suc k) m ≡ 1 + minima ds k (depth_at ds (suc k))
unfolding minima
minima_here ds k m h = cond-true (nat_le (depth_at ds (suc k)) m) _ _ (le-leb _ _ h)

-- deeper nodes do not count
minima_deeper : (ds : List ℕ) (x n m : ℕ) → ((k : ℕ) → x < k → k < suc (x + n) → m < depth_at ds k) → minima ds (x + n) m ≡ minima ds x m
unfolding minima
minima_deeper ds x zero m h = ap (λ j. minima ds j m) (omega arith)
minima_deeper ds x (suc n) m h =
    let e : x + suc n ≡ suc (x + n) = omega arith in
    ap (λ j. minima ds j m) e
    ∙ (cond-false (nat_le (depth_at ds (suc (x + n))) m) _ _ (lt-leb _ _ (h (suc (x + n)) (omega arith) (omega arith)))
    ∙ minima_deeper ds x n m (λ k a b. h k a (omega arith)))

-- a first child has the depth before it among its minima whatever the bound above
minima_first : (ds : List ℕ) (x : ℕ) → minima ds x (depth_at ds x + 1) ≡ minima ds x (depth_at ds x)
unfolding minima
minima_first ds zero = refl
minima_first ds (suc k) = minima_here ds k _ (omega arith) ∙ sym (minima_here ds k _ (omega arith))

level : List ℕ → ℕ → ℕ
level ds y = minima ds y (depth_at ds y)

level_root : (ds : List ℕ) → level ds 0 ≡ 0
unfolding level minima
level_root ds = refl

level_other : (ds : List ℕ) (y : ℕ) → 0 < y → 0 < level ds y
unfolding level
level_other ds zero h = absurd (omega arith)
level_other ds (suc k) h = omega (arith, minima_here ds k (depth_at ds (suc k)) (omega arith))

level_first : (ds : List ℕ) (x y : ℕ) → FirstChild ds x y → level ds y ≡ level ds x + 1
unfolding level
level_first ds x y c =
    let e : y ≡ suc x = omega (arith, c.after) in
    let d : depth_at ds (suc x) ≡ depth_at ds x + 1 = ap (depth_at ds) (sym e) ∙ c.deeper in
    ap (λ j. minima ds j (depth_at ds j)) e
    ∙ (minima_here ds x (depth_at ds (suc x)) (omega arith)
    ∙ (ap (λ m. 1 + minima ds x m) d ∙ omega (arith, minima_first ds x)))

level_next : (ds : List ℕ) (x y : ℕ) → NextSibling ds x y → level ds y ≡ level ds x + 1
unfolding level
level_next ds x y s =
    let n : ℕ = y - suc x in
    let e : y ≡ suc (x + n) = omega (arith, s.later) in
    let d : depth_at ds (suc (x + n)) ≡ depth_at ds x = ap (depth_at ds) (sym e) ∙ s.level in
    ap (λ j. minima ds j (depth_at ds j)) e
    ∙ (minima_here ds (x + n) (depth_at ds (suc (x + n))) (omega arith)
    ∙ (ap (λ m. 1 + minima ds (x + n) m) d
    ∙ omega (arith, minima_deeper ds x n (depth_at ds x) (λ k a b. s.between k a (omega arith)))))

-- a first child has no previous sibling
pub first_no_previous : (ds : List ℕ) (p x y : ℕ) → FirstChild ds x y → NextSibling ds p y → ⊥
first_no_previous ds p x y c s =
    let e : x ≡ y - 1 = omega (arith, c.after) in
    elim (cases_lt p x) [
      | inl h ↦ omega (arith, c.deeper, s.level, s.between x h (omega (arith, c.after)))
      | inr h ↦ let same : p ≡ x = omega (arith, s.later, c.after) in omega (arith, c.deeper, s.level, ap (depth_at ds) same)
    ]

-- going back from a node that is no first child a previous sibling is found, since depths rise by one at a time
seek_previous : (ds : List ℕ) → LawfulDepths ds → (y k : ℕ) → y < length ds → k < y → 1 ≤ depth_at ds y → depth_at ds y ≤ depth_at ds k → ((j : ℕ) → k < j → j < y → depth_at ds y < depth_at ds j) → (p : ℕ) × NextSibling ds p y
seek_previous ds l y zero hy hk one le h = absurd (omega (arith, (l 0 (omega arith)).root refl))
seek_previous ds l y (suc k) hy hk one le h =
    elim (cases_lt (depth_at ds y) (depth_at ds (suc k))) [
      | inl deeper ↦
          let r : depth_at ds (suc k) ≤ depth_at ds (suc k - 1) + 1 = (l (suc k) (omega arith)).rises (omega arith) in
          let e : suc k - 1 ≡ k = omega arith in
          let g : depth_at ds (suc k - 1) ≡ depth_at ds k = ap (depth_at ds) e in
          seek_previous ds l y k hy (omega arith) one (omega arith) (λ j a b. elim (cases_lt (suc k) j) [
            | inl c ↦ h j c b
            | inr c ↦ let s : j ≡ suc k = omega arith in omega (arith, ap (depth_at ds) s)
          ])
      | inr same ↦ (
        suc k,
        record {
          later = hk;
          node = hy;
          level = omega arith;
          between = λ j a b. omega (arith, h j a b);
        },
      )
    ]

pub previous_found : (ds : List ℕ) → LawfulDepths ds → (y : ℕ) → 0 < y → y < length ds → depth_at ds y ≤ depth_at ds (y - 1) → (p : ℕ) × NextSibling ds p y
previous_found ds l y pos hy le = seek_previous ds l y (y - 1) hy (omega arith) ((l y hy).other pos) le (λ j a b. absurd (omega arith))

pub neighbour_node : (ds : List ℕ) (a : Axis) (x y : ℕ) → Neighbour ds a x y → (x < length ds) × (y < length ds)
neighbour_node ds First x y c = (omega (arith, c.after, c.node), c.node)
neighbour_node ds Next x y s = (omega (arith, s.later, s.node), s.node)
neighbour_node ds Owner x y c = (c.node, omega (arith, c.after, c.node))
neighbour_node ds Previous x y s = (s.node, omega (arith, s.later, s.node))

neighbour_back : (ds : List ℕ) (a : Axis) (x y : ℕ) → Neighbour ds a x y → Neighbour ds (back a) y x
neighbour_back ds First x y n = n
neighbour_back ds Next x y n = n
neighbour_back ds Owner x y n = n
neighbour_back ds Previous x y n = n

module _ (ds : List ℕ) (t : Tree) (countable : Countable (length ds)) (lawful : LawfulDepths ds) (d : DepthTree ds t) where
  one_way_in : (y : ℕ) → 0 < y → y < length ds → EitherOne (Present (t.owner y)) (Present (t.previous y))
  one_way_in y pos hy =
      elim (cases_lt (depth_at ds (y - 1)) (depth_at ds y)) [
        | inl deeper ↦
            let c : FirstChild ds (y - 1) y = record { after = omega arith; node = hy; deeper = omega (arith, (lawful y hy).rises pos) } in
            inl ((y - 1, (d.maps Owner y (y - 1)).1 c), λ q. first_no_previous ds q.0 (y - 1) y c ((d.maps Previous y q.0).0 q.1))
        | inr le ↦
            let p = previous_found ds lawful y pos hy le in
            inr ((λ q. first_no_previous ds p.0 q.0 y ((d.maps Owner y q.0).0 q.1) p.1), (p.0, (d.maps Previous y p.0).1 p.1))
      ]

  pub depth_laws : Laws t
  depth_laws = record {
    countable = rw d.count countable;
    outside = λ a x le. none_unless (along t a x) (λ y e. omega (arith, d.count, neighbour_node ds a x y ((d.maps a x y).0 e)));
    inside = λ a x y e. omega (arith, d.count, neighbour_node ds a x y ((d.maps a x y).0 e));
    reversed = λ a x y e. (d.maps (back a) y x).1 (neighbour_back ds a x y ((d.maps a x y).0 e));
    root_owner = none_unless (t.owner 0) (λ x e. omega (arith, ((d.maps Owner 0 x).0 e).after));
    root_previous = none_unless (t.previous 0) (λ x e. omega (arith, ((d.maps Previous 0 x).0 e).later));
    root_next = none_unless (t.next 0) (λ y e. let s = (d.maps Next 0 y).0 e in omega (arith, s.later, s.level, (lawful 0 countable.0).root refl, (lawful y s.node).other s.later));
    one_way_in = λ y pos hy. one_way_in y pos (omega (arith, d.count));
    level = level ds;
    level_root = level_root ds;
    level_other = λ y pos hy. level_other ds y pos;
    level_first = λ x y e. level_first ds x y ((d.maps First x y).0 e);
    level_next = λ x y e. level_next ds x y ((d.maps Next x y).0 e);
  }

-- the same of the nodes that a depth shape holds
pub nodes_laws : (nodes : List DepthNode) → Countable (length nodes) → LawfulDepths (depths_of nodes) → DepthTree (depths_of nodes) (nodes_tree nodes) → Laws (nodes_tree nodes)
nodes_laws nodes countable lawful d = depth_laws (depths_of nodes) (nodes_tree nodes) (subst Countable (sym (length-map nodes (λ n. n.depth))) countable) lawful d
