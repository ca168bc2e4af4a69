-- The nodes of a depth list hold its tree.
use Rattle.std.specs.Prelude.{◌≡◌, ℕ, ◌+◌, ◌-◌, ◌<◌, ◌≤◌, true, List, length, Some, nat_lt}
use Rattle.std.proofs.Common.{sym, ap, ◌∙◌, inl, inr, arith}
use Rattle.std.proofs.lemmas.List.{ext_get_or, get_or-map, get_or_past, length-map}
use Rattle.std.proofs.lemmas.Option.{none-some, cond_some}
use Rattle.std.proofs.lemmas.Bool.{and_from, and_parts, lt-ltb, ltb-true, cond-true, cases_lt}
use Rattle.shapes.specs.declared.depth.node.DepthNode.{DepthNode}
use Rattle.shapes.specs.declared.axis.Axis.{Axis}
use Rattle.shapes.specs.declared.axis.Axis.TheVariants.{First, Next, Owner, Previous}
use Rattle.shapes.specs.Tree.{Iff, along}
use Rattle.shapes.specs.Depths.{depth_at, LawfulDepths, FirstChild, Neighbour}
use Rattle.shapes.specs.DepthTables.{no_node, node_at, depths_of, deeper, nodes_tree, DepthNodes}
use Rattle.shapes.proofs.DepthSteps.{Laid}

module _ (ds : List ℕ) (nodes : List DepthNode) (lawful : LawfulDepths ds) (laid : Laid ds (length ds) nodes) where
  past : (x : ℕ) → length ds ≤ x → node_at nodes x ≡ no_node
  past x le = get_or_past nodes x no_node (omega (arith, laid.size))

  -- a node that is deeper than the one before it
  record Deeper (y : ℕ) : Type 0 where
    later : 0 < y
    node : y < length ds
    rises : depth_at ds (y - 1) < depth_at ds y

  deeper_is : (y : ℕ) → deeper nodes y ≡ true → Deeper y
  deeper_is y h =
      let p = and_parts (nat_lt y (length nodes)) _ h in
      let node : y < length ds = omega (arith, ltb-true _ _ p.0, laid.size) in
      let rises : depth_at ds (y - 1) < depth_at ds y = omega (arith, ltb-true _ _ p.1, laid.depth y node, laid.depth (y - 1) (omega arith)) in
      record {
        later = elim (cases_lt 0 y) [
          | inl lt ↦ lt
          | inr z ↦ let e : y - 1 ≡ y = omega arith in absurd (omega (arith, ap (depth_at ds) e))
        ];
        node = node;
        rises = rises;
      }

  deeper_first : (x y : ℕ) → y ≡ x + 1 → Deeper y → FirstChild ds x y
  deeper_first x y after d =
      let e : y - 1 ≡ x = omega arith in
      record {
        after = after;
        node = d.node;
        deeper = omega (arith, d.rises, (lawful y d.node).rises (omega arith), ap (depth_at ds) e);
      }

  first_deeper : (x y : ℕ) → FirstChild ds x y → deeper nodes y ≡ true
  first_deeper x y c =
      let e : y - 1 ≡ x = omega (arith, c.after) in
      let node : y < length nodes = omega (arith, c.node, laid.size) in
      let rises : (node_at nodes (y - 1)).depth < (node_at nodes y).depth = omega (arith, c.deeper, ap (depth_at ds) e, laid.depth y c.node, laid.depth (y - 1) (omega (arith, c.node))) in
      and_from _ _ (lt-ltb _ _ node) (lt-ltb _ _ rises)

  told : (a : Axis) (x y : ℕ) → Iff (along (nodes_tree nodes) a x ≡ Some y) (Neighbour ds a x y)
  told First x y = (
    (λ e. let p = cond_some _ _ y e in let d = deeper_is (x + 1) p.0 in deeper_first x y (sym p.1) (rw p.1 at d)),
    (λ c. let s : x + 1 ≡ y = omega (arith, c.after) in cond-true _ _ _ (ap (deeper nodes) s ∙ first_deeper x y c) ∙ ap Some s),
  )
  told Next x y = (
    (λ e. elim (cases_lt x (length ds)) [
      | inl lt ↦ ((laid.next x y lt).0 e).1
      | inr le ↦ absurd (none-some y (sym (ap (λ n. n.next) (past x le)) ∙ e))
    ]),
    (λ s. (laid.next x y (omega (arith, s.later, s.node))).1 (s.node, s)),
  )
  told Owner x y = (
    (λ e. let p = cond_some _ _ y e in let d = deeper_is x p.0 in deeper_first y x (omega (arith, d.later)) d),
    (λ c. let s : x - 1 ≡ y = omega (arith, c.after) in cond-true _ _ _ (first_deeper y x c) ∙ ap Some s),
  )
  told Previous x y = (
    (λ e. elim (cases_lt x (length ds)) [
      | inl lt ↦ (laid.previous x y lt).0 e
      | inr le ↦ absurd (none-some y (sym (ap (λ n. n.previous) (past x le)) ∙ e))
    ]),
    (λ s. (laid.previous x y s.node).1 s),
  )

  pub laid_nodes : DepthNodes ds nodes
  laid_nodes = record {
    depths = ext_get_or 0 (depths_of nodes) ds (length-map nodes (λ n. n.depth) ∙ laid.size) (λ x h. let lt : x < length ds = omega (arith, length-map nodes (λ (n : DepthNode). n.depth), laid.size) in get_or-map (λ n. n.depth) nodes x no_node 0 (omega (arith, laid.size)) ∙ laid.depth x lt);
    tree = record { count = laid.size; maps = told };
  }
