-- A tree whose every node passes the test obeys the laws.
use Rattle.std.specs.Prelude.{◌≡◌, ℕ, ◌+◌, ◌<◌, ◌≤◌, true, cond, not, ◌&&◌, List, length, is_some, Some, None, Option, ◌==◌, nat_eq, nat_lt, refl}
use Rattle.std.specs.Option.{option_eq, option_map, unwrap_or}
use Rattle.std.proofs.Common.{sym, ap, subst, ◌∙◌, inl, inr, ⊎_elim, arith}
use Rattle.std.proofs.lemmas.List.{get_or_past}
use Rattle.std.proofs.lemmas.Bool.{and_parts, cases_lt, cond-false, eqb-true, ne_eqb, ltb-true}
use Rattle.shapes.specs.declared.axis.Axis.{Axis}
use Rattle.shapes.specs.declared.axis.Axis.TheVariants.{First, Next, Owner, Previous}
use Rattle.shapes.specs.declared.links.Links.{Links}
use Rattle.shapes.specs.Certified.{answered, answered_at, all_answered_lem, rises, both_rise_lem, root_alone_lem, one_entry, entered, certified, certified_at, Certified}
use Rattle.shapes.specs.Levels.{level_of, levels_of_lem}
use Rattle.shapes.specs.Links.{link, no_links, linked_tree}
use Rattle.shapes.specs.Tree.{Tree, Laws, Countable, EitherOne, Present, along, back}
use Rattle.shapes.specs.Walks.{not_both, within}

same_option : (o p : Option ℕ) → option_eq nat_eq o p ≡ true → o ≡ p
same_option None None e = refl
same_option None (Some y) e = cc
same_option (Some x) None e = cc
same_option (Some x) (Some y) e = ap Some (eqb-true x y e)

absent : (o : Option ℕ) → not (is_some o) ≡ true → o ≡ None
absent None e = refl
absent (Some y) e = cc

-- what an answered axis leads to
answered_node : (t : Tree) (a : Axis) (x y : ℕ) (o : Option ℕ) → answered t a x o ≡ true → o ≡ Some y → (y < t.count) × (along t (back a) y ≡ Some x)
answered_node t a x y None h e = cc
answered_node t a x y (Some z) h e =
    let same : z ≡ y = cc in
    let parts : (nat_lt z t.count ≡ true) × (option_eq nat_eq (along t (back a) z) (Some x) ≡ true) = and_parts (nat_lt z t.count) _ h in
    subst (λ w. (w < t.count) × (along t (back a) w ≡ Some x)) same (ltb-true z t.count parts.0, same_option _ _ parts.1)

-- the number of an option, where that is no option of 0
counted : (o : Option ℕ) → 0 < unwrap_or o 0 → Present o
counted None h = absurd (omega arith)
counted (Some l) h = (l, refl)

one_more : (o p : Option ℕ) → Present o → p ≡ option_map (λ n. n + 1) o → unwrap_or p 0 ≡ unwrap_or o 0 + 1
one_more None p h e = cc h.1
one_more (Some l) p h e = ap (λ q. unwrap_or q 0) e

risen : (level : ℕ → Option ℕ) (x y : ℕ) (o : Option ℕ) → Present (level x) → rises level x o ≡ true → o ≡ Some y → unwrap_or (level y) 0 ≡ unwrap_or (level x) 0 + 1
risen level x y None known h e = cc
risen level x y (Some z) known h e = let same : z ≡ y = cc in subst (λ w. unwrap_or (level w) 0 ≡ unwrap_or (level x) 0 + 1) same (one_more (level x) (level z) known (same_option _ _ h))

only_one : (o p : Option ℕ) → cond (is_some o) (not (is_some p)) (is_some p) ≡ true → EitherOne (Present o) (Present p)
only_one None None h = cc
only_one None (Some y) h = inr (λ f. not_both None f.0 refl f.1, (y, refl))
only_one (Some y) None h = inl ((y, refl), λ f. not_both None f.0 refl f.1)
only_one (Some y) (Some z) h = cc

-- the parts of a test that is passed
axis_answered : (t : Tree) (a : Axis) (x : ℕ) → all_answered_lem t x ≡ true → answered_at t x a ≡ true
axis_answered t First x h = (and_parts (answered_at t x First) (answered_at t x Next) (and_parts (answered_at t x First && answered_at t x Next) _ h).0).0
axis_answered t Next x h = (and_parts (answered_at t x First) (answered_at t x Next) (and_parts (answered_at t x First && answered_at t x Next) _ h).0).1
axis_answered t Owner x h = (and_parts (answered_at t x Owner) (answered_at t x Previous) (and_parts (answered_at t x First && answered_at t x Next) _ h).1).0
axis_answered t Previous x h = (and_parts (answered_at t x Owner) (answered_at t x Previous) (and_parts (answered_at t x First && answered_at t x Next) _ h).1).1

pub record Parts (t : Tree) (level : ℕ → Option ℕ) (x : ℕ) : Type 0 where
  pub axes : (a : Axis) → answered_at t x a ≡ true
  pub first : rises level x (t.first x) ≡ true
  pub next : rises level x (t.next x) ≡ true
  pub entry : entered t level x ≡ true

parts_of : (t : Tree) (level : ℕ → Option ℕ) (x : ℕ) → certified t level x ≡ true → Parts t level x
parts_of t level x h =
    let all : (all_answered_lem t x ≡ true) × ((both_rise_lem t level x && entered t level x) ≡ true) = and_parts (all_answered_lem t x) _ h in
    let rest : (both_rise_lem t level x ≡ true) × (entered t level x ≡ true) = and_parts (both_rise_lem t level x) _ all.1 in
    let risen : (rises level x (t.first x) ≡ true) × (rises level x (t.next x) ≡ true) = and_parts (rises level x (t.first x)) _ rest.0 in
    record { axes = λ a. axis_answered t a x all.0; first = risen.0; next = risen.1; entry = rest.1 }

-- from the tests to the laws
module _ (t : Tree) (level : ℕ → Option ℕ) (countable : Countable t.count) (outside : (a : Axis) (x : ℕ) → t.count ≤ x → along t a x ≡ None) (passes : (x : ℕ) → x < t.count → certified t level x ≡ true) where
  node : (a : Axis) (x y : ℕ) → along t a x ≡ Some y → x < t.count
  node a x y e = within (along t a) t.count x y (outside a x) e

  answers : (a : Axis) (x y : ℕ) → along t a x ≡ Some y → (y < t.count) × (along t (back a) y ≡ Some x)
  answers a x y e = answered_node t a x y (along t a x) ((parts_of t level x (passes x (node a x y e))).axes a) e

  root_parts : root_alone_lem t level ≡ true
  root_parts = (parts_of t level 0 (passes 0 (omega arith))).entry

  other_parts : (x : ℕ) → 0 < x → x < t.count → one_entry t level x ≡ true
  other_parts x h n = sym (cond-false (x == 0) (root_alone_lem t level) (one_entry t level x) (ne_eqb x 0 (λ e. omega arith))) ∙ (parts_of t level x (passes x n)).entry

  root_level : ((option_eq nat_eq (level 0) (Some 0) && not (is_some (t.next 0))) ≡ true) × ((not (is_some (t.owner 0)) && not (is_some (t.previous 0))) ≡ true)
  root_level = and_parts (option_eq nat_eq (level 0) (Some 0) && not (is_some (t.next 0))) _ root_parts

  level_zero : level 0 ≡ Some 0
  level_zero = same_option _ _ (and_parts (option_eq nat_eq (level 0) (Some 0)) _ root_level.0).0

  above_zero : (x : ℕ) → 0 < x → x < t.count → 0 < unwrap_or (level x) 0
  above_zero x h n = ltb-true _ _ (and_parts (nat_lt 0 (unwrap_or (level x) 0)) _ (other_parts x h n)).0

  leveled : (x : ℕ) → x < t.count → Present (level x)
  leveled x n = ⊎_elim (λ h. counted (level x) (above_zero x h n)) (λ h. let e : 0 ≡ x = omega arith in (0, ap level (sym e) ∙ level_zero)) (cases_lt 0 x)

  pub laws_from_tests : Laws t
  laws_from_tests =
      let alone : (not (is_some (t.owner 0)) ≡ true) × (not (is_some (t.previous 0)) ≡ true) = and_parts (not (is_some (t.owner 0))) _ root_level.1 in
      record {
        countable = countable;
        outside = outside;
        inside = λ a x y e. (answers a x y e).0;
        reversed = λ a x y e. (answers a x y e).1;
        root_owner = absent _ alone.0;
        root_previous = absent _ alone.1;
        root_next = absent _ (and_parts (option_eq nat_eq (level 0) (Some 0)) _ root_level.0).1;
        one_way_in = λ y h n. only_one (t.owner y) (t.previous y) (and_parts (nat_lt 0 (unwrap_or (level y) 0)) _ (other_parts y h n)).1;
        level = λ y. unwrap_or (level y) 0;
        level_root = ap (λ o. unwrap_or o 0) level_zero;
        level_other = above_zero;
        level_first = λ x y e. risen level x y (t.first x) (leveled x (node First x y e)) (parts_of t level x (passes x (node First x y e))).first e;
        level_next = λ x y e. risen level x y (t.next x) (leveled x (node Next x y e)) (parts_of t level x (passes x (node Next x y e))).next e;
      }

-- a certified table
module _ (rows : List Links) (countable : Countable (length rows)) where
  nothing_outside : (a : Axis) (x : ℕ) → length rows ≤ x → along (linked_tree rows) a x ≡ None
  nothing_outside First x h = ap (λ r. link r.first) (get_or_past rows x no_links h)
  nothing_outside Next x h = ap (λ r. link r.next) (get_or_past rows x no_links h)
  nothing_outside Owner x h = ap (λ r. link r.owner) (get_or_past rows x no_links h)
  nothing_outside Previous x h = ap (λ r. link r.previous) (get_or_past rows x no_links h)

  pub lawful_table : Certified rows → Laws (linked_tree rows)
  unfolding certified_at
  lawful_table passes = laws_from_tests (linked_tree rows) (level_of (levels_of_lem (linked_tree rows))) countable nothing_outside passes
