-- A tree that obeys the laws passes the test at every node, so that the test is a verdict.
use Rattle.std.specs.Prelude.{◌≡◌, ℕ, ◌+◌, ◌<◌, Bool, true, cond, not, List, [], ◌∷◌, length, is_some, Some, None, Decides, Option, ◌==◌, nat_eq, refl}
use Rattle.std.specs.Option.{option_eq, unwrap_or}
use Rattle.std.proofs.Common.{ap, subst, ◌∙◌, inl, inr, ⊎_elim, arith}
use Rattle.std.proofs.lemmas.Bool.{and_from, both_ways, cases_eq, cond-true, cond-false, eq-eqb, ne_eqb, lt-ltb}
use Rattle.shapes.specs.declared.axis.Axis.{Axis}
use Rattle.shapes.specs.declared.axis.Axis.TheVariants.{First, Next, Owner, Previous}
use Rattle.shapes.specs.declared.links.Links.{Links}
use Rattle.shapes.specs.Certified.{answered, answered_at, rises, root_alone_lem, one_entry, entered, certified, certified_at, Certified, Verdict}
use Rattle.shapes.specs.Levels.{level_of, levels_of_lem}
use Rattle.shapes.specs.Links.{no_links, linked_tree}
use Rattle.shapes.specs.Tree.{Tree, Laws, Countable, EitherOne, Present, along, back}
use Rattle.shapes.specs.TableLaws.{lawful_table}
use Rattle.shapes.proofs.Reaching.{all_levels}

-- from the laws to the tests
same_passes : (o : Option ℕ) (x : ℕ) → o ≡ Some x → option_eq nat_eq o (Some x) ≡ true
same_passes o x e = rw e (eq-eqb x x refl)

none_absent : (o : Option ℕ) → o ≡ None → not (is_some o) ≡ true
none_absent o e = rw e refl

one_only : (o p : Option ℕ) → EitherOne (Present o) (Present p) → cond (is_some o) (not (is_some p)) (is_some p) ≡ true
one_only None None (inl h) = cc h.0.1
one_only None None (inr h) = cc h.1.1
one_only None (Some y) h = refl
one_only (Some y) None h = refl
one_only (Some y) (Some z) (inl h) = absurd (h.1 (z, refl))
one_only (Some y) (Some z) (inr h) = absurd (h.0 (y, refl))

module _ (t : Tree) (laws : Laws t) (level : ℕ → Option ℕ) (same : (x : ℕ) → x < t.count → level x ≡ Some (laws.level x)) where
  passes_answered : (a : Axis) (x : ℕ) (o : Option ℕ) → along t a x ≡ o → answered t a x o ≡ true
  passes_answered a x None e = refl
  passes_answered a x (Some y) e = and_from _ _ (lt-ltb y t.count (laws.inside a x y e)) (same_passes (along t (back a) y) x (laws.reversed a x y e))

  passes_rises : (a : Axis) (x : ℕ) → x < t.count → ((y : ℕ) → along t a x ≡ Some y → laws.level y ≡ laws.level x + 1) → (o : Option ℕ) → along t a x ≡ o → rises level x o ≡ true
  passes_rises a x h up None e = refl
  passes_rises a x h up (Some y) e = rw (same x h) (same_passes (level y) (laws.level x + 1) (same y (laws.inside a x y e) ∙ ap Some (up y e)))

  passes_entered : (x : ℕ) → x < t.count → entered t level x ≡ true
  passes_entered x h =
      ⊎_elim
      (λ root. cond-true (x == 0) (root_alone_lem t level) (one_entry t level x) (eq-eqb x 0 root)
      ∙ and_from _ _ (and_from _ _ (same_passes (level 0) 0 (same 0 (omega (arith, laws.countable)) ∙ ap Some laws.level_root)) (none_absent _ laws.root_next)) (and_from _ _ (none_absent _ laws.root_owner) (none_absent _ laws.root_previous)))
      (λ other. let above : 0 < x = omega arith in
      cond-false (x == 0) (root_alone_lem t level) (one_entry t level x) (ne_eqb x 0 other)
      ∙ and_from _ _ (lt-ltb _ _ (omega (arith, ap (λ o. unwrap_or o 0) (same x h), laws.level_other x above h))) (one_only (t.owner x) (t.previous x) (laws.one_way_in x above h)))
      (cases_eq x 0)

  pub tests_from_laws : (x : ℕ) → x < t.count → certified t level x ≡ true
  tests_from_laws x h =
      let at : (a : Axis) → answered_at t x a ≡ true = λ a. passes_answered a x (along t a x) refl in
      and_from _ _ (and_from _ _ (and_from _ _ (at First) (at Next)) (and_from _ _ (at Owner) (at Previous)))
      (and_from _ _
      (and_from _ _ (passes_rises First x h (laws.level_first x) (t.first x) refl) (passes_rises Next x h (laws.level_next x) (t.next x) refl))
      (passes_entered x h))

pub table_lawful : (rows : List Links) → Countable (length rows) → Laws (linked_tree rows) → Certified rows
unfolding certified_at
table_lawful rows countable laws = tests_from_laws (linked_tree rows) laws (level_of (levels_of_lem (linked_tree rows))) (all_levels (linked_tree rows) laws)

pub one_node : Certified (no_links ∷ [])
unfolding levels_of_lem certified_at
one_node x h = let root : x ≡ 0 = omega arith in rw root refl

-- the verdict by a test at levels that are those of the table
pub verdict : (rows : List Links) (levels : List (Option ℕ)) (b : Bool) → Countable (length rows) → levels ≡ levels_of_lem (linked_tree rows) → Decides b ((x : ℕ) → x < length rows → certified_at rows levels x ≡ true) → Verdict rows b
verdict rows levels b countable e d =
    let all : Decides b (Certified rows) = subst (λ ls. Decides b ((x : ℕ) → x < length rows → certified_at rows ls x ≡ true)) e d in
    (λ yes'. (all.0 yes', lawful_table rows countable (all.0 yes')), λ no' laws. both_ways b no' (all.1 (table_lawful rows countable laws)))
