-- The mirror of a lawful tree is a lawful tree.
use Rattle.std.specs.Prelude.{◌≡◌, ℕ, zero, suc, ◌+◌, ◌-◌, ◌<◌, ◌≤◌, Some, None, Option}
use Rattle.std.proofs.Math.Path.{refl, sym, ap}
use Rattle.std.proofs.Common.{subst, ◌∙◌, inl, inr, ⊎_elim}
use native.Mathlib.Omega.{arith}
use Rattle.shapes.specs.declared.axis.Axis.{Axis}
use Rattle.shapes.specs.declared.axis.Axis.TheVariants.{First, Next, Owner, Previous}
use Rattle.shapes.specs.Tree.{Tree, Laws, Present, EitherOne, along, back}
use Rattle.shapes.specs.Mirrors.{Leads, LastChild, MirrorOf, walk_end, last_from, last_owner, mirror}
use Rattle.shapes.specs.Mirrors.Leads.{here, onward}
use Rattle.shapes.specs.Walks.{option_cases, not_both, absent, walk_leads, leads_back, leads_keeps, one_end}
use Rattle.shapes.specs.Trees.{axis_ends, end_is, starts_inside, child_first, sibling_later}

module _ (t : Tree) (l : Laws t) where
  pub last_inside : (x z : ℕ) → LastChild t x z → z < t.count
  last_inside x z c =
      leads_keeps t.next (λ y. y < t.count) (λ x y e _. l.inside Next x y e) c.eldest z c.right (l.inside First x _ c.first)

  pub last_not_root : (x z : ℕ) → LastChild t x z → 0 < z
  last_not_root x z c =
      leads_keeps t.next (λ y. 0 < y) (λ x y e _. (sibling_later t l x y e).0) c.eldest z c.right (child_first t l x _ c.first).0

  pub to_eldest : (x z : ℕ) (c : LastChild t x z) → Leads t.previous z c.eldest
  to_eldest x z c = leads_back t.next t.previous (l.reversed Next) c.eldest z c.right

  pub one_last : (x z z' : ℕ) → LastChild t x z → LastChild t x z' → z ≡ z'
  one_last x z z' c c' =
      let s : c'.eldest ≡ c.eldest = let f = c.first in let f' = c'.first in cc in
      one_end t.next c.eldest z z' c.right c.last (subst (λ (e : ℕ). Leads t.next e z') s c'.right) c'.last

  pub last_of : (x e : ℕ) → t.first x ≡ Some e → LastChild t x (walk_end t.next t.count e)
  last_of x e h = record { eldest = e; first = h; right = walk_leads t.next t.count e; last = axis_ends t l Next e }

  -- the eldest sibling of the last child
  eldest_is : (x z : ℕ) (c : LastChild t x z) → c.eldest ≡ walk_end t.previous t.count z
  eldest_is x z c = end_is t l Previous z c.eldest (to_eldest x z c) (child_first t l x _ c.first).1

  owned_last : (x z : ℕ) → t.next z ≡ None → t.owner (walk_end t.previous t.count z) ≡ Some x → LastChild t x z
  owned_last x z e o = record {
    eldest = walk_end t.previous t.count z;
    first = l.reversed Owner _ x o;
    right = leads_back t.previous t.next (l.reversed Previous) z _ (walk_leads t.previous t.count z);
    last = e;
  }

  pub parent_of : (z : ℕ) → 0 < z → z < t.count → t.next z ≡ None → (x : ℕ) × LastChild t x z
  parent_of z pos lt e =
      let w : ℕ = walk_end t.previous t.count z in
      let r : Leads t.previous z w = walk_leads t.previous t.count z in
      let inside : w < t.count = leads_keeps t.previous (λ y. y < t.count) (λ x y h _. l.inside Previous x y h) z w r lt in
      let other : 0 < w = leads_keeps t.previous (λ y. 0 < y) (λ x y h _. has_next x y (l.reversed Previous x y h)) z w r pos in
      ⊎_elim
      (λ b. (b.0.0, owned_last b.0.0 z e b.0.1))
      (λ b. absurd (not_both _ b.1.0 (axis_ends t l Previous z) b.1.1))
      (l.one_way_in w other inside)
    where
      has_next : (x y : ℕ) → t.next y ≡ Some x → 0 < y
      has_next x zero h = absurd (not_both _ x l.root_next h)
      has_next x (suc y) h = omega arith

  -- the functions of specs/ give a mirror
  pub mirror_means : MirrorOf t (mirror t)
  mirror_means = record {
    count = refl;
    next = λ x. refl;
    previous = λ x. refl;
    first = λ x z. (first_last x z, last_first x z);
    owner = λ x z. (owner_last x z, last_owned x z);
  }
    where
      first_last : (x z : ℕ) → last_from t (t.first x) ≡ Some z → LastChild t x z
      first_last x z e = ⊎_elim
          (λ n. absurd (not_both _ z (ap (last_from t) n) e))
          (λ w. let f = ap (last_from t) w.1 in let s : walk_end t.next t.count w.0 ≡ z = cc in subst (λ (y : ℕ). LastChild t x y) s (last_of x w.0 w.1))
          (option_cases (t.first x))

      last_first : (x z : ℕ) → LastChild t x z → last_from t (t.first x) ≡ Some z
      last_first x z c = ap (last_from t) c.first ∙ ap Some (one_last x _ z (last_of x _ c.first) c)

      owner_last : (x z : ℕ) → last_owner t z (t.next z) ≡ Some x → LastChild t x z
      owner_last x z e = ⊎_elim
          (λ n. owned_last x z n (sym (ap (last_owner t z) n) ∙ e))
          (λ w. absurd (not_both _ x (ap (last_owner t z) w.1) e))
          (option_cases (t.next z))

      last_owned : (x z : ℕ) → LastChild t x z → last_owner t z (t.next z) ≡ Some x
      last_owned x z c = ap (last_owner t z) c.last ∙ (ap t.owner (sym (eldest_is x z c)) ∙ l.reversed First x _ c.first)

  -- how many siblings stand to the right
  rights : ℕ → ℕ
  rights y = l.level (walk_end t.next t.count y) - l.level y

  -- the level in the mirror is the sum of a part that all siblings share and the siblings to the right
  weigh : (ℕ → ℕ) → Option ℕ → Option ℕ → ℕ
  weigh shared (Some p) o = shared p + rights p + 1
  weigh shared None (Some x) = shared x
  weigh shared None None = 0

  shared_at : ℕ → ℕ → ℕ
  shared_at zero y = 0
  shared_at (suc k) y = weigh (shared_at k) (t.owner y) (t.previous y)

  shared : ℕ → ℕ
  shared y = shared_at (l.level y) y

  shared_on : (x y : ℕ) → l.level y ≡ l.level x + 1 → shared y ≡ weigh (shared_at (l.level x)) (t.owner y) (t.previous y)
  unfolding shared shared_at
  shared_on x y e = let s : l.level y ≡ suc (l.level x) = omega arith in ap (λ (k : ℕ). shared_at k y) s

  shared_first : (x y : ℕ) → t.first x ≡ Some y → shared y ≡ shared x + rights x + 1
  unfolding shared weigh
  shared_first x y e =
      shared_on x y (l.level_first x y e) ∙ ap (λ (o : Option ℕ). weigh (shared_at (l.level x)) o (t.previous y)) (l.reversed First x y e)

  shared_next : (x y : ℕ) → t.next x ≡ Some y → shared y ≡ shared x
  unfolding shared weigh
  shared_next x y e =
      shared_on x y (l.level_next x y e)
      ∙ (ap (λ (o : Option ℕ). weigh (shared_at (l.level x)) o (t.previous y)) (sibling_later t l x y e).1
      ∙ ap (weigh (shared_at (l.level x)) None) (l.reversed Next x y e))

  rights_none : (x : ℕ) → t.next x ≡ None → rights x ≡ 0
  unfolding rights
  rights_none x e = let s = end_is t l Next x x (here x) e in let s' = ap l.level s in omega arith

  rights_next : (x y : ℕ) → t.next x ≡ Some y → rights x ≡ rights y + 1
  unfolding rights
  rights_next x y e =
      let w : ℕ = walk_end t.next t.count y in
      let r : Leads t.next y w = walk_leads t.next t.count y in
      let s = ap l.level (end_is t l Next x w (onward x y w e r) (axis_ends t l Next y)) in
      let h : l.level y ≤ l.level w = leads_keeps t.next (λ z. l.level y ≤ l.level z) (λ a b h p. omega (arith, l.level_next a b h)) y w r (omega arith) in
      omega (arith, l.level_next x y e)

  mirror_level : ℕ → ℕ
  mirror_level y = shared y + rights y

  level_last : (x z : ℕ) → LastChild t x z → mirror_level z ≡ mirror_level x + 1
  unfolding mirror_level
  level_last x z c =
      let s : shared c.eldest ≡ shared z =
      leads_keeps t.next (λ y. shared c.eldest ≡ shared y) (λ a b h p. p ∙ sym (shared_next a b h)) c.eldest z c.right refl in
      omega (arith, rights_none z c.last, shared_first x _ c.first)

  level_previous : (x y : ℕ) → t.previous x ≡ Some y → mirror_level y ≡ mirror_level x + 1
  unfolding mirror_level
  level_previous x y e = let h = l.reversed Previous x y e in omega (arith, shared_next y x h, rights_next y x h)

  level_root : mirror_level 0 ≡ 0
  unfolding mirror_level shared shared_at
  level_root = let s = ap (λ (k : ℕ). shared_at k 0) l.level_root in omega (arith, rights_none 0 l.root_next)

-- Every mirror of a lawful tree is lawful.
module _ (t m : Tree) (l : Laws t) (o : MirrorOf t m) where
  no_last : (x z : ℕ) → t.count ≤ x → LastChild t x z → ⊥
  no_last x z le c = not_both _ c.eldest (l.outside First x le) c.first

  outside' : (a : Axis) (x : ℕ) → t.count ≤ x → along m a x ≡ None
  outside' First x le = absent _ (λ w. no_last x w.0 le ((o.first x w.0).0 w.1))
  outside' Next x le = o.next x ∙ l.outside Previous x le
  outside' Owner x le = absent _ (λ w. let h = last_inside t l w.0 x ((o.owner w.0 x).0 w.1) in omega arith)
  outside' Previous x le = o.previous x ∙ l.outside Next x le

  inside' : (a : Axis) (x y : ℕ) → along m a x ≡ Some y → y < t.count
  inside' First x y e = last_inside t l x y ((o.first x y).0 e)
  inside' Next x y e = l.inside Previous x y (sym (o.next x) ∙ e)
  inside' Owner x y e = starts_inside t l First y _ ((o.owner y x).0 e).first
  inside' Previous x y e = l.inside Next x y (sym (o.previous x) ∙ e)

  reversed' : (a : Axis) (x y : ℕ) → along m a x ≡ Some y → along m (back a) y ≡ Some x
  reversed' First x y e = (o.owner x y).1 ((o.first x y).0 e)
  reversed' Next x y e = o.previous y ∙ l.reversed Previous x y (sym (o.next x) ∙ e)
  reversed' Owner x y e = (o.first y x).1 ((o.owner y x).0 e)
  reversed' Previous x y e = o.next y ∙ l.reversed Next x y (sym (o.previous x) ∙ e)

  one_way_in' : (y : ℕ) → 0 < y → y < t.count → EitherOne (Present (m.owner y)) (Present (m.previous y))
  one_way_in' y pos lt = ⊎_elim
      (λ e. let p = parent_of t l y pos lt e in inl ((p.0, (o.owner p.0 y).1 p.1), λ w. not_both _ w.0 (o.previous y ∙ e) w.1))
      (λ w. inr ((λ v. not_both _ w.0 ((o.owner v.0 y).0 v.1).last w.1), (w.0, o.previous y ∙ w.1)))
      (option_cases (t.next y))

  level_first' : (x y : ℕ) → m.first x ≡ Some y → mirror_level t l y ≡ mirror_level t l x + 1
  level_first' x y e = level_last t l x y ((o.first x y).0 e)

  level_next' : (x y : ℕ) → m.next x ≡ Some y → mirror_level t l y ≡ mirror_level t l x + 1
  level_next' x y e = level_previous t l x y (sym (o.next x) ∙ e)

  level_other' : (y : ℕ) → 0 < y → y < t.count → 0 < mirror_level t l y
  level_other' y pos lt = ⊎_elim
      (λ b. omega (arith, level_first' b.0.0 y (reversed' Owner y b.0.0 b.0.1)))
      (λ b. omega (arith, level_next' b.1.0 y (reversed' Previous y b.1.0 b.1.1)))
      (one_way_in' y pos lt)

  pub laws_of_mirror : Laws m
  laws_of_mirror = record {
    countable = rw o.count l.countable;
    outside = λ a x le. outside' a x (omega (arith, o.count));
    inside = λ a x y e. omega (arith, o.count, inside' a x y e);
    reversed = reversed';
    root_owner = absent _ (λ w. let h = last_not_root t l w.0 0 ((o.owner w.0 0).0 w.1) in omega arith);
    root_previous = o.previous 0 ∙ l.root_next;
    root_next = o.next 0 ∙ l.root_previous;
    one_way_in = λ y pos lt. one_way_in' y pos (omega (arith, o.count));
    level = mirror_level t l;
    level_root = level_root t l;
    level_other = λ y pos lt. level_other' y pos (omega (arith, o.count));
    level_first = level_first';
    level_next = level_next';
  }

pub mirror_laws : (t : Tree) → Laws t → Laws (mirror t)
mirror_laws t l = laws_of_mirror t (mirror t) l (mirror_means t l)
