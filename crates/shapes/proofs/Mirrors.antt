-- The mirror of the mirror of a lawful tree is the first tree.
use Rattle.std.specs.Prelude.{◌≡◌, ℕ, Some, None, Option}
use Rattle.std.proofs.Math.Path.{refl, sym, ap, fun_ext}
use Rattle.std.proofs.Common.{subst, ◌∙◌}
use Rattle.shapes.specs.declared.axis.Axis.{Axis}
use Rattle.shapes.specs.declared.axis.Axis.TheVariants.{First, Next, Owner, Previous}
use Rattle.shapes.specs.Tree.{Tree, Laws, Iff, SameTree, along}
use Rattle.shapes.specs.Mirrors.{Leads, LastChild, MirrorOf, walk_end, mirror}
use Rattle.shapes.specs.Walks.{not_both, absent, walk_leads, leads_back, one_end}
use Rattle.shapes.specs.Trees.{child_first}
use Rattle.shapes.specs.MirrorLaws.{last_of, to_eldest, mirror_means, mirror_laws}

-- options with the same answers
pub same_answers : (o o' : Option ℕ) → ((y : ℕ) → Iff (o ≡ Some y) (o' ≡ Some y)) → o ≡ o'
same_answers o None h = absent o (λ w. not_both None w.0 refl ((h w.0).0 w.1))
same_answers o (Some y) h = (h y).1 refl

-- A mirror of a mirror is the first tree.
module _ (t m u : Tree) (l : Laws t) (o : MirrorOf t m) (o' : MirrorOf m u) where
  -- the last child in the mirror is the first child
  last_back : (x z : ℕ) → LastChild m x z → t.first x ≡ Some z
  last_back x z c =
      let d : LastChild t x c.eldest = (o.first x c.eldest).0 c.first in
      let r : Leads t.previous c.eldest z = subst (λ f. Leads f c.eldest z) (fun_ext o.next) c.right in
      let s : d.eldest ≡ z = one_end t.previous c.eldest _ z (to_eldest t l x _ d) (child_first t l x _ d.first).1 r (sym (o.next z) ∙ c.last) in
      d.first ∙ ap Some s

  first_back : (x z : ℕ) → t.first x ≡ Some z → LastChild m x z
  first_back x z e =
      let w : ℕ = walk_end t.next t.count z in
      let r : Leads t.previous w z = leads_back t.next t.previous (l.reversed Next) z w (walk_leads t.next t.count z) in
      record {
        eldest = w;
        first = (o.first x w).1 (last_of t l x z e);
        right = subst (λ f. Leads f w z) (sym (fun_ext o.next)) r;
        last = o.next z ∙ (child_first t l x z e).1;
      }

  pub mirrored_back : SameTree u t
  mirrored_back = record { count = o'.count ∙ o.count; maps = maps }
    where
      first_same : (x z : ℕ) → Iff (u.first x ≡ Some z) (t.first x ≡ Some z)
      first_same x z = ((λ e. last_back x z ((o'.first x z).0 e)), (λ e. (o'.first x z).1 (first_back x z e)))

      owner_same : (z x : ℕ) → Iff (u.owner z ≡ Some x) (t.owner z ≡ Some x)
      owner_same z x = (
        (λ e. l.reversed First x z (last_back x z ((o'.owner x z).0 e))),
        (λ e. (o'.owner x z).1 (first_back x z (l.reversed Owner z x e))),
      )

      maps : (a : Axis) (x : ℕ) → along u a x ≡ along t a x
      maps First x = same_answers _ _ (first_same x)
      maps Next x = o'.next x ∙ o.previous x
      maps Owner x = same_answers _ _ (owner_same x)
      maps Previous x = o'.previous x ∙ o.next x

pub mirror_twice : (t : Tree) → Laws t → SameTree (mirror (mirror t)) t
mirror_twice t l = mirrored_back t (mirror t) (mirror (mirror t)) l (mirror_means t l) (mirror_means (mirror t) (mirror_laws t l))
