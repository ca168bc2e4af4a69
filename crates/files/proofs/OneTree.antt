-- Contents have one tree, and rows of marks one table of grades.
use Rattle.std.proofs.Common.{◌≡◌, ℕ, List, sym, ◌∙◌, subst}
use Rattle.std.proofs.Math.Path.{fun_ext}
use Rattle.grades.specs.Filed.{Numbered}
use Rattle.shapes.specs.declared.axis.Axis.{Axis}
use Rattle.shapes.specs.declared.axis.Axis.TheVariants.{First, Next, Owner, Previous}
use Rattle.shapes.specs.Depths.{DepthTree}
use Rattle.shapes.specs.Mirrors.{MirrorOf}
use Rattle.shapes.specs.Tree.{Tree, Iff, SameTree, along}
use Rattle.shapes.proofs.Mirrors.{same_answers}
use Rattle.meaning.specs.Solutions.{Grades}
use Rattle.files.specs.declared.head.Hand.{Hand}
use Rattle.files.specs.declared.head.Hand.TheVariants.{AsListed, Mirrored}
use Rattle.files.specs.declared.rows.MarkRow.{MarkRow}
use Rattle.files.specs.Contents.{Contents}
use Rattle.files.specs.Files.{TreeOf}
use Rattle.files.specs.Listings.{Filed}
use Rattle.files.specs.Settling.{MarksOf}

-- trees that are the same are equal
equal_tree : {s t : Tree} → SameTree s t → s ≡ t
equal_tree same = λ i. record { count = same.count i; first = fun_ext (same.maps First) i; next = fun_ext (same.maps Next) i; owner = fun_ext (same.maps Owner) i; previous = fun_ext (same.maps Previous) i }

both_ways : {A B C : Type 0} → Iff A C → Iff B C → Iff A B
both_ways p q = ((λ a. q.1 (p.0 a)), (λ b. p.1 (q.0 b)))

one_depth_tree : (ds : List ℕ) (s t : Tree) → DepthTree ds s → DepthTree ds t → SameTree s t
one_depth_tree ds s t d e = record { count = d.count ∙ sym e.count; maps = λ a x. same_answers _ _ (λ y. both_ways (d.maps a x y) (e.maps a x y)) }

one_mirror : (t m n : Tree) → MirrorOf t m → MirrorOf t n → SameTree m n
one_mirror t m n o p = record { count = o.count ∙ sym p.count; maps = maps }
  where
    maps : (a : Axis) (x : ℕ) → along m a x ≡ along n a x
    maps First x = same_answers _ _ (λ y. both_ways (o.first x y) (p.first x y))
    maps Next x = o.next x ∙ sym (p.next x)
    maps Owner x = same_answers _ _ (λ y. both_ways (o.owner y x) (p.owner y x))
    maps Previous x = o.previous x ∙ sym (p.previous x)

pub one_tree : (c : Contents) (h : Hand) (s t : Tree) → TreeOf c h s → TreeOf c h t → s ≡ t
one_tree c AsListed s t d e = equal_tree (one_depth_tree _ s t d e)
one_tree c Mirrored s t (u, d) (v, e) = equal_tree (one_mirror u s t d.1 (subst (λ w. MirrorOf w t) (equal_tree (one_depth_tree _ v u e.0 d.0)) e.1))

pub one_marking : {G : Type 0} (k : Filed G) → Numbered k.number → (rows : List MarkRow) (m n : Grades G) → MarksOf k rows m → MarksOf k rows n → m ≡ n
one_marking k numbered rows m n p q = fun_ext (λ a. fun_ext (λ x. numbered.apart _ _ (p a x ∙ sym (q a x))))
