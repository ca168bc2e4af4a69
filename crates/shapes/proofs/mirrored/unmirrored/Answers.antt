use Rattle.std.proofs.Common.{◌≡◌, sym, ap, ◌∙◌, subst}
use Rattle.shapes.specs.Mirrored.{mirrored}
use Rattle.shapes.specs.Shapes.{tree_of}
use Rattle.shapes.specs.Tree.{SameTree}
use Rattle.shapes.proofs.Mirrors.{mirror_twice}
use Rattle.shapes.proofs.mirrored.unmirrored.Goals as goal

pub returns-clause-same : goal.returns-clause-same
returns-clause-same g c =
    let s = c.args.twice.shape.shape in
    let e : c.into_inner-2.result ≡ s = c.into_inner-2.ensures ∙ ap (λ m. m.shape) c.into_inner.ensures in
    subst (λ r. SameTree (tree_of (mirrored (mirrored g.S.Shape)) c.args.twice) (tree_of g.S.Shape r)) (sym e) (mirror_twice _ (g.met.S.Shape.laws s))
