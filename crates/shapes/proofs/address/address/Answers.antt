use Rattle.std.proofs.Common.{sym, ◌∙◌, arith}
use Rattle.shapes.specs.declared.axis.Axis.TheVariants.{Owner, Previous}
use Rattle.shapes.proofs.Addresses.{sibling_tree}
use Rattle.shapes.proofs.Spelling.{start, to_previous, to_owner, fits}
use Rattle.shapes.specs.Trees.{to_go, to_go_falls}
use Rattle.shapes.proofs.address.address.Goals as goal

pub loop-left-init : goal.loop-left-init
loop-left-init g c = rw c.new-word.ensures.items (start _ (g.met.S.Shape.laws c.args.shape.now) c.args.node)

pub overflow_add-position : goal.overflow_add-position
overflow_add-position g c = omega (arith, fits _ _ _ _ _ _ c.loop-left.invariant _ (sym c.previous_of.ensures ∙ c.in-Some.is))

pub loop-left-smaller-in-Some : goal.loop-left-smaller-in-Some
unfolding to_go
loop-left-smaller-in-Some g c = to_go_falls _ (g.met.S.Shape.laws c.args.shape.now) Previous _ _ (sym c.previous_of.ensures ∙ c.in-Some.is)

pub loop-left-preserved-in-Some : goal.loop-left-preserved-in-Some
loop-left-preserved-in-Some g c = to_previous _ _ _ _ _ _ c.loop-left.invariant _ (sym c.previous_of.ensures ∙ c.in-Some.is)

pub loop-left-smaller : goal.loop-left-smaller
unfolding to_go
loop-left-smaller g c = to_go_falls _ (g.met.S.Shape.laws c.args.shape.now) Owner _ _ (sym c.owner_of.ensures ∙ c.in-Some-owner_of.is)

pub loop-left-preserved : goal.loop-left-preserved
loop-left-preserved g c =
    rw c.in_ok-push.ensures.items (to_owner _ _ _ _ _ _ c.loop-left.invariant _ (sym c.owner_of.ensures ∙ c.in-Some-owner_of.is))

pub returns-in_err-push-clause-sibling_tree : goal.returns-in_err-push-clause-sibling_tree
returns-in_err-push-clause-sibling_tree g c = sibling_tree _ (g.met.S.Shape.laws c.args.shape.now)

pub returns-in_default-owner_of-clause-sibling_tree : goal.returns-in_default-owner_of-clause-sibling_tree
returns-in_default-owner_of-clause-sibling_tree g c = sibling_tree _ (g.met.S.Shape.laws c.args.shape.now)
