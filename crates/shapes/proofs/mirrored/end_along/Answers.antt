use Rattle.std.proofs.Common.{sym, ◌∙◌}
use Rattle.shapes.specs.Mirrors.Leads.{here}
use Rattle.shapes.specs.Trees.{to_go_falls, end_is}
use Rattle.shapes.specs.Walks.{leads_more}
use Rattle.shapes.proofs.mirrored.end_along.Goals as goal

pub loop-further-init : goal.loop-further-init
loop-further-init g c = here c.args.node

pub loop-further-smaller : goal.loop-further-smaller
loop-further-smaller g c = to_go_falls _ (g.met.S.Shape.laws c.args.shape.now) c.args.axis _ _ (sym c.neighbour.ensures ∙ c.in-Some.is)

pub loop-further-preserved : goal.loop-further-preserved
loop-further-preserved g c = leads_more _ _ _ _ c.loop-further.invariant (sym c.neighbour.ensures ∙ c.in-Some.is)

pub returns : goal.returns
returns g c =
    end_is _ (g.met.S.Shape.laws c.args.shape.now) c.args.axis _ _ c.loop-further.invariant (sym c.neighbour.ensures ∙ c.in_default.is)
