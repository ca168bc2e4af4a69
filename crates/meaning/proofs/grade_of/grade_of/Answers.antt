use Rattle.std.proofs.Common.{◌<◌, length, Some, None, refl, ap, ap₂, ◌∙◌}
use Rattle.meaning.specs.Tables.{place, grades_in}
use Rattle.meaning.proofs.Tables.{answered, there_as}
use Rattle.meaning.proofs.grade_of.grade_of.Goals as goal

pub returns-in-Mark : goal.returns-in-Mark
returns-in-Mark g c =
    answered g.G.Grade.kind _ _ _ c.node_count-nodes.ensures c.in-Mark.is c.if-node-nodes.false c.at.result refl c.at.ensures

pub returns-in_err-at-in-Turn : goal.returns-in_err-at-in-Turn
returns-in_err-at-in-Turn g c =
    answered g.G.Grade.kind _ _ _ c.node_count-nodes.ensures c.in-Turn.is c.if-node-nodes.false
    None c.from_residual.ensures c.in_err-at-in-Turn.ensures

pub returns-in_ok-at-in-Turn : goal.returns-in_ok-at-in-Turn
returns-in_ok-at-in-Turn g c =
    answered g.G.Grade.kind _ _ _ c.node_count-nodes.ensures c.in-Turn.is c.if-node-nodes.false
    (Some c.turn.result) refl (c.in_ok-at-in-Turn.ensures.0, c.turn.ensures ∙ ap g.G.Grade.kind.turned c.in_ok-at-in-Turn.ensures.1)

pub returns-in_err-at-in-Meet : goal.returns-in_err-at-in-Meet
returns-in_err-at-in-Meet g c =
    answered g.G.Grade.kind _ _ _ c.node_count-nodes.ensures c.in-Meet.is c.if-node-nodes.false
    None c.from_residual-in_err-at-in-Meet.ensures (λ h. c.in_err-at-in-Meet.ensures h.0)

pub returns-in_err-at-in-Meet-2 : goal.returns-in_err-at-in-Meet-2
returns-in_err-at-in-Meet-2 g c =
    answered g.G.Grade.kind _ _ _ c.node_count-nodes.ensures c.in-Meet.is c.if-node-nodes.false
    None c.from_residual-in_err-at-in-Meet-2.ensures (λ h. c.in_err-at-in-Meet-2.ensures h.1)

pub returns-in_ok-at-in-Meet-2 : goal.returns-in_ok-at-in-Meet-2
returns-in_ok-at-in-Meet-2 g c =
    answered g.G.Grade.kind _ _ _ c.node_count-nodes.ensures c.in-Meet.is c.if-node-nodes.false
    (Some c.meet.result) refl
    ((c.in_ok-at-in-Meet.ensures.0, c.in_ok-at-in-Meet-2.ensures.0), c.meet.ensures ∙ ap₂ g.G.Grade.kind.met c.in_ok-at-in-Meet.ensures.1 c.in_ok-at-in-Meet-2.ensures.1)

pub returns-in_err-at-in-Join : goal.returns-in_err-at-in-Join
returns-in_err-at-in-Join g c =
    answered g.G.Grade.kind _ _ _ c.node_count-nodes.ensures c.in-Join.is c.if-node-nodes.false
    None c.from_residual-in_err-at-in-Join.ensures (λ h. c.in_err-at-in-Join.ensures h.0)

pub returns-in_err-at-in-Join-2 : goal.returns-in_err-at-in-Join-2
returns-in_err-at-in-Join-2 g c =
    answered g.G.Grade.kind _ _ _ c.node_count-nodes.ensures c.in-Join.is c.if-node-nodes.false
    None c.from_residual-in_err-at-in-Join-2.ensures (λ h. c.in_err-at-in-Join-2.ensures h.1)

pub returns-in_ok-at-in-Join-2 : goal.returns-in_ok-at-in-Join-2
returns-in_ok-at-in-Join-2 g c =
    answered g.G.Grade.kind _ _ _ c.node_count-nodes.ensures c.in-Join.is c.if-node-nodes.false
    (Some c.join.result) refl
    ((c.in_ok-at-in-Join.ensures.0, c.in_ok-at-in-Join-2.ensures.0), c.join.ensures ∙ ap₂ g.G.Grade.kind.joined c.in_ok-at-in-Join.ensures.1 c.in_ok-at-in-Join-2.ensures.1)

pub returns-in-SomeNeighbour : goal.returns-in-SomeNeighbour
returns-in-SomeNeighbour g c =
    answered g.G.Grade.kind _ _ _ c.node_count-nodes.ensures c.in-SomeNeighbour.is c.if-node-nodes.false
    c.at_neighbour.result refl
    (there_as c.at_neighbour.result
    (λ y. place c.node_count-nodes.result c.in-SomeNeighbour.a y < length c.args.values.now)
    (grades_in g.G.Grade.kind c.node_count-nodes.result c.args.values.now c.in-SomeNeighbour.a)
    c.neighbour.ensures c.lowest.ensures c.at_neighbour.ensures)

pub returns-in-EveryNeighbour : goal.returns-in-EveryNeighbour
returns-in-EveryNeighbour g c =
    answered g.G.Grade.kind _ _ _ c.node_count-nodes.ensures c.in-EveryNeighbour.is c.if-node-nodes.false
    c.at_neighbour-in-EveryNeighbour.result refl
    (there_as c.at_neighbour-in-EveryNeighbour.result
    (λ y. place c.node_count-nodes.result c.in-EveryNeighbour.a y < length c.args.values.now)
    (grades_in g.G.Grade.kind c.node_count-nodes.result c.args.values.now c.in-EveryNeighbour.a)
    c.neighbour-in-EveryNeighbour.ensures c.highest.ensures c.at_neighbour-in-EveryNeighbour.ensures)

pub returns-in-Lowest : goal.returns-in-Lowest
returns-in-Lowest g c =
    answered g.G.Grade.kind _ _ _ c.node_count-nodes.ensures c.in-Lowest.is c.if-node-nodes.false
    (Some c.lowest-in-Lowest.result) refl (tt, c.lowest-in-Lowest.ensures)

pub returns-in-Highest : goal.returns-in-Highest
returns-in-Highest g c =
    answered g.G.Grade.kind _ _ _ c.node_count-nodes.ensures c.in-Highest.is c.if-node-nodes.false
    (Some c.highest-in-Highest.result) refl (tt, c.highest-in-Highest.ensures)
