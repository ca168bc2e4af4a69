use Rattle.meaning.proofs.theorems.meaning_carried.Goals as goal
use Rattle.meaning.proofs.Transfer.{blockwise_mapped}

pub returns : goal.returns
returns g c h keeps t q nodes admitted marks v =
    blockwise_mapped h keeps
    (record { kind = g.met.G.Grade.laws; tree = nodes; admitted = admitted })
    (record { kind = g.met.H.Grade.laws; tree = nodes; admitted = admitted })
    marks v
