use Rattle.meaning.proofs.theorems.one_meaning.Goals as goal
use Rattle.meaning.proofs.Monotone.{Lawful}
use Rattle.meaning.proofs.Blocks.{blockwise_stands, blockwise_unique}

pub returns : goal.returns
returns g c t q nodes admitted marks =
    let lawful : Lawful g.G.Grade.kind t q = record { kind = g.met.G.Grade.laws; tree = nodes; admitted = admitted } in
    (blockwise_stands lawful marks, blockwise_unique lawful marks)
