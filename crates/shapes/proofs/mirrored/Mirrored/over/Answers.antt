use Rattle.shapes.specs.MirrorLaws.{mirror_means}
use Rattle.shapes.proofs.mirrored.Mirrored.over.Goals as goal

pub returns-clause-mirrors : goal.returns-clause-mirrors
returns-clause-mirrors g c = mirror_means _ (g.met.S.Shape.laws c.args.shape)
