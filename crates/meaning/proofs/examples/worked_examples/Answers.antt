use Rattle.meaning.proofs.examples.worked_examples.Goals as goal
use Rattle.meaning.proofs.Worked.{reaches_right, cycle_greatest, cycle_least, itself_greatest, itself_least}

pub returns : goal.returns
returns g c = record {
  reach = reaches_right g.met.G.Grade.laws;
  cycle = (cycle_greatest g.met.G.Grade.laws, cycle_least g.met.G.Grade.laws);
  itself = (itself_greatest g.met.G.Grade.laws, itself_least g.met.G.Grade.laws);
}
