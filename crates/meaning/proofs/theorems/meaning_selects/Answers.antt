use Rattle.meaning.proofs.theorems.meaning_selects.Goals as goal
use Rattle.meaning.proofs.Selections.{selects, one_selection}

pub returns : goal.returns
returns c = record { selects = selects; one = one_selection }
