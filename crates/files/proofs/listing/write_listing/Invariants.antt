use Rattle.std.proofs.Common.{◌≢◌, length, get_or}
use Rattle.files.specs.Listings.{answer_line, selected_line}
use Rattle.files.proofs.Listings.{WrittenBelow}
use Rattle.files.proofs.listing.write_listing.Given as goal

-- the lines of the nodes so far whose grade is not the lowest are written
abbrev pub invariant-loop-node : goal.invariant-loop-node
invariant-loop-node g l =
    let lowest = g.G.Grade.kind.lowest in
    WrittenBelow (λ x. get_or l.row x lowest ≢ lowest) (answer_line (length l.row) l.steps) (selected_line (λ x. g.G.FiledGrade.number (get_or l.row x lowest)))
    l.node l.fn.output l.output l.at l.count
