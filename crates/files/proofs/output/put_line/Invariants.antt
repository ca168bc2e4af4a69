use Rattle.std.proofs.Common.{◌≡◌, ◌∷◌, length, take}
use Rattle.files.specs.Listings.{Writes}
use Rattle.files.specs.Lines.{columns_text}
use Rattle.files.proofs.output.put_line.Given as goal

-- the letter and the columns so far are written
abbrev pub invariant-loop-width : goal.invariant-loop-width
invariant-loop-width l = record {
  is_at : l.at ≡ length (l.fn.letter ∷ columns_text (take l.width-index l.fn.columns));
  writes : Writes l.fn.output l.output (l.fn.letter ∷ columns_text (take l.width-index l.fn.columns));
}
