use Rattle.std.proofs.Common.{◌++◌, length, ap₂}
use Rattle.std.proofs.lemmas.List.{drop-replicate}
use Rattle.files.specs.Causes.{lowest_row}
use Rattle.files.proofs.causes.query.padded.Goals as goal

pub returns : goal.returns
returns c = ap₂ (λ xs ys. xs ++ ys) c.copy_from_slice.ensures.after (drop-replicate (length c.args.terms.now) 64 lowest_row)
