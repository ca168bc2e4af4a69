use Rattle.std.proofs.Common.{[], ◌∷◌, ap, ◌∙◌, arith, rules}
use Rattle.files.specs.Lines.{ColumnsFit}
use Rattle.files.proofs.Columns.{length_line}
use Rattle.files.proofs.listing.write_fault.Goals as goal

pub prove-unreachable-requires : goal.prove-unreachable-requires
prove-unreachable-requires c =
    let columns = c.narrow.result ∷ (c.narrow-2.result ∷ []) in
    let fit : ColumnsFit columns = search rules in
    c.if-prove.true (omega (arith, c.put_line-size.ensures.size ∙ length_line 70 columns fit, ap (λ x. x.width) c.narrow.ensures, ap (λ x. x.width) c.narrow-2.ensures))
