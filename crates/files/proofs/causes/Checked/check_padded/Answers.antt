use Rattle.std.proofs.Common.{MatchResult, subst}
use Rattle.queries.specs.Admission.{Admissible, Breaks}
use Rattle.files.proofs.Query.{same_rows}
use Rattle.files.proofs.causes.Checked.check_padded.Goals as goal

pub returns : goal.returns
returns c =
    subst (λ r. MatchResult c.check.result (λ _. Admissible r) (Breaks r))
    (same_rows _ _ _ _ _ _ _ c.deref-2.ensures.value c.deref.ensures.value c.padded-terms.ensures c.requires.read c.requires.few)
    c.check.ensures
