use Rattle.std.proofs.Common.{◌≡◌, ◌<◌, subst}
use Rattle.std.proofs.lemmas.Bool.{ltb-true, lt-ltb}
use Rattle.queries.proofs.Tested.{before_first, first_before}
use Rattle.queries.proofs.admission.turns_before.Goals as goal

pub returns-in-Turn : goal.returns-in-Turn
returns-in-Turn c q block of = (
  λ t a e. let same : c.in-Turn.a ≡ a = cc in before_first q block c.args.span of a (subst (λ n. n < c.args.span.first) same (ltb-true _ _ t)),
  λ h. lt-ltb c.in-Turn.a c.args.span.first (first_before q block c.args.span of c.in-Turn.a (h c.in-Turn.a c.in-Turn.is)),
)
