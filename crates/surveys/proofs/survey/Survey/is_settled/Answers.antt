use Rattle.std.proofs.Common.{false, unwrap_or, ap, ◌∙◌}
use Rattle.surveys.proofs.Evaluation.{flag_found}
use Rattle.surveys.proofs.survey.Survey.is_settled.Goals as goal

pub returns : goal.returns
returns c = c.unwrap_or.ensures ∙ (ap (λ o. unwrap_or o false) c.copied.ensures ∙ flag_found c.args.self.now.settled c.args.block c.get.result c.get.ensures.lookup)
