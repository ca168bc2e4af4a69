use Rattle.std.proofs.Common.{refl, vec_items}
use Rattle.surveys.proofs.Conducts.{of_call, of_row, kept_refused, kept_none}
use Rattle.surveys.proofs.survey.Survey.make.Goals as goal

pub returns-in_err-altered-in-Retag : goal.returns-in_err-altered-in-Retag
returns-in_err-altered-in-Retag g c = kept_refused _ _ c.from_residual.result _ c.from_residual.ensures.1 (λ m. of_call c.args.call _ c.in-Retag.is (c.in_err-altered-in-Retag.ensures.rules m))

pub returns-in_ok-altered-in-Retag : goal.returns-in_ok-altered-in-Retag
returns-in_ok-altered-in-Retag g c m = of_call c.args.call _ c.in-Retag.is (c.in_ok-altered-in-Retag.ensures.rules m)

pub returns-in_err-all-in-Step : goal.returns-in_err-all-in-Step
returns-in_err-all-in-Step g c = kept_refused _ _ c.from_residual-in_err-all-in-Step.result _ c.from_residual-in_err-all-in-Step.ensures.1 (λ m. of_call c.args.call _ c.in-Step.is (c.in_err-all-in-Step.ensures.rules m))

pub returns-in_ok-all-in-Step : goal.returns-in_ok-all-in-Step
returns-in_ok-all-in-Step g c m = of_call c.args.call _ c.in-Step.is (c.in_ok-all-in-Step.ensures.rules m)

pub returns-in_ok-steps-in-Run : goal.returns-in_ok-steps-in-Run
returns-in_ok-steps-in-Run g c m = of_call c.args.call _ c.in-Run.is (c.in_ok-steps-in-Run.ensures.rules m)

pub returns-in_err-row-in-Read : goal.returns-in_err-row-in-Read
returns-in_err-row-in-Read g c =
    kept_refused _ _ c.from_residual-in_err-row-in-Read.result _ c.from_residual-in_err-row-in-Read.ensures.1
    (λ m. of_call c.args.call _ c.in-Read.is (λ s st. (s, (c.in_err-row-in-Read.ensures.rules m s _ _ st, st))))

pub returns-in_ok-from_slice-in-Read : goal.returns-in_ok-from_slice-in-Read
returns-in_ok-from_slice-in-Read g c m =
    of_call c.args.call _ c.in-Read.is
    (λ s st. (s, (of_row (vec_items c.in_ok-from_slice-in-Read.field-0) _ g.G.Grade.kind.lowest c.in_ok-from_slice-in-Read.ensures.items (c.in_ok-row-in-Read.ensures.rules m s _ _ st), st)))

pub returns-in_err-from_slice-in-Read : goal.returns-in_err-from_slice-in-Read
returns-in_err-from_slice-in-Read g c =
    kept_none _ _ c.from_residual-in_err-from_slice-in-Read.result c.from_residual-in_err-from_slice-in-Read.ensures.1
    (record {
      term = _;
      reading = c.in-Read.is;
      row = _;
      answered = λ m. of_call c.args.call _ c.in-Read.is (λ s st. (s, (c.in_ok-row-in-Read.ensures.rules m s _ _ st, st)));
      unaltered = (refl, refl);
    })
