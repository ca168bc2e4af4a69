use Rattle.std.proofs.Common.{◌∙◌}
use Rattle.std.proofs.lemmas.List.{take_rest}
use Rattle.fields.proofs.Blanks.{shows, shown, cases_weaker}
use Rattle.fields.proofs.field.number_in.Goals as goal

pub returns : goal.returns
returns c =
    let field = c.args.field.now in
    let k = c.blanks.result in
    let e = c.blanks.ensures in
    cases_weaker c.plain_number.result c.plain_number.ensures
    (λ none n s. let h = shown field k n e.within e.before e.after s in none n h.0 (take_rest field k ∙ h.1))
    (λ n h. shows field k n c.if-field-gt-WIDEST.false e.within e.before (rw take_rest at h))
