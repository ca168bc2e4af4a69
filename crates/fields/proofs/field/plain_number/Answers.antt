use Rattle.std.proofs.Common.{◌≡◌, ◌<◌, length, get_or, ap, arith, rules}
use Rattle.std.proofs.lemmas.Fmt.{decimal_nonempty, digits_decimal}
use Rattle.fields.proofs.Blanks.{own, plain, no_zero_before, cases_weaker}
use Rattle.fields.proofs.field.plain_number.Goals as goal

pub returns-in-empty : goal.returns-in-empty
returns-in-empty c n small e = omega (arith, ap length e, decimal_nonempty n small)

pub returns-in-48 : goal.returns-in-48
returns-in-48 c n small e = no_zero_before c.args.digits.now n small (omega arith) (search rules) e

pub returns-in_default : goal.returns-in_default
returns-in_default c =
    cases_weaker c.number_of.result c.number_of.ensures
    (λ other n small e. other (rw e (digits_decimal own n small)))
    (λ n h. rw h.1 (plain c.args.digits.now c.requires some lead h.0))
  where
    some : 0 < length c.args.digits.now
    some = search rules

    lead : (1 < length c.args.digits.now) × (get_or c.args.digits.now 0 0 ≡ 48) → ⊥
    lead (many, zero-first) = grind arith
