use Rattle.std.proofs.Common.{refl, inl, inr, arith}
use Rattle.std.proofs.lemmas.Bool.{false≢true}
use Rattle.files.proofs.Firsts.{grade_first, mark_first}
use Rattle.files.proofs.rows.MarkRow.check.Goals as goal

pub returns-then-not-has : goal.returns-then-not-has
returns-then-not-has c = rw c.into.ensures (grade_first c.args.head c.args.self (λ g. false≢true (c.if-not-has.ensures.1 g)))

pub returns-then-self-head : goal.returns-then-self-head
returns-then-self-head c =
    rw c.into-then-self-head.ensures (mark_first c.args.head c.args.self (c.if-not-has.ensures.0 refl) (λ s. elim c.then-self-head.either [
      | inl h ↦ omega (arith, s.node)
      | inr h ↦ omega (arith, s.tag, h)
    ]))
