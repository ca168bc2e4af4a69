use Rattle.std.proofs.Common.{length, sym, subst, arith}
use Rattle.shapes.specs.Certified.{Certified}
use Rattle.shapes.specs.Tree.{Countable}
use Rattle.shapes.proofs.Verdicts.{one_node}
use Rattle.shapes.proofs.linked.LinkedShape.new.Goals as goal

pub invariant_of-result : goal.invariant_of-result
invariant_of-result c =
    let e = sym c.in_ok-rows.ensures.items in
    record { count = subst (λ rows. Countable (length rows)) e (omega arith); lawful = subst Certified e one_node }
