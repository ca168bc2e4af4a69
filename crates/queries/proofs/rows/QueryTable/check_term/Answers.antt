use Rattle.std.proofs.Common.{refl, arith}
use Rattle.std.proofs.lemmas.Bool.{false≢true}
use Rattle.queries.specs.Rows.{rows_of, told}
use Rattle.queries.proofs.Rules.{stands_there, stands_not, later_there, later_not, turn_there, turn_here}
use Rattle.queries.proofs.rows.QueryTable.check_term.Goals as goal

pub returns-then-not-stands : goal.returns-then-not-stands
returns-then-not-stands c = (omega arith, stands_not (rows_of c.args.self) c.args.i c.requires.term c.in-Ok.term c.in-Ok.ensures c.if-not-stands.ensures)

pub returns-then-not-reads_up_to : goal.returns-then-not-reads_up_to
returns-then-not-reads_up_to c =
    let r = rows_of c.args.self in (
      omega arith,
      stands_there r c.args.i c.requires.term c.in-Ok.term c.in-Ok.ensures c.if-not-stands.ensures,
      later_not r c.args.i c.requires.term c.in-Ok.term c.in-Ok.ensures (c.if-not-reads_up_to.ensures (told r) _ c.requires.span),
    )

pub returns-then-not-turns_before : goal.returns-then-not-turns_before
returns-then-not-turns_before c =
    let r = rows_of c.args.self in (
      omega arith,
      stands_there r c.args.i c.requires.term c.in-Ok.term c.in-Ok.ensures c.if-not-stands.ensures,
      later_there r c.args.i c.requires.term c.in-Ok.term c.in-Ok.ensures (c.if-not-reads_up_to.ensures (told r) _ c.requires.span),
      λ h. false≢true ((c.if-not-turns_before.ensures (told r) _ c.requires.span).1 (turn_here r c.args.i c.requires.term c.in-Ok.term c.in-Ok.ensures h)),
    )

pub returns : goal.returns
returns c =
    let r = rows_of c.args.self in
    record {
      stands = stands_there r c.args.i c.requires.term c.in-Ok.term c.in-Ok.ensures c.if-not-stands.ensures;
      no_later_block = later_there r c.args.i c.requires.term c.in-Ok.term c.in-Ok.ensures (c.if-not-reads_up_to.ensures (told r) _ c.requires.span);
      turn_earlier = turn_there r c.args.i c.requires.term c.in-Ok.term c.in-Ok.ensures ((c.if-not-turns_before.ensures (told r) _ c.requires.span).0 refl);
    }
