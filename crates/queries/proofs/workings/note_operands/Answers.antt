use Rattle.std.proofs.Common.{◌≡◌, ℕ, ◌<◌, ◌&&◌, eqb, List, map, length, get_or, Some, sym, ap, ◌∙◌, ap₂, arith}
use Rattle.std.proofs.lemmas.List.{get_or-map}
use Rattle.queries.specs.declared.query.entries.TermEntry.{TermEntry}
use Rattle.queries.specs.declared.term.Operands.{Operands}
use Rattle.queries.specs.declared.workings.DealtTerm.{DealtTerm}
use Rattle.queries.specs.Entries.{dealt_of, readers_at}
use Rattle.queries.specs.Operands.{operands_of, either_is}
use Rattle.queries.specs.Workings.{noted, nth_term, no_term}
use Rattle.queries.proofs.Operands.{left_read, right_read}
use Rattle.queries.proofs.Readers.{noted_twice}
use Rattle.queries.proofs.workings.note_operands.Goals as goal

-- the operands of an entry's term
operands_at : (es : List TermEntry) (i : ℕ) (d : TermEntry) (o : Operands) → i < length es → Some o ≡ operands_of (get_or es i d).term → operands_of (nth_term (map dealt_of es) i).term ≡ Some o
operands_at es i d o h e = ap (λ (x : DealtTerm). operands_of x.term) (get_or-map dealt_of es i d no_term h) ∙ sym e

pub note_within-requires-clause-read : goal.note_within-requires-clause-read
note_within-requires-clause-read c =
    let o = c.in-Some.operands in
    c.requires.operands o.left (left_read _ o (operands_at c.args.entries.now c.args.reader c.index-entries-reader.result o c.requires.reader c.in-Some.ensures))

pub note_within-requires-then-operands-clause-read : goal.note_within-requires-then-operands-clause-read
note_within-requires-then-operands-clause-read c =
    let o = c.in-Some.operands in
    let there = c.requires.operands o.right (right_read _ o (operands_at c.args.entries.now c.args.reader c.index-entries-reader.result o c.requires.reader c.in-Some.ensures)) in
    omega (arith, there, c.note_within.auto.entries)

pub returns-in_ok-note_within-2-clause-readers : goal.returns-in_ok-note_within-2-clause-readers
returns-in_ok-note_within-2-clause-readers c t =
    let es = c.args.entries.now in
    let o = c.in-Some.operands in
    let same_block = λ (ds : List DealtTerm). eqb (nth_term ds c.args.reader).block (nth_term ds t).block in
    let first = c.in_ok-note_within.ensures in
    c.in_ok-note_within-2.ensures.readers t
    ∙ ap₂ (λ ds l. noted (same_block ds && eqb o.right t) l c.args.reader) first.dealt (first.readers t)
    ∙ noted_twice (same_block (map dealt_of es)) o.left o.right t c.args.reader (readers_at es t) (λ same. omega (arith, c.if-operands.true))
    ∙ ap (λ p. noted (same_block (map dealt_of es) && either_is p t) (readers_at es t) c.args.reader) (sym (operands_at es c.args.reader c.index-entries-reader.result o c.requires.reader c.in-Some.ensures))
