use Rattle.std.proofs.Common.{◌-◌, subst, arith}
use Rattle.queries.specs.declared.refusal.QueryRefusal.TheVariants.{BadBlock, BlockSum}
use Rattle.queries.specs.Admission.{Breaks}
use Rattle.files.specs.Causes.{rows_in, block, sum}
use Rattle.files.specs.Contents.{contents_of}
use Rattle.files.proofs.Query.{blocks_there, block_found, term_refused, missing_pass}
use Rattle.files.proofs.causes.Checked.refused_line.Goals as goal

pub returns-in-BadBlock : goal.returns-in-BadBlock
returns-in-BadBlock c =
    let it = contents_of c.args.self.contents.now in
    let b : Breaks (rows_in it) (BadBlock c.in-BadBlock.block) = subst (Breaks (rows_in it)) c.in-BadBlock.is c.requires.breaks in
    rw (c.in-BadBlock.is, c.line_of_block.ensures) (block_found c.args.self.room it c.requires.checked c.in-BadBlock.block b.1 (block b.2) b.3)

pub returns-in-BlockSum : goal.returns-in-BlockSum
returns-in-BlockSum c =
    let it = contents_of c.args.self.contents.now in
    let b : Breaks (rows_in it) BlockSum = subst (Breaks (rows_in it)) c.in-BlockSum.is c.requires.breaks in
    let there = blocks_there c.args.self.room it c.requires.checked (omega (arith, c.if-blocks-self.true)) in
    rw (c.in-BlockSum.is, c.line_of_block-in-BlockSum.ensures) (block_found c.args.self.room it c.requires.checked (c.len-blocks.result - 1)
    (omega (arith, c.requires.checked.head.fits.some_block, there.1))
    (sum (omega (arith, c.requires.checked.head.fits.some_block, there.1)) there b.2)
    (λ k h. b.1 k (omega arith)))

pub returns-in-BlockSum-2 : goal.returns-in-BlockSum-2
returns-in-BlockSum-2 c =
    let it = contents_of c.args.self.contents.now in
    let b : Breaks (rows_in it) BlockSum = subst (Breaks (rows_in it)) c.in-BlockSum-2.is c.requires.breaks in
    missing_pass c.args.self.room it c.requires.checked b.1 (λ e. c.if-blocks-self.false (omega arith))

pub returns-in-BadTerm : goal.returns-in-BadTerm
returns-in-BadTerm c =
    rw c.line_of_term.ensures (term_refused c.args.self.room (contents_of c.args.self.contents.now) c.requires.checked c.args.why c.in-BadTerm.term c.in-BadTerm.is c.requires.breaks)
