use Rattle.std.proofs.Common.{refl, arith}
use Rattle.std.proofs.lemmas.Bool.{false≢true}
use Rattle.files.proofs.Firsts.{shape_first, query_first, room_first}
use Rattle.files.proofs.head.Head.check.Goals as goal

pub returns-then-not-is_countable : goal.returns-then-not-is_countable
returns-then-not-is_countable c = rw c.into.ensures (shape_first c.args.room c.args.self (λ s. false≢true (c.if-not-is_countable.ensures.1 s)))

pub returns-then-self-gt-MOST_TAGS : goal.returns-then-self-gt-MOST_TAGS
returns-then-self-gt-MOST_TAGS c =
    rw c.into-then-self-gt-MOST_TAGS.ensures
    (query_first c.args.room c.args.self (c.if-not-is_countable.ensures.0 refl) (λ f. grind (arith, f.few_tags, f.some_term, f.few_terms, c.then-self-gt-MOST_TAGS.either)))

pub returns-then-self-eq0-2 : goal.returns-then-self-eq0-2
returns-then-self-eq0-2 c =
    rw c.into-then-self-eq0-2.ensures (query_first c.args.room c.args.self (c.if-not-is_countable.ensures.0 refl) (λ f. omega (arith, f.some_block)))

pub returns-then-not-has : goal.returns-then-not-has
returns-then-not-has c =
    rw c.into-then-not-has.ensures
    (room_first c.args.room c.args.self (c.if-not-is_countable.ensures.0 refl)
    (record { few_tags = omega arith; some_term = omega arith; few_terms = omega arith; some_block = omega arith })
    (λ r. false≢true (c.if-not-has.ensures.1 r)))
