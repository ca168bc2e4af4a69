use Rattle.std.proofs.Common.{◌≡◌, ℕ, ◌*◌, ◌<◌, ◌≤◌, cond, ltb, length, Some, None, ap, ◌∙◌, mul-le-mul_right, arith, rules}
use Rattle.std.proofs.lemmas.Bool.{lt-ltb, cond-true}
use Rattle.meaning.specs.Rounds.{start}
use Rattle.meaning.proofs.Admitted.{block_stands}
use Rattle.queries.specs.Queries.{table_of, Spans}
use Rattle.queries.specs.declared.block.Solution.{Solution}
use Rattle.queries.specs.declared.block.Span.{Span}
use Rattle.queries.specs.Table.{Table, Admitted, solution_at}
use Rattle.queries.proofs.Questions.{rules_kept}
use Rattle.surveys.proofs.Resets.{spanned, resets_block, resets_none}
use Rattle.surveys.proofs.survey.Survey.reset_block.Goals as goal

its_solution : (q : Table) (b : ℕ) → b < length q.blocks → (s : Solution) → Some s ≡ cond (ltb b (length q.blocks)) (Some (solution_at q b)) None → s ≡ solution_at q b
its_solution q b h s e = let f = e ∙ cond-true (ltb b (length q.blocks)) (Some (solution_at q b)) None (lt-ltb b (length q.blocks) h) in cc

no_solution : (q : Table) (b : ℕ) → b < length q.blocks → None ≡ cond (ltb b (length q.blocks)) (Some (solution_at q b)) None → ⊥
no_solution q b h e =
    let f = e ∙ cond-true (ltb b (length q.blocks)) (Some (solution_at q b)) None (lt-ltb b (length q.blocks) h) in
    cc

pub returns-in_default : goal.returns-in_default
returns-in_default g c =
    let q = table_of c.args.query.now in
    resets_none g.G.Grade.kind q c.args.self.now.nodes (λ b. b ≡ c.args.block)
    (λ i h e. omega (arith, block_stands (rules_kept c.args.query.now) i h, c.in_default.ensures)) c.args.values.now

pub returns-in_default-solution : goal.returns-in_default-solution
returns-in_default-solution g c = absurd (no_solution (table_of c.args.query.now) c.args.block c.in-Some.ensures.stands c.in_default-solution.ensures)

-- the terms of a block are some of all
rows_end : (q : Table) → Admitted q → (b : ℕ) (s : Span) → Spans q b s → (n : ℕ) → (s.first * n ≤ s.end * n) × (s.end * n ≤ length q.terms * n)
rows_end q admitted b s spans n = let r = spanned q admitted b s spans in (mul-le-mul_right n r.starts, mul-le-mul_right n r.ends)

pub overflow_mul-span : goal.overflow_mul-span
overflow_mul-span g c =
    let e = rows_end (table_of c.args.query.now) (rules_kept c.args.query.now) c.args.block c.in-Some.span c.in-Some.ensures c.args.self.now.nodes in
    let low : c.in-Some.span.first * c.args.self.now.nodes ≤ length c.args.values.now = omega (arith, e.0, e.1, c.requires) in
    search rules

pub overflow_mul-span-2 : goal.overflow_mul-span-2
overflow_mul-span-2 g c =
    let e = rows_end (table_of c.args.query.now) (rules_kept c.args.query.now) c.args.block c.in-Some.span c.in-Some.ensures c.args.self.now.nodes in
    let high : c.in-Some.span.end * c.args.self.now.nodes ≤ length c.args.values.now = omega (arith, e.1, c.requires) in
    search rules

pub fill-requires : goal.fill-requires
fill-requires g c =
    let e = rows_end (table_of c.args.query.now) (rules_kept c.args.query.now) c.args.block c.in-Some.span c.in-Some.ensures c.args.self.now.nodes in
    record { rising = e.0; within = omega (arith, e.1, c.requires) }

pub returns : goal.returns
returns g c =
    let q = table_of c.args.query.now in
    resets_block g.G.Grade.kind q c.args.self.now.nodes c.args.block c.in-Some.span c.in-Some.ensures c.args.values.now c.fill.new.places c.fill.auto.places
    (λ p d low high. c.fill.ensures.inside p d low high ∙ c.start_value.ensures ∙ ap (start g.G.Grade.kind) (its_solution q c.args.block c.in-Some.ensures.stands c.in-Some-solution.solution c.in-Some-solution.ensures))
    c.fill.ensures.outside
