use Rattle.std.proofs.Common.{◌≡◌, ℕ, ◌≤◌, cond, ltb, length, Some, None, Option, sym, ◌∙◌, subst, MatchOption, rules}
use Rattle.std.specs.Option.{option_map}
use Rattle.queries.specs.declared.block.Span.{Span}
use Rattle.queries.specs.Queries.{table_of, Spans}
use Rattle.queries.specs.Table.{Table, total}
use Rattle.queries.specs.Workings.{span_of}
use Rattle.queries.proofs.Listed.{picked_by, nth_listed, some_listed, none_listed}
use Rattle.queries.proofs.Questions.{spans_right}
use Rattle.queries.proofs.query.Query.span.Goals as goal

-- an answer for each block
answered : (q : Table) → total q.blocks ≡ length q.terms → (b : ℕ) (o : Option Span) → o ≡ cond (ltb b (length q.blocks)) (Some (span_of q b)) None → MatchOption o (length q.blocks ≤ b) (Spans q b)
answered q all b None e = none_listed (length q.blocks) b (span_of q b) e
answered q all b (Some s) e = let h = some_listed (length q.blocks) b (span_of q b) s e in subst (Spans q b) (sym h.1) (spans_right q all b h.0)

pub returns : goal.returns
returns c =
    let query = c.args.self.now in
    let q = table_of query in
    let found : c.map.result ≡ option_map (λ e. e.now.span) c.get.result = search rules in
    answered q query.rules.sized.all_dealt c.args.block c.map.result (found ∙ picked_by (λ e. e.span) _ _ c.args.block c.get.result c.get.ensures.lookup c.deref.ensures.value query.spans_stand ∙ nth_listed (span_of q) (length q.blocks) c.args.block)
