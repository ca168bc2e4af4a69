use Rattle.std.proofs.Common.{◌≡◌, length, ◌∙◌, rules}
use Rattle.std.specs.Option.{option_map}
use Rattle.queries.specs.Queries.{table_of}
use Rattle.queries.specs.Table.{block_of}
use Rattle.queries.proofs.Listed.{picked_by, nth_listed}
use Rattle.queries.proofs.query.Query.block_of.Goals as goal

pub returns : goal.returns
returns c =
    let q = table_of c.args.self.now in
    let found : c.map.result ≡ option_map (λ e. e.now.block) c.get.result = search rules in
    found ∙ picked_by (λ e. e.block) _ _ c.args.term c.get.result c.get.ensures.lookup c.deref.ensures.value c.args.self.now.blocks_stand ∙ nth_listed (block_of q) (length q.terms) c.args.term
