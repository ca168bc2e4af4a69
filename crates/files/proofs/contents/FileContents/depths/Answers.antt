use Rattle.std.proofs.Common.{◌≡◌, map, rules, sym, ◌∙◌}
use Rattle.std.proofs.lemmas.Result.{IfOk-weaker}
use Rattle.std.proofs.lemmas.Simd.{map-map}
use Rattle.std.proofs.iter.runs.Made.{chains}
use Rattle.files.specs.declared.rows.NodeRow.{NodeRow}
use Rattle.files.specs.Reading.{capped}
use Rattle.files.proofs.contents.FileContents.depths.Goals as goal

pub returns : goal.returns
returns c =
    let nodes = c.args.self.now.nodes.items in
    IfOk-weaker c.collect.result (λ v. v.items ≡ map (λ (row : NodeRow). capped row.depth) nodes) (λ v. v.items ≡ map capped (map (λ (row : NodeRow). row.depth) nodes))
    (λ v e. e ∙ sym (map-map capped (λ (row : NodeRow). row.depth) nodes)) (search (rules, chains))
