use Rattle.std.proofs.Common.{subst}
use Rattle.shapes.specs.Depths.{LawfulDepths}
use Rattle.shapes.specs.DepthTables.{FirstFault}
use Rattle.files.specs.Contents.{contents_of}
use Rattle.files.proofs.Nodes.{nodes_pass, there, none_before, fault_first}
use Rattle.files.proofs.Passing.{found_at}
use Rattle.files.proofs.Sections.{in_nodes}
use Rattle.files.proofs.causes.Checked.nodes.Goals as goal

pub returns-in-Some : goal.returns-in-Some
returns-in-Some c =
    let it = contents_of c.args.self.contents.now in
    let fault = subst (λ ds. FirstFault ds c.in-Some.node) c.requires.depths c.in-Some.ensures in
    let checked = c.requires.checked in
    let x = c.in-Some.node in
    λ rest. found_at c.args.self.room it in_nodes x rest (there c.args.self.room it checked x fault) (none_before c.args.self.room it checked x fault rest)
    c.from-cause.result c.line_of_node.result c.at.result c.at.ensures c.line_of_node.ensures (rw c.from-cause.ensures (fault_first c.args.self.room it checked x fault))

pub returns-in-None : goal.returns-in-None
returns-in-None c = nodes_pass c.args.self.room (contents_of c.args.self.contents.now) c.requires.checked (subst LawfulDepths c.requires.depths c.in-None.ensures)
