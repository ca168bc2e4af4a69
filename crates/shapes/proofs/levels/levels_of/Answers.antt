use Rattle.std.proofs.Common.{suc, sym, ap, ◌∙◌, arith}
use Rattle.std.proofs.lemmas.List.{nil_from_length}
use Rattle.shapes.specs.Levels.{reached}
use Rattle.shapes.specs.Links.{linked_tree}
use Rattle.shapes.proofs.Reaching.{low_enough, visited_next, visit_falls, settled}
use Rattle.shapes.proofs.levels.levels_of.Goals as goal

pub visit-requires : goal.visit-requires
visit-requires c =
    low_enough (linked_tree c.args.rows.now) c.loop-node.invariant.0 _ _ c.requires
    (ap (λ s. s.waiting) (sym c.loop-node.invariant.1) ∙ c.in-Some.ensures.items)

pub loop-node-smaller : goal.loop-node-smaller
loop-node-smaller c = visit_falls (linked_tree c.args.rows.now) (reached c.loop-node.search) (reached c.visit.new.self) _ _ c.in-Some.ensures.items c.visit.ensures

pub loop-node-preserved : goal.loop-node-preserved
loop-node-preserved c = (
  suc c.loop-node.invariant.0,
  visited_next (linked_tree c.args.rows.now) c.loop-node.invariant.0 (reached c.loop-node.search) _ _ _ c.loop-node.invariant.1 c.in-Some.ensures.items
      c.visit.ensures,
)

pub returns : goal.returns
returns c =
    ap (λ s. s.levels) c.loop-node.invariant.1
    ∙ settled (linked_tree c.args.rows.now) c.loop-node.invariant.0
    (ap (λ s. s.waiting) (sym c.loop-node.invariant.1) ∙ nil_from_length _ (omega (arith, c.in_default.ensures.cases.0, c.loop-node.search.waiting.ok.0)))
