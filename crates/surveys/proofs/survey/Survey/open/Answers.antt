use Rattle.std.proofs.Common.{◌≡◌, ◌*◌, ◌++◌, length, get_or, drop, replicate, refl, ap, ◌∙◌, rules}
use Rattle.std.proofs.lemmas.List.{get_or-replicate, length-replicate, length-take-le}
use Rattle.queries.proofs.Questions.{rules_kept}
use Rattle.surveys.specs.Standing.{lent}
use Rattle.surveys.specs.Queried.{tree_in, table_in}
use Rattle.surveys.proofs.Fronts.{front, within}
use Rattle.surveys.proofs.Opens.{all_reset, opens_counted, values_within, waiting_within}
use Rattle.surveys.proofs.survey.Survey.open.Goals as goal

pub returns : goal.returns
returns g c =
    let k = g.G.Grade.kind in
    let t = tree_in g.S.Shape c.args.queried.now in
    let q = table_in c.args.queried.now in
    let w = c.args.waiting.now in
    let n = c.term_count.result * c.node_count.result in
    let room = c.in_ok-check_fits.ensures.roomy.waiting in
    let zeros : c.fill.new.self ≡ replicate n 0 = c.fill.ensures.after (λ y h. search rules) ∙ ap (λ m. replicate m 0) (length-take-le n w room) in
    let long : length c.fill.new.self ≡ n = ap length zeros ∙ length-replicate n 0 in
    let reset = c.reset_blocks.ensures in
    let all = all_reset k q c.node_count.result c.block_count.result c.block_count.ensures reset.0 (λ b h. let p = reset.1 b h in search rules) c.args.values.now c.reset_blocks.new.values reset.2 in
    let l = lent c.args.marks.now c.args.values.now w in
    let l' = lent c.args.marks.now c.reset_blocks.new.values (c.fill.new.self ++ drop n w) in
    record {
      answer = opens_counted k t q c.node_count.result c.tag_count.result c.term_count.result c.block_count.result c.node_count.ensures c.tag_count.ensures c.term_count.ensures c.block_count.ensures l l'
          (rules_kept c.args.queried.now.query.now) c.in_ok-check_fits.ensures (refl {a = c.args.marks.now}) all (within w c.fill.new.self n room long).same_length
          (λ p h. front w c.fill.new.self n room long p 0 h ∙ ap (λ xs. get_or xs p 0) zeros ∙ get_or-replicate n p 0 0 h);
      values = values_within k q c.node_count.result t.count c.node_count.ensures c.args.values.now c.reset_blocks.new.values all;
      waiting = waiting_within c.term_count.result c.node_count.result (length q.terms) t.count c.term_count.ensures c.node_count.ensures w (c.fill.new.self ++ drop n w) (within w c.fill.new.self n room long);
    }
