use Rattle.std.proofs.Common.{◌≡◌, true, false, length, get_or, set, vec_items, sym, ap, ◌∙◌, subst, arith}
use Rattle.std.proofs.lemmas.List.{get_or_default, length-set}
use Rattle.queries.specs.declared.term.Term.TheVariants.{Mark}
use Rattle.queries.specs.Table.{Reads}
use Rattle.queries.specs.Workings.{nth_term, no_term, touched, reached_before}
use Rattle.queries.proofs.Listed.{listed_all}
use Rattle.queries.proofs.Reached.{touched_now, reached_set, reached_kept}
use Rattle.queries.proofs.workings.DealtTerms.reached_by.Goals as goal
use Rattle.queries.proofs.workings.DealtTerms.reached_by.Goals.{then-touches, else-touches}

pub loop-dealt-preserved : goal.loop-dealt-preserved
loop-dealt-preserved c =
    let all = c.args.self in
    let terms = all.terms.now in
    let i = c.loop-dealt.dealt-index in
    let row = vec_items c.loop-dealt.reached in
    let here = c.loop-dealt-test.true in
    let dealt = get_or_default terms i (record { term = Mark 0; block = 0 }) no_term here in
    let term = ap (λ d. d.term) dealt in
    let now : c.touches.result ≡ touched terms c.args.tag (reached_before terms c.args.tag i) (nth_term terms i).term =
    touched_now terms c.args.tag i all.blocks row c.loop-dealt.invariant.found c.deref.result.now _ c.touches.result c.touches.ensures c.deref.ensures.value term (λ j r. all.blocks_stand j (all.operands_stand i j here (subst (λ t. Reads t j) term r)))
    in
    elim c.if-touches.branch [
      | then-touches w ↦
          (let e : vec_items c.if-touches.reached ≡ set row (nth_term terms i).block true = ap vec_items w.reached-is ∙ ap (λ d. set row d.block true) dealt in
          record {
            count = ap length e ∙ length-set row (nth_term terms i).block true ∙ c.loop-dealt.invariant.count;
            found = λ b h. ap (λ l. get_or l b false) e ∙ reached_set terms c.args.tag i all.blocks row c.loop-dealt.invariant.found c.loop-dealt.invariant.count (all.blocks_stand i here) (sym now ∙ w.if-touches.true) b h;
          })
      | else-touches w ↦
          (let e : vec_items c.if-touches.reached ≡ row = ap vec_items w.reached-is in
          record {
            count = ap length e ∙ c.loop-dealt.invariant.count;
            found = λ b h. ap (λ l. get_or l b false) e ∙ reached_kept terms c.args.tag i all.blocks row c.loop-dealt.invariant.found (sym now ∙ w.if-touches.false) b h;
          })
    ]

pub returns : goal.returns
returns c =
    let terms = c.args.self.terms.now in
    let all : c.loop-dealt.dealt-index ≡ length terms = omega arith in
    listed_all (reached_before terms c.args.tag (length terms)) (vec_items c.loop-dealt.reached) c.args.self.blocks false c.loop-dealt.invariant.count
    (λ b h. c.loop-dealt.invariant.found b h ∙ ap (λ k. reached_before terms c.args.tag k b) all)
