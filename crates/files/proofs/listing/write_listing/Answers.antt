use Rattle.std.proofs.Common.{◌≡◌, ◌≢◌, ℕ, ◌-◌, ◌^◌, ◌<◌, [], ◌∷◌, ◌++◌, length, get_or, refl, sym, ap, subst, append_assoc, ◌∙◌, arith}
use Rattle.std.proofs.lemmas.List.{get_or_read}
use Rattle.std.specs.List.{flat_map}
use borrow.Rule.Slice.PartMut.{mid_of}
use Rattle.files.specs.Lines.{five, ten, line_text}
use Rattle.files.specs.Listings.{ListsBelow, answer_line, listing, selected_line}
use Rattle.files.proofs.Listings.{LinePut, line_put, first_written, node_passed, node_listed, line_behind}
use Rattle.files.proofs.listing.write_listing.Goals as goal
use Rattle.files.proofs.listing.write_listing.Goals.{then-not-same, else-not-same}

pub loop-node-init : goal.loop-node-init
loop-node-init g c =
    let put : LinePut 65 (length c.args.row.now) c.args.steps c.args.output.now c.put_line-at.new.output c.put_line-at.result =
    line_put 65 (length c.args.row.now) c.args.steps c.narrow.result c.wide.result c.args.output.now c.put_line-at.new.output c.put_line-at.result c.narrow.ensures (c.wide.ensures ∙ ap ten c.into.ensures) (omega arith) (omega arith) c.put_line-at.ensures.size c.put_line-at.ensures.writes in
    first_written {first = answer_line (length c.args.row.now) c.args.steps} c.put_line-at.new.output c.put_line-at.result put.is_size put.short put.writes

pub loop-node-preserved : goal.loop-node-preserved
loop-node-preserved g c =
    let l = c.loop-node in
    let row = c.args.row.now in
    let lowest = g.G.Grade.kind.lowest in
    let at_row : c.index-row-node.result ≡ get_or row l.node lowest = get_or_read row l.node c.index-row-node.result c.loop-node-test.true c.index-row-node.is lowest in
    elim c.if-not-same.branch [
      | then-not-same w ↦ (
          let call = w.put_line-at-then-not-same in
          let number = g.G.FiledGrade.number (get_or row l.node lowest) in
          let small : number < 2 ^ 32 = g.met.G.FiledGrade.numbered.fits (get_or row l.node lowest) in
          let put : LinePut 83 l.node number (mid_of l.at (length l.output - l.at) l.output) call.new.output call.result =
          line_put 83 l.node number w.narrow-then-not-same.result w.wide-then-not-same.result _ call.new.output call.result w.narrow-then-not-same.ensures
          (w.wide-then-not-same.ensures ∙ ap ten (w.into-then-not-same.ensures ∙ w.to_number.ensures ∙ ap g.G.FiledGrade.number at_row))
          (omega arith) (omega arith) call.ensures.size call.ensures.writes in
          rw (w.output-is, w.at-is, w.count-is)
          (node_listed l.node l.at l.count l.output l.invariant (λ e. w.if-not-same.ensures.1 (at_row ∙ e ∙ sym c.lowest.ensures)) _ call.result call.new.output (omega arith) put.is_size put.short put.writes))
      | else-not-same w ↦ rw (w.output-is, w.at-is, w.count-is)
          (node_passed l.node l.at l.count l.output l.invariant (λ p. p (sym at_row ∙ w.if-not-same.ensures.0 tt ∙ c.lowest.ensures)))
    ]

pub returns : goal.returns
returns g c =
    let l = c.loop-node in
    let w = l.invariant in
    let lowest = g.G.Grade.kind.lowest in
    let all : l.node ≡ length c.args.row.now = omega arith in
    let numbers = λ (x : ℕ). g.G.FiledGrade.number (get_or c.args.row.now x lowest) in
    let first = answer_line (length c.args.row.now) c.args.steps in
    let lines = flat_map (selected_line numbers) w.selected in
    let end = ap (λ x. line_text 69 (x ∷ []) []) (c.narrow-2.ensures ∙ ap five w.counted) in
    let last = line_behind l.node l.at l.count l.output w _ c.put_line.result c.put_line.new.output _ _ (omega arith) c.put_line.ensures.size c.put_line.ensures.writes
    (append_assoc first lines (line_text 69 (c.narrow-2.result ∷ []) []) ∙ ap (λ xs. first ++ (lines ++ xs)) end) in record {
      text = listing (length c.args.row.now) c.args.steps numbers w.selected;
      holds = record {
        selected = w.selected;
        lists = subst (λ n. ListsBelow n (λ x. get_or c.args.row.now x lowest ≢ lowest) w.selected) all w.lists;
        written = refl;
      };
      is_size = last.0;
      writes = last.1;
    }
