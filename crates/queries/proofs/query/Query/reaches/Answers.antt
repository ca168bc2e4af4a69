use Rattle.std.proofs.Common.{false, length, vec_items, unwrap_or, ap, ◌∙◌, arith}
use Rattle.std.specs.List.{slice_get}
use Rattle.queries.specs.Queries.{table_of}
use Rattle.queries.specs.Workings.{reached_before}
use Rattle.queries.proofs.Kept.{dealt, dealt_as}
use Rattle.queries.proofs.Listed.{picked, nth_listed, row_found, row_missing}
use Rattle.queries.proofs.Questions.{rules_kept, reached_row}
use Rattle.queries.proofs.Reaching.{reached_says, tag_stands}
use Rattle.queries.proofs.query.Query.reaches.Goals as goal

pub returns-in-Some : goal.returns-in-Some
returns-in-Some c =
    let query = c.args.self.now in
    let q = table_of query in
    let row = row_found vec_items (vec_items query.reached) c.deref.result.now (reached_row query) query.tags c.args.tag query.reached_stand c.deref.ensures.value c.in-Some.reached c.in-Some.ensures.lookup in
    let found = c.copied.ensures ∙ picked c.deref-in-Some.result.now c.args.block c.get-in-Some.result c.get-in-Some.ensures.lookup ∙ ap (λ l. slice_get l c.args.block) (c.deref-in-Some.ensures.value ∙ row.1) ∙ nth_listed (reached_before (dealt query) c.args.tag (length q.terms)) _ c.args.block in
    reached_says q (rules_kept query) (dealt query) (dealt_as query) c.args.tag c.args.block c.unwrap_or.result (c.unwrap_or.ensures ∙ ap (λ o. unwrap_or o false) found)

pub returns-in-None : goal.returns-in-None
returns-in-None c =
    let query = c.args.self.now in
    let past = row_missing vec_items (vec_items query.reached) c.deref.result.now (reached_row query) query.tags c.args.tag query.reached_stand c.deref.ensures.value c.in-None.ensures.lookup in
    ((λ no_way. absurd no_way), λ r. omega (arith, past, tag_stands (table_of query) (rules_kept query) (dealt query) (dealt_as query) c.args.tag r))
