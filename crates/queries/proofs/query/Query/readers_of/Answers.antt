use Rattle.std.proofs.Common.{length, vec_items, sym, ◌∙◌, subst, arith}
use Rattle.queries.specs.Queries.{table_of, ListsReaders}
use Rattle.queries.specs.Workings.{readers_in}
use Rattle.queries.proofs.Kept.{dealt, dealt_as}
use Rattle.queries.proofs.Listed.{row_found}
use Rattle.queries.proofs.Questions.{readers_right}
use Rattle.queries.proofs.query.Query.readers_of.Goals as goal

pub returns-in-Some : goal.returns-in-Some
returns-in-Some c =
    let query = c.args.self.now in
    let q = table_of query in
    let row = row_found (λ e. vec_items e.readers) (vec_items query.terms) c.deref.result.now (readers_in (dealt query)) (length q.terms) c.args.term query.readers_stand c.deref.ensures.value c.in-Some.entry c.in-Some.ensures.lookup in
    record {
      lists = subst (ListsReaders q c.args.term) (sym (c.as_slice.ensures.value ∙ row.1)) (readers_right q (dealt query) (dealt_as query) c.args.term row.0);
      past = λ h. absurd (omega (arith, row.0));
    }
