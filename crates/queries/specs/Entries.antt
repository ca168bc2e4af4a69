-- The table of a query by what the query keeps of each block and of each term.
use Rattle.std.specs.Prelude.{ℕ, List, [], map, vec_items, slice_index_or}
use Rattle.queries.specs.declared.query.entries.BlockEntry.{BlockEntry}
use Rattle.queries.specs.declared.query.entries.TermEntry.{TermEntry}
use Rattle.queries.specs.declared.workings.DealtTerm.{DealtTerm}
use Rattle.queries.specs.Table.{Table, table}

abbrev pub kept : ℕ → List BlockEntry → List TermEntry → Table
kept tags blocks terms = table tags (map (λ e. e.block) blocks) (map (λ e. e.term) terms)

-- a term with its block
abbrev pub dealt_of : TermEntry → DealtTerm
dealt_of e = record { term = e.term; block = e.block }

-- the readers of term t, by its entry
abbrev pub readers_at : List TermEntry → ℕ → List ℕ
readers_at es t = slice_index_or (map (λ e. vec_items e.readers) es) t []
