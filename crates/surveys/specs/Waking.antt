-- The entries that a change queues: those that read it and do not wait already.
use Rattle.std.specs.Prelude.{ℕ, ◌+◌, ◌-◌, ◌*◌, Bool, false, cond, ◌||◌, List, [], ◌∷◌, ◌++◌, Some, None, Option, ◌==◌}
use Rattle.shapes.specs.Tree.{Tree, along, back}
use Rattle.queries.specs.declared.term.Term.{Term}
use Rattle.queries.specs.declared.term.Term.TheVariants.{Mark, Turn, Meet, Join, SomeNeighbour, EveryNeighbour, Lowest, Highest}
use Rattle.queries.specs.Table.{Table, term_at}

-- the node at which a term reads its operand at node y: y itself, or the neighbour along the axis that leads back
abbrev pub reader_node_lem : Tree → Term → ℕ → Option ℕ
reader_node_lem t (Mark a) y = None
reader_node_lem t (Turn a) y = Some y
reader_node_lem t (Meet a b) y = Some y
reader_node_lem t (Join a b) y = Some y
reader_node_lem t (SomeNeighbour axis a) y = along t (back axis) y
reader_node_lem t (EveryNeighbour axis a) y = along t (back axis) y
reader_node_lem t Lowest y = None
reader_node_lem t Highest y = None

-- the number of term r at a node, in a block with this first term, over n nodes
abbrev pub numbered : ℕ → ℕ → ℕ → Option ℕ → Option ℕ
numbered first n r None = None
numbered first n r (Some y) = Some ((r - first) * n + y)

-- the entry of term r that reads its operand at node y
abbrev pub reading_entry_lem : Tree → Table → ℕ → ℕ → ℕ → Option ℕ
reading_entry_lem t q first y r = numbered first t.count r (reader_node_lem t (term_at q r) y)

abbrev pub in_front : Option ℕ → List ℕ → List ℕ
in_front None l = l
in_front (Some e) l = e ∷ l

-- the entries of the readers that read their operand at node y
abbrev pub woken : Tree → Table → ℕ → ℕ → List ℕ → List ℕ
woken t q first y [] = []
woken t q first y (r ∷ rs) = in_front (reading_entry_lem t q first y r) (woken t q first y rs)

-- whether an entry is in the list of those that wait
abbrev pub waits : ℕ → List ℕ → Bool
waits e [] = false
waits e (x ∷ l) = x == e || waits e l

-- what is added to the list l where entries are put one after the other, each unless it waits already
abbrev pub added_by : List ℕ → List ℕ → List ℕ
added_by l [] = []
added_by l (e ∷ es) = cond (waits e l) (added_by l es) (e ∷ added_by (l ++ (e ∷ [])) es)
