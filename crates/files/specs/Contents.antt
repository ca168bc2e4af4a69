-- What a survey file says, as far as its lines stand in order and are well formed.
use Rattle.std.specs.Prelude.{◌≡◌, ℕ, ◌+◌, ◌<◌, ◌≤◌, List, [], ◌++◌, length, Some, None, Option, ◌≢◌, vec_items}
use Rattle.queries.specs.declared.rows.BlockRow.{BlockRow}
use Rattle.queries.specs.declared.rows.TermRow.{TermRow}
use Rattle.files.specs.declared.contents.FileContents.{FileContents}
use Rattle.files.specs.declared.head.Head.{Head}
use Rattle.files.specs.declared.rows.AskedRow.{AskedRow}
use Rattle.files.specs.declared.rows.MarkRow.{MarkRow}
use Rattle.files.specs.declared.rows.NodeRow.{NodeRow}
use Rattle.files.specs.Lines.{row_text, rows_text, RowFits, AllFit, NoRow}
use Rattle.files.specs.Rows.{head_form, node_form, block_form, term_form, mark_form, asked_form}

pub record Contents : Type 0 where
  pub head : Head
  pub nodes : List NodeRow
  pub blocks : List BlockRow
  pub terms : List TermRow
  pub marks : List MarkRow
  pub asked : Option AskedRow

abbrev pub contents_of : FileContents → Contents
contents_of c = record { head = c.head; nodes = vec_items c.nodes; blocks = vec_items c.blocks; terms = vec_items c.terms; marks = vec_items c.marks; asked = c.asked }

abbrev pub asked_text : Option AskedRow → List ℕ
asked_text None = []
asked_text (Some r) = row_text asked_form r

-- the lines that are written for it
abbrev pub text_of : Contents → List ℕ
text_of c = row_text head_form c.head ++ (rows_text node_form c.nodes ++ (rows_text block_form c.blocks ++ (rows_text term_form c.terms ++ (rows_text mark_form c.marks ++ asked_text c.asked))))

abbrev pub asked_count : Option AskedRow → ℕ
asked_count None = 0
asked_count (Some r) = 1

-- how many lines these are
abbrev pub lines_of : Contents → ℕ
lines_of c = 1 + length c.nodes + length c.blocks + length c.terms + length c.marks + asked_count c.asked

-- all nodes are there; then all blocks too; then all terms too
abbrev pub NodesThere : Contents → Type 0
NodesThere c = length c.nodes ≡ c.head.nodes

abbrev pub BlocksThere : Contents → Type 0
BlocksThere c = NodesThere c × (length c.blocks ≡ c.head.blocks)

abbrev pub TermsThere : Contents → Type 0
TermsThere c = BlocksThere c × (length c.terms ≡ c.head.terms)

-- no more lines of a kind than the head says, and none before those of the kinds that come first
pub record InOrder (c : Contents) : Type 0 where
  pub few_nodes : length c.nodes ≤ c.head.nodes
  pub few_blocks : length c.blocks ≤ c.head.blocks
  pub few_terms : length c.terms ≤ c.head.terms
  pub blocks_after : c.blocks ≢ [] → NodesThere c
  pub terms_after : c.terms ≢ [] → BlocksThere c
  pub marks_after : c.marks ≢ [] → TermsThere c
  pub asked_after : c.asked ≢ None → TermsThere c

-- every number has room in its columns
pub record Fitting (c : Contents) : Type 0 where
  pub head : RowFits head_form c.head
  pub nodes : AllFit node_form c.nodes
  pub blocks : AllFit block_form c.blocks
  pub terms : AllFit term_form c.terms
  pub marks : AllFit mark_form c.marks
  pub asked : (r : AskedRow) → c.asked ≡ Some r → RowFits asked_form r

-- the lines that may come next; behind the line that asks, none may
pub data Next (c : Contents) : List ℕ → Type 0 where
  node : (r : NodeRow) → length c.nodes < c.head.nodes → RowFits node_form r → Next c (row_text node_form r)
  block : (r : BlockRow) → NodesThere c → length c.blocks < c.head.blocks → RowFits block_form r → Next c (row_text block_form r)
  term : (r : TermRow) → BlocksThere c → length c.terms < c.head.terms → RowFits term_form r → Next c (row_text term_form r)
  mark : (r : MarkRow) → TermsThere c → c.asked ≡ None → RowFits mark_form r → Next c (row_text mark_form r)
  asked : (r : AskedRow) → TermsThere c → c.asked ≡ None → RowFits asked_form r → Next c (row_text asked_form r)

-- the file begins with the lines that are written for c, and goes on with a rest that begins with no line that may come next
pub record Reads (file : List ℕ) (c : Contents) (rest : List ℕ) : Type 0 where
  pub written : file ≡ text_of c ++ rest
  pub in_order : InOrder c
  pub fitting : Fitting c
  pub stops : (line more : List ℕ) → Next c line → rest ≢ line ++ more

-- the file does not even begin with a head
abbrev pub NoHead : List ℕ → Type 0
NoHead = NoRow head_form

-- the file is read to its end, the line that asks
abbrev pub Ended : Contents → List ℕ → Type 0
Ended c rest = (rest ≡ []) × (c.asked ≢ None)
