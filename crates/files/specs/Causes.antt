-- Why a survey file is refused: what its lines can do wrong, and which of these causes is the first.
use Rattle.std.specs.Prelude.{◌≡◌, ℕ, ◌+◌, ◌-◌, ◌*◌, ◌^◌, ◌<◌, ◌≤◌, ◌⊎◌, List, ◌++◌, map, length, replicate, Some, slice_index_or}
use Rattle.shapes.specs.Depths.{KeepsRule}
use Rattle.shapes.specs.Tree.{Countable}
use Rattle.queries.specs.Admission.{BlockFits, BlocksAddUp, Stands}
use Rattle.queries.specs.Rows.{Rows, rows, told}
use Rattle.queries.specs.Table.{NoLaterBlock, TurnEarlier}
use Rattle.queries.specs.declared.rows.TermRow.{TermRow}
use Rattle.files.specs.declared.head.GradeKind.{GradeKind}
use Rattle.files.specs.declared.head.GradeKind.TheVariants.{YesNo, StageSets}
use Rattle.files.specs.declared.head.Head.{Head}
use Rattle.files.specs.declared.rows.AskedRow.{AskedRow}
use Rattle.files.specs.declared.rows.MarkRow.{MarkRow}
use Rattle.files.specs.declared.tables.Room.{Room}
use Rattle.files.specs.Contents.{Contents, BlocksThere, Ended, lines_of}

-- a mark for each tag and node, a value and a waiting place for each term and node
pub record RoomFor (tags terms nodes : ℕ) (room : Room) : Type 0 where
  pub marks : tags * nodes ≤ room.marks
  pub values : terms * nodes ≤ room.values
  pub waiting : terms * nodes ≤ room.waiting

abbrev pub HasRoom : Room → Head → Type 0
HasRoom room h = RoomFor h.tags h.terms h.nodes room

pub record HeadFits (h : Head) : Type 0 where
  pub few_tags : h.tags ≤ 16
  pub some_term : 1 ≤ h.terms
  pub few_terms : h.terms ≤ 64
  pub some_block : 1 ≤ h.blocks

abbrev pub depths_in : Contents → List ℕ
depths_in c = map (λ r. r.depth) c.nodes

-- the lowest term, in the place of one that is not there
abbrev pub lowest_row : TermRow
lowest_row = record { kind = 12; a = 0; b = 0 }

-- the query's rows, with as many terms as the head says
abbrev pub rows_in : Contents → Rows
rows_in c = rows c.head.tags c.blocks (c.terms ++ replicate (c.head.terms - length c.terms) lowest_row)

-- the number is that of a grade
abbrev pub IsGradeNumber : GradeKind → ℕ → Type 0
IsGradeNumber YesNo n = n ≤ 1
IsGradeNumber StageSets n = n < 2 ^ 32

abbrev pub no_mark : MarkRow
no_mark = record { node = 0; tag = 0; grade = 0 }

abbrev pub mark_at : Contents → ℕ → MarkRow
mark_at c j = slice_index_or c.marks j no_mark

pub record MarkStands (h : Head) (m : MarkRow) : Type 0 where
  pub node : m.node < h.nodes
  pub tag : m.tag < h.tags

-- the lines, counted from 1, on which the rows stand
abbrev pub node_line : ℕ → ℕ
node_line x = 2 + x

abbrev pub block_line : Contents → ℕ → ℕ
block_line c b = 2 + length c.nodes + b

abbrev pub term_line : Contents → ℕ → ℕ
term_line c i = 2 + length c.nodes + length c.blocks + i

abbrev pub mark_line : Contents → ℕ → ℕ
mark_line c j = 2 + length c.nodes + length c.blocks + length c.terms + j

-- what can be wrong with a line, by number: with the head's
pub data HeadCause (room : Room) (h : Head) : ℕ → Type 0 where
  no_shape : (Countable h.nodes → ⊥) → HeadCause room h 1
  no_query : (HeadFits h → ⊥) → HeadCause room h 3
  too_short : (HasRoom room h → ⊥) → HeadCause room h 7

-- .. a node's
pub data NodeCause (c : Contents) (x : ℕ) : ℕ → Type 0 where
  depth : (KeepsRule (depths_in c) x → ⊥) → NodeCause c x 2

-- .. a block's; a wrong sum is one of the last block, once all are there
pub data BlockCause (c : Contents) (b : ℕ) : ℕ → Type 0 where
  block : (BlockFits (rows_in c) b → ⊥) → BlockCause c b 3
  sum : b + 1 ≡ length c.blocks → BlocksThere c → (BlocksAddUp (rows_in c) → ⊥) → BlockCause c b 3

-- .. a term's
pub data TermCause (c : Contents) (i : ℕ) : ℕ → Type 0 where
  term : (Stands (rows_in c) i → ⊥) → TermCause c i 4
  later_block : (NoLaterBlock (told (rows_in c)) i → ⊥) → TermCause c i 5
  own_turn : (TurnEarlier (told (rows_in c)) i → ⊥) → TermCause c i 6

-- .. a mark's
pub data MarkCause (h : Head) (m : MarkRow) : ℕ → Type 0 where
  no_grade : (IsGradeNumber h.grades m.grade → ⊥) → MarkCause h m 12
  missing_mark : (MarkStands h m → ⊥) → MarkCause h m 8

-- .. the one that asks
pub data AskedCause (c : Contents) : ℕ → Type 0 where
  missing_term : (r : AskedRow) → c.asked ≡ Some r → c.head.terms ≤ r.term → AskedCause c 8

-- .. and with what stands behind those that were read
pub data CauseBehind (c : Contents) (rest : List ℕ) : ℕ → Type 0 where
  malformed : (Ended c rest → ⊥) → CauseBehind c rest 12

-- a cause, by its number and its line, in a file that says c and goes on with rest
pub data Cause (room : Room) (c : Contents) (rest : List ℕ) : ℕ → ℕ → Type 0 where
  at_head : (n : ℕ) → HeadCause room c.head n → Cause room c rest n 1
  at_node : (x n : ℕ) → x < length c.nodes → NodeCause c x n → Cause room c rest n (node_line x)
  at_block : (b n : ℕ) → b < length c.blocks → BlockCause c b n → Cause room c rest n (block_line c b)
  at_term : (i n : ℕ) → i < length c.terms → TermCause c i n → Cause room c rest n (term_line c i)
  at_mark : (j n : ℕ) → j < length c.marks → MarkCause c.head (mark_at c j) n → Cause room c rest n (mark_line c j)
  at_asked : (n : ℕ) → AskedCause c n → Cause room c rest n (lines_of c)
  at_end : (n : ℕ) → CauseBehind c rest n → Cause room c rest n (lines_of c + 1)

-- on a line what is malformed comes first, and otherwise the smaller number
abbrev pub Sooner : ℕ → ℕ → Type 0
Sooner n m = (n ≡ 12) ⊎ ((m ≡ 12 → ⊥) × (n ≤ m))

-- on an earlier line, or on the same and sooner there
abbrev pub Before : ℕ → ℕ → ℕ → ℕ → Type 0
Before n l m k = (l < k) ⊎ ((l ≡ k) × Sooner n m)

-- the first cause: on the first line that has one, and there the first
pub record FirstCause (room : Room) (c : Contents) (rest : List ℕ) (number line : ℕ) : Type 0 where
  pub cause : Cause room c rest number line
  pub first : (n l : ℕ) → Cause room c rest n l → Before number line n l

abbrev pub NoCause : Room → Contents → List ℕ → Type 0
NoCause room c rest = (n l : ℕ) → Cause room c rest n l → ⊥
