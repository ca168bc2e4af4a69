-- Small survey files and what is answered to each, worked out, and calls that are refused.
use Rattle.std.specs.Prelude.{ℕ, ◌-◌, ◌^◌, ◌≤◌, cond, List, [], ◌∷◌, length, map, Some, ◌==◌}
use Rattle.grades.specs.StageSets.{stage_sets}
use Rattle.grades.specs.YesNo.{yes_no}
use Rattle.queries.specs.declared.rows.BlockRow.{BlockRow}
use Rattle.queries.specs.declared.rows.TermRow.{TermRow}
use Rattle.files.specs.declared.head.GradeKind.{GradeKind}
use Rattle.files.specs.declared.head.GradeKind.TheVariants.{YesNo, StageSets}
use Rattle.files.specs.declared.head.Hand.{Hand}
use Rattle.files.specs.declared.head.Hand.TheVariants.{AsListed, Mirrored}
use Rattle.files.specs.declared.head.Head.{Head}
use Rattle.files.specs.declared.rows.MarkRow.{MarkRow}
use Rattle.files.specs.declared.tables.Room.{Room}
use Rattle.files.specs.Contents.{Contents, text_of}
use Rattle.files.specs.Files.{Lists, Refuses}
use Rattle.files.specs.Listings.{listing}
use Rattle.files.specs.RefusedCalls.{CallsRefused}

-- tables that are long enough for each of the files below
pub record Ample (room : Room) : Type 0 where
  pub marks : 4096 ≤ room.marks
  pub values : 16384 ≤ room.values
  pub waiting : 16384 ≤ room.waiting

abbrev pub WithRoom : ((GradeKind → Room) → Type 0) → Type 0
WithRoom P = (rooms : GradeKind → Room) → ((kind : GradeKind) → Ample (rooms kind)) → P rooms

-- how many nodes, tags, blocks and terms
abbrev pub head : ℕ → ℕ → ℕ → ℕ → GradeKind → Hand → Head
head nodes tags blocks terms grades hand = record { nodes = nodes; tags = tags; blocks = blocks; terms = terms; grades = grades; hand = hand }

-- the kind, 0 for least and 1 for greatest, and how many terms
abbrev pub block : ℕ → ℕ → BlockRow
block kind terms = record { kind = kind; terms = terms }

-- the kind and its operands
abbrev pub term : ℕ → ℕ → ℕ → TermRow
term kind a b = record { kind = kind; a = a; b = b }

abbrev pub mark : ℕ → ℕ → ℕ → MarkRow
mark node tag grade = record { node = node; tag = tag; grade = grade }

-- a file's head, depths, blocks, terms and marks, and the term that is asked for
abbrev pub file : Head → List ℕ → List BlockRow → List TermRow → List MarkRow → ℕ → Contents
file h depths blocks terms marks asked = record { head = h; nodes = map (λ d. record { depth = d }) depths; blocks = blocks; terms = terms; marks = marks; asked = Some (record { term = asked }) }

-- the listing has so many steps, and of these nodes their numbers
abbrev pub Listing : Contents → ℕ → (ℕ → ℕ) → List ℕ → Type 0
Listing c steps numbers selected = WithRoom λ rooms. Lists rooms (text_of c) (listing c.head.nodes steps numbers selected)

abbrev pub Refusal : Contents → ℕ → ℕ → Type 0
Refusal c number line = WithRoom λ rooms. Refuses rooms (text_of c) number line

-- a root with two children; the term asked for joins the mark of the tag with itself at the next sibling
abbrev pub reach : GradeKind → Hand → List MarkRow → Contents
reach grades hand marks = file (head 3 1 1 3 grades hand) (0 ∷ (1 ∷ (1 ∷ []))) (block 0 3 ∷ []) (term 0 0 0 ∷ (term 3 0 2 ∷ (term 5 1 0 ∷ []))) marks 1

-- a root alone, and a term that is defined by itself alone
abbrev pub itself : ℕ → GradeKind → Contents
itself solution grades = file (head 1 0 1 1 grades AsListed) (0 ∷ []) (block solution 1 ∷ []) (term 3 0 0 ∷ []) [] 0

-- a root with one child, and two terms that define each other along first and owner
abbrev pub cycle : ℕ → GradeKind → ℕ → Contents
cycle solution grades asked = file (head 2 0 1 2 grades AsListed) (0 ∷ (1 ∷ [])) (block solution 2 ∷ []) (term 4 1 0 ∷ (term 6 0 0 ∷ [])) [] asked

-- a lowest term over these depths
abbrev pub over : List ℕ → GradeKind → Hand → Contents
over depths grades hand = file (head (length depths) 0 1 1 grades hand) depths (block 0 1 ∷ []) (term 12 0 0 ∷ []) [] 0

-- a term that turns itself
abbrev pub turned : GradeKind → Hand → Contents
turned grades hand = file (head 1 0 1 1 grades hand) (0 ∷ []) (block 0 1 ∷ []) (term 1 0 0 ∷ []) [] 0

-- the number of the highest grade
abbrev pub highest_number : GradeKind → ℕ
highest_number YesNo = 1
highest_number StageSets = 2 ^ 32 - 1

pub record ModelAnswers : Type 0 where
  -- a mark at the last child is listed at both children
  pub reach_listed : Listing (reach YesNo AsListed (mark 2 0 1 ∷ [])) 10 (λ x. 1) (1 ∷ (2 ∷ []))
  -- and in the mirror, where it is the first, at itself alone
  pub reach_mirrored : Listing (reach YesNo Mirrored (mark 2 0 1 ∷ [])) 9 (λ x. 1) (2 ∷ [])
  -- stages 0 and 2 at the last child and stage 1 at the first come together at the first
  pub reach_by_stage : Listing (reach StageSets AsListed (mark 2 0 5 ∷ (mark 1 0 2 ∷ []))) 10 (λ x. cond (x == 1) 7 5) (1 ∷ (2 ∷ []))
  -- a term by itself alone is lowest in a least block, and highest in a greatest one
  pub itself_least : (grades : GradeKind) → Listing (itself 0 grades) 1 (λ x. 0) []
  pub itself_greatest : (grades : GradeKind) → Listing (itself 1 grades) 1 (λ x. highest_number grades) (0 ∷ [])
  -- the greatest solution of the cycle has highest where it closes, and the least nowhere
  pub cycle_greatest_first : (grades : GradeKind) → Listing (cycle 1 grades 0) 4 (λ x. highest_number grades) (0 ∷ [])
  pub cycle_greatest_owner : (grades : GradeKind) → Listing (cycle 1 grades 1) 4 (λ x. highest_number grades) (1 ∷ [])
  pub cycle_least_first : (grades : GradeKind) → Listing (cycle 0 grades 0) 4 (λ x. 0) []
  pub cycle_least_owner : (grades : GradeKind) → Listing (cycle 0 grades 1) 4 (λ x. 0) []
  -- a child two deeper than its parent, on line 3, and a second root, on line 4
  pub too_deep : (grades : GradeKind) (hand : Hand) → Refusal (over (0 ∷ (2 ∷ [])) grades hand) 2 3
  pub second_root : (grades : GradeKind) (hand : Hand) → Refusal (over (0 ∷ (1 ∷ (0 ∷ []))) grades hand) 2 4
  -- a term may not turn itself; its line is the fourth
  pub turns_itself : (grades : GradeKind) (hand : Hand) → Refusal (turned grades hand) 6 4
  -- whatever the query, a reading right after opening is refused, and so is a step where every block is settled
  pub calls_yes_no : CallsRefused yes_no
  pub calls_stage_sets : CallsRefused stage_sets
