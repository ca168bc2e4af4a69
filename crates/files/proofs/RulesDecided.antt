-- The rules of survey files: tests that compute, what they decide, and so the decisions.
use Rattle.std.proofs.Common.{◌≡◌, ℕ, ◌+◌, ◌-◌, ◌*◌, ◌^◌, ◌<◌, ◌≤◌, Bool, true, cond, ◌&&◌, eqb, ltb, leb, Decides, List, length, is_some, Some, None, Option, refl, sym, ap, ◌∙◌, subst, arith}
use native.Mathlib.Decide.{dec_le}
use Rattle.std.specs.Prelude.{slice_index_or}
use Rattle.std.proofs.lemmas.Bool.{ltb-true, lt-ltb}
use Rattle.std.proofs.lemmas.Bool.Decides.{Decides-and, Decides-like, Decides-ltb, nat_tests}
use Rattle.shapes.specs.Depths.{KeepsRule, depth_at}
use Rattle.shapes.specs.Tree.{Countable}
use Rattle.queries.specs.declared.term.Term.{Term}
use Rattle.queries.specs.declared.term.Term.TheVariants.{Mark, Turn, Meet, Join, SomeNeighbour, EveryNeighbour, Lowest, Highest}
use Rattle.queries.specs.Admission.{BlockFits, BlocksAddUp, Stands}
use Rattle.queries.specs.Checks.{standing, reading_up_to}
use Rattle.queries.specs.Rows.{Rows, no_row, term_in, told}
use Rattle.queries.specs.Table.{NoLaterBlock, block_of, term_at, total}
use Rattle.queries.proofs.Tested.{standing_decided, reading_decided}
use Rattle.surveys.proofs.Decisions.{both, iff, not?, empty?}
use Rattle.files.proofs.Decided.{decides?, eq_decides, le_decides}
use Rattle.files.specs.declared.head.GradeKind.{GradeKind}
use Rattle.files.specs.declared.head.GradeKind.TheVariants.{YesNo, StageSets}
use Rattle.files.specs.declared.head.Head.{Head}
use Rattle.files.specs.declared.rows.AskedRow.{AskedRow}
use Rattle.files.specs.declared.rows.MarkRow.{MarkRow}
use Rattle.files.specs.declared.tables.Room.{Room}
use Rattle.files.specs.Causes.{HasRoom, HeadFits, MarkStands, IsGradeNumber, lowest_row}
use Rattle.files.specs.Contents.{Contents, Ended}

abbrev pub count_test : ℕ → Bool
count_test n = leb 1 n && leb n 2048

pub count_decides : (n : ℕ) → Decides (count_test n) (Countable n)
count_decides n = Decides-and (leb 1 n) (leb n 2048) (le_decides 1 n) (le_decides n 2048)

abbrev pub head_test : Head → Bool
head_test h = leb h.tags 16 && (leb 1 h.terms && (leb h.terms 64 && leb 1 h.blocks))

pub head_decides : (h : Head) → Decides (head_test h) (HeadFits h)
head_decides h =
    Decides-like (head_test h) (λ (a, (b, (c, d))). record { few_tags = a; some_term = b; few_terms = c; some_block = d }) (λ f. (f.few_tags, (f.some_term, (f.few_terms, f.some_block))))
    (Decides-and _ _ (le_decides h.tags 16) (Decides-and _ _ (le_decides 1 h.terms) (Decides-and _ _ (le_decides h.terms 64) (le_decides 1 h.blocks))))

abbrev pub room_test : Room → Head → Bool
room_test room h = leb (h.tags * h.nodes) room.marks && (leb (h.terms * h.nodes) room.values && leb (h.terms * h.nodes) room.waiting)

pub room_decides : (room : Room) (h : Head) → Decides (room_test room h) (HasRoom room h)
room_decides room h =
    Decides-like (room_test room h) (λ (a, (b, c)). record { marks = a; values = b; waiting = c }) (λ f. (f.marks, (f.values, f.waiting)))
    (Decides-and _ _ (le_decides (h.tags * h.nodes) room.marks) (Decides-and _ _ (le_decides (h.terms * h.nodes) room.values) (le_decides (h.terms * h.nodes) room.waiting)))

-- whether the depth d of node x keeps the rule, where the node before has depth p
abbrev depth_test : ℕ → ℕ → ℕ → Bool
depth_test x d p = cond (eqb x 0) (eqb d 0) (leb 1 d && leb d (p + 1))

depth_tells : (x d p : ℕ) → depth_test x d p ≡ true → (x ≡ 0 → d ≡ 0) × (0 < x → 1 ≤ d) × (0 < x → d ≤ p + 1)
depth_tells x d p e = (λ h. grind (arith, nat_tests), λ h. grind (arith, nat_tests), λ h. grind (arith, nat_tests))

depth_told : (x d p : ℕ) → (x ≡ 0 → d ≡ 0) → (0 < x → 1 ≤ d) → (0 < x → d ≤ p + 1) → depth_test x d p ≡ true
depth_told x d p root other rises = grind (arith, nat_tests)

module _ (ds : List ℕ) (x : ℕ) where
  abbrev pub rule_test : Bool
  rule_test = depth_test x (depth_at ds x) (depth_at ds (x - 1))

  pub rule_decides : Decides rule_test (KeepsRule ds x)
  rule_decides = (
    (λ e. let r = depth_tells x (depth_at ds x) (depth_at ds (x - 1)) e in record { root = r.0; other = r.1; rises = r.2 }),
    (λ k. depth_told x (depth_at ds x) (depth_at ds (x - 1)) k.root k.other k.rises),
  )

module _ (r : Rows) where
  abbrev pub block_test : ℕ → Bool
  block_test b = leb 1 (slice_index_or r.blocks b no_row).terms && leb (slice_index_or r.blocks b no_row).kind 1

  pub block_decides : (b : ℕ) → Decides (block_test b) (BlockFits r b)
  block_decides b = Decides-and _ _ (le_decides 1 (slice_index_or r.blocks b no_row).terms) (le_decides (slice_index_or r.blocks b no_row).kind 1)

  abbrev pub sum_test : Bool
  sum_test = eqb (total (told r).blocks) (length r.terms)

  pub sum_decides : Decides sum_test (BlocksAddUp r)
  sum_decides = eq_decides (total (told r).blocks) (length r.terms)

  -- the term of a row is there
  abbrev known : ℕ → Bool
  known i = is_some (term_in (slice_index_or r.terms i lowest_row))

  abbrev pub stands_test : ℕ → Bool
  stands_test i = known i && standing (told r).tags (length (told r).terms) (term_at (told r) i)

  pub stands_decides : (i : ℕ) → Decides (stands_test i) (Stands r i)
  stands_decides i =
      Decides-like (stands_test i) (λ (k, s). record { known = k; tag = s.tag; operands = s.operands }) (λ s. (s.known, record { tag = s.tag; operands = s.operands }))
      (Decides-and (known i) _ ((λ e. e), (λ e. e)) (standing_decided (told r).tags (length (told r).terms) (term_at (told r) i)))

  abbrev pub later_test : ℕ → Bool
  later_test i = reading_up_to (block_of (told r)) (block_of (told r) i) (term_at (told r) i)

  pub later_decides : (i : ℕ) → Decides (later_test i) (NoLaterBlock (told r) i)
  later_decides i = reading_decided (block_of (told r)) (block_of (told r) i) (term_at (told r) i)

  -- whether a term turns terms of blocks before that of term i only
  abbrev pub turn_test : Term → ℕ → Bool
  turn_test (Mark a) i = true
  turn_test (Turn a) i = ltb (block_of (told r) a) (block_of (told r) i)
  turn_test (Meet a b) i = true
  turn_test (Join a b) i = true
  turn_test (SomeNeighbour x a) i = true
  turn_test (EveryNeighbour x a) i = true
  turn_test Lowest i = true
  turn_test Highest i = true

  pub turn_decides : (t : Term) (i : ℕ) → Decides (turn_test t i) ((a : ℕ) → t ≡ Turn a → block_of (told r) a < block_of (told r) i)
  turn_decides t i = (
    (λ e a is. ltb-true (block_of (told r) a) (block_of (told r) i) (ap (λ u. turn_test u i) (sym is) ∙ e)),
    (λ h. told_turn t h),
  )
    where
      told_turn : (t : Term) → ((a : ℕ) → t ≡ Turn a → block_of (told r) a < block_of (told r) i) → turn_test t i ≡ true
      told_turn (Turn a) h = lt-ltb (block_of (told r) a) (block_of (told r) i) (h a refl)
      told_turn (Mark a) h = refl
      told_turn (Meet a b) h = refl
      told_turn (Join a b) h = refl
      told_turn (SomeNeighbour x a) h = refl
      told_turn (EveryNeighbour x a) h = refl
      told_turn Lowest h = refl
      told_turn Highest h = refl

abbrev pub grade_test : GradeKind → ℕ → Bool
grade_test YesNo n = leb n 1
grade_test StageSets n = ltb n (2 ^ 32)

pub grade_decides : (k : GradeKind) (n : ℕ) → Decides (grade_test k n) (IsGradeNumber k n)
grade_decides YesNo n = le_decides n 1
grade_decides StageSets n = Decides-ltb n (2 ^ 32)

abbrev pub mark_test : Head → MarkRow → Bool
mark_test h m = ltb m.node h.nodes && ltb m.tag h.tags

pub mark_decides : (h : Head) (m : MarkRow) → Decides (mark_test h m) (MarkStands h m)
mark_decides h m =
    Decides-like (mark_test h m) (λ (a, b). record { node = a; tag = b }) (λ s. (s.node, s.tag))
    (Decides-and _ _ (Decides-ltb m.node h.nodes) (Decides-ltb m.tag h.tags))

-- the decisions

pub countable? : (n : ℕ) → Dec (Countable n)
countable? n = decides? _ (count_decides n)

pub head_fits? : (h : Head) → Dec (HeadFits h)
head_fits? h = decides? _ (head_decides h)

pub has_room? : (room : Room) (h : Head) → Dec (HasRoom room h)
has_room? room h = decides? _ (room_decides room h)

pub rule? : (ds : List ℕ) (x : ℕ) → Dec (KeepsRule ds x)
rule? ds x = decides? _ (rule_decides ds x)

pub block_fits? : (r : Rows) (b : ℕ) → Dec (BlockFits r b)
block_fits? r b = decides? _ (block_decides r b)

pub adds_up? : (r : Rows) → Dec (BlocksAddUp r)
adds_up? r = decides? _ (sum_decides r)

pub stands? : (r : Rows) (i : ℕ) → Dec (Stands r i)
stands? r i = decides? _ (stands_decides r i)

pub later? : (r : Rows) (i : ℕ) → Dec (NoLaterBlock (told r) i)
later? r i = decides? _ (later_decides r i)

pub turn? : (r : Rows) (t : Term) (i : ℕ) → Dec ((a : ℕ) → t ≡ Turn a → block_of (told r) a < block_of (told r) i)
turn? r t i = decides? _ (turn_decides r t i)

pub grade_number? : (k : GradeKind) (n : ℕ) → Dec (IsGradeNumber k n)
grade_number? k n = decides? _ (grade_decides k n)

pub mark_stands? : (h : Head) (m : MarkRow) → Dec (MarkStands h m)
mark_stands? h m = decides? _ (mark_decides h m)

pub asked_missing? : (h : Head) (a : Option AskedRow) → Dec ((r : AskedRow) × ((a ≡ Some r) × (h.terms ≤ r.term)))
asked_missing? h None = no (λ s. let e = s.1.0 in cc)
asked_missing? h (Some r) = iff (λ l. (r, (refl, l))) (λ s. let e = s.1.0 in let same : s.0 ≡ r = cc in subst (λ q. h.terms ≤ q.term) same s.1.1) (dec_le h.terms r.term)

none? : (a : Option AskedRow) → Dec (a ≡ None)
none? None = yes refl
none? (Some r) = no (λ e. cc)

pub ended? : (c : Contents) (rest : List ℕ) → Dec (Ended c rest)
ended? c rest = both (empty? rest) (λ _. not? (none? c.asked))
