-- Which of the causes on a line is the first, and when there is none.
use Rattle.std.proofs.Common.{◌≡◌, ℕ, ◌<◌, ◌≤◌, List, Some, refl, inl, inr, arith}
use Rattle.shapes.specs.Depths.{KeepsRule}
use Rattle.shapes.specs.Tree.{Countable}
use Rattle.queries.specs.Admission.{Stands, Fits}
use Rattle.queries.specs.Rows.{told}
use Rattle.queries.specs.Table.{NoLaterBlock, TurnEarlier}
use Rattle.files.specs.declared.rows.AskedRow.{AskedRow}
use Rattle.files.specs.declared.head.Head.{Head}
use Rattle.files.specs.declared.rows.MarkRow.{MarkRow}
use Rattle.files.specs.declared.tables.Room.{Room}
use Rattle.files.specs.Causes.{HasRoom, HeadFits, IsGradeNumber, MarkStands, Sooner, depths_in, rows_in, HeadCause, no_shape, no_query, too_short, NodeCause, depth, BlockCause, block, sum, TermCause, term, later_block, own_turn, MarkCause, no_grade, missing_mark, AskedCause, missing_term, CauseBehind, malformed}
use Rattle.files.specs.Checking.{FirstOn, HeadSound, MarkSound}
use Rattle.files.specs.Contents.{Contents, Ended}

sooner : (n m : ℕ) → n ≤ m → m < 12 → Sooner n m
sooner n m le few = inr ((λ e. omega arith), le)

module _ (room : Room) (h : Head) where
  after_shape : (n : ℕ) → HeadCause room h n → Sooner 1 n
  after_shape n (no_shape _) = sooner 1 1 (omega arith) (omega arith)
  after_shape n (no_query _) = sooner 1 3 (omega arith) (omega arith)
  after_shape n (too_short _) = sooner 1 7 (omega arith) (omega arith)

  pub shape_first : (Countable h.nodes → ⊥) → FirstOn (HeadCause room h) 1
  shape_first broken = record { is = no_shape broken; first = after_shape }

  after_query : Countable h.nodes → (n : ℕ) → HeadCause room h n → Sooner 3 n
  after_query shape n (no_shape b) = absurd (b shape)
  after_query shape n (no_query _) = sooner 3 3 (omega arith) (omega arith)
  after_query shape n (too_short _) = sooner 3 7 (omega arith) (omega arith)

  pub query_first : Countable h.nodes → (HeadFits h → ⊥) → FirstOn (HeadCause room h) 3
  query_first shape broken = record { is = no_query broken; first = after_query shape }

  after_room : Countable h.nodes → HeadFits h → (n : ℕ) → HeadCause room h n → Sooner 7 n
  after_room shape query n (no_shape b) = absurd (b shape)
  after_room shape query n (no_query b) = absurd (b query)
  after_room shape query n (too_short _) = sooner 7 7 (omega arith) (omega arith)

  pub room_first : Countable h.nodes → HeadFits h → (HasRoom room h → ⊥) → FirstOn (HeadCause room h) 7
  room_first shape query broken = record { is = too_short broken; first = after_room shape query }

  pub head_fine : HeadSound room h → (n : ℕ) → HeadCause room h n → ⊥
  head_fine s n (no_shape b) = b s.countable
  head_fine s n (no_query b) = b s.fits
  head_fine s n (too_short b) = b s.has_room

module _ (h : Head) (m : MarkRow) where
  pub grade_first : (IsGradeNumber h.grades m.grade → ⊥) → FirstOn (MarkCause h m) 12
  grade_first broken = record { is = no_grade broken; first = λ n cause. inl refl }

  after_grade : IsGradeNumber h.grades m.grade → (n : ℕ) → MarkCause h m n → Sooner 8 n
  after_grade grade n (no_grade b) = absurd (b grade)
  after_grade grade n (missing_mark _) = sooner 8 8 (omega arith) (omega arith)

  pub mark_first : IsGradeNumber h.grades m.grade → (MarkStands h m → ⊥) → FirstOn (MarkCause h m) 8
  mark_first grade broken = record { is = missing_mark broken; first = after_grade grade }

  pub mark_fine : MarkSound h m → (n : ℕ) → MarkCause h m n → ⊥
  mark_fine f n (no_grade b) = b f.grade
  mark_fine f n (missing_mark b) = b f.stands

module _ (c : Contents) where
  pub depth_first : (x : ℕ) → (KeepsRule (depths_in c) x → ⊥) → FirstOn (NodeCause c x) 2
  depth_first x broken = record { is = depth broken; first = after }
    where
      after : (n : ℕ) → NodeCause c x n → Sooner 2 n
      after n (depth _) = sooner 2 2 (omega arith) (omega arith)

  pub block_first : (b : ℕ) → BlockCause c b 3 → FirstOn (BlockCause c b) 3
  block_first b cause = record { is = cause; first = after }
    where
      after : (n : ℕ) → BlockCause c b n → Sooner 3 n
      after n (block _) = sooner 3 3 (omega arith) (omega arith)
      after n (sum _ _ _) = sooner 3 3 (omega arith) (omega arith)

  module _ (i : ℕ) where
    after_start : (n : ℕ) → TermCause c i n → Sooner 4 n
    after_start n (term _) = sooner 4 4 (omega arith) (omega arith)
    after_start n (later_block _) = sooner 4 5 (omega arith) (omega arith)
    after_start n (own_turn _) = sooner 4 6 (omega arith) (omega arith)

    pub term_first : (Stands (rows_in c) i → ⊥) → FirstOn (TermCause c i) 4
    term_first broken = record { is = term broken; first = after_start }

    after_stands : Stands (rows_in c) i → (n : ℕ) → TermCause c i n → Sooner 5 n
    after_stands stands n (term b) = absurd (b stands)
    after_stands stands n (later_block _) = sooner 5 5 (omega arith) (omega arith)
    after_stands stands n (own_turn _) = sooner 5 6 (omega arith) (omega arith)

    pub later_first : Stands (rows_in c) i → (NoLaterBlock (told (rows_in c)) i → ⊥) → FirstOn (TermCause c i) 5
    later_first stands broken = record { is = later_block broken; first = after_stands stands }

    after_block : Stands (rows_in c) i → NoLaterBlock (told (rows_in c)) i → (n : ℕ) → TermCause c i n → Sooner 6 n
    after_block stands no_later n (term b) = absurd (b stands)
    after_block stands no_later n (later_block b) = absurd (b no_later)
    after_block stands no_later n (own_turn _) = sooner 6 6 (omega arith) (omega arith)

    pub turn_first : Stands (rows_in c) i → NoLaterBlock (told (rows_in c)) i → (TurnEarlier (told (rows_in c)) i → ⊥) → FirstOn (TermCause c i) 6
    turn_first stands no_later broken = record { is = own_turn broken; first = after_block stands no_later }

    pub term_fine : Fits (rows_in c) i → (n : ℕ) → TermCause c i n → ⊥
    term_fine f n (term b) = b f.stands
    term_fine f n (later_block b) = b f.no_later_block
    term_fine f n (own_turn b) = b f.turn_earlier

  pub asked_first : (r : AskedRow) → c.asked ≡ Some r → c.head.terms ≤ r.term → FirstOn (AskedCause c) 8
  asked_first r asks missing = record { is = missing_term r asks missing; first = after }
    where
      after : (n : ℕ) → AskedCause c n → Sooner 8 n
      after n (missing_term _ _ _) = sooner 8 8 (omega arith) (omega arith)

  pub behind_first : (rest : List ℕ) → (Ended c rest → ⊥) → FirstOn (CauseBehind c rest) 12
  behind_first rest broken = record { is = malformed broken; first = λ n cause. inl refl }
