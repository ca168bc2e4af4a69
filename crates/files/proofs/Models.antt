-- A file that nothing is wrong with can be settled.
use Rattle.std.proofs.Common.{◌≡◌, ℕ, zero, suc, ◌-◌, ◌<◌, true, false, append-nil, map, length, Some, None, sym, ap, refl, ◌∙◌, inl, inr, ◌≢◌, arith}
use Rattle.std.proofs.lemmas.Bool.{cases_lt}
use Rattle.std.proofs.lemmas.List.{length-map}
use Rattle.grades.specs.Filed.{yes_no_number, stage_set_number}
use Rattle.shapes.specs.DepthShapes.{depth_shape_tree}
use Rattle.shapes.specs.Tree.{Tree}
use Rattle.queries.specs.Rows.{told}
use Rattle.queries.specs.Table.{Table}
use Rattle.files.specs.declared.head.GradeKind.TheVariants.{YesNo, StageSets}
use Rattle.files.specs.declared.model.Model.{Model}
use Rattle.files.specs.declared.rows.AskedRow.{AskedRow}
use Rattle.files.specs.declared.tables.Room.{Room}
use Rattle.files.specs.Causes.{HasRoom, RoomFor, IsGradeNumber, MarkStands, depths_in, rows_in, mark_at, mark_line}
use Rattle.files.specs.Causes.{too_short, no_grade, missing_mark, missing_term}
use Rattle.files.specs.Causes.Cause.{at_asked, at_head, at_mark}
use Rattle.files.specs.Contents.{Contents, TermsThere, lines_of}
use Rattle.files.specs.CallSteps.{GradesFor, MarksInSurvey, ModelOf, Sound}
use Rattle.files.specs.Reading.{capped}
use Rattle.files.proofs.Capped.{capped_same}
use Rattle.files.proofs.Decided.{sure}
use Rattle.files.proofs.LawfulContents.{as_many_terms, few_depths, lawful_depths}
use Rattle.files.proofs.RulesDecided.{grade_number?, has_room?, mark_stands?}

pub yes_no_grades : GradesFor yes_no_number YesNo
yes_no_grades zero l = (false, refl)
yes_no_grades (suc n) l = (true, omega arith)

pub stage_set_grades : GradesFor stage_set_number StageSets
stage_set_grades n l = (record { stages = n; fits = l }, refl)

pub as_many_nodes : (c : Contents) (m : Model) → ModelOf c m → (depth_shape_tree m.shape).count ≡ length c.nodes
as_many_nodes c m told = told.shape.tree.count ∙ rw length-map refl

module _ (room : Room) (c : Contents) (asked : AskedRow) (s : Sound room c asked) where
  some_asked : c.asked ≢ None
  some_asked e = let none : Some asked ≡ None = sym s.asks ∙ e in cc

  pub terms_there : TermsThere c
  terms_there = s.in_order.asked_after some_asked

  pub has_room : HasRoom room c.head
  has_room = sure (has_room? room c.head) (λ not. s.no_cause 7 1 (at_head 7 (too_short not)))

  pub depths_fit : map capped (depths_in c) ≡ depths_in c
  depths_fit = capped_same (depths_in c) (few_depths s.no_cause terms_there).1 (lawful_depths s.no_cause terms_there)

  none_missing : c.head.terms - length c.terms ≡ 0
  none_missing = omega (arith, terms_there.1)

  pub rows_whole : (rows_in c).terms ≡ c.terms
  rows_whole = rw (none_missing, append-nil) refl

  module _ (t : Tree) (q : Table) (count : t.count ≡ length c.nodes) (tells : q ≡ told (rows_in c)) where
    nodes : t.count ≡ c.head.nodes
    nodes = count ∙ terms_there.0.0

    tags : q.tags ≡ c.head.tags
    tags = ap (λ r. r.tags) tells

    terms : length q.terms ≡ c.head.terms
    terms = ap (λ r. length r.terms) tells ∙ rw length-map (as_many_terms s.no_cause terms_there ∙ terms_there.1)

    pub room_for : RoomFor q.tags (length q.terms) t.count room
    room_for = record { marks = rw (nodes, tags) has_room.marks; values = rw (nodes, terms) has_room.values; waiting = rw (nodes, terms) has_room.waiting }

    there : (j : ℕ) → j < length c.marks → MarkStands c.head (mark_at c j)
    there j l = sure (mark_stands? c.head (mark_at c j)) (λ not. s.no_cause 8 (mark_line c j) (at_mark j 8 l (missing_mark not)))

    is_number : (j : ℕ) → j < length c.marks → IsGradeNumber c.head.grades (mark_at c j).grade
    is_number j l = sure (grade_number? c.head.grades (mark_at c j).grade) (λ not. s.no_cause 12 (mark_line c j) (at_mark j 12 l (no_grade not)))

    pub marks_stand : {G : Type 0} (number : G → ℕ) → GradesFor number c.head.grades → MarksInSurvey number t q c.marks
    marks_stand number grades j l = let g = grades (mark_at c j).grade (is_number j l) in record {
      node = rw nodes (there j l).node;
      tag = rw tags (there j l).tag;
      grade = g.0;
      numbered = g.1;
    }

    pub term_there : asked.term < length q.terms
    term_there = elim (cases_lt asked.term (length q.terms)) [ inl l ↦ l | inr l ↦ absurd (s.no_cause 8 (lines_of c) (at_asked 8 (missing_term asked s.asks (omega (arith, terms))))) ]
