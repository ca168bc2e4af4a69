-- The kinds of lines in a survey file, and how each is written.
use Rattle.std.specs.Prelude.{ℕ, [], ◌∷◌}
use Rattle.queries.specs.declared.rows.BlockRow.{BlockRow}
use Rattle.queries.specs.declared.rows.TermRow.{TermRow}
use Rattle.files.specs.declared.head.GradeKind.{GradeKind}
use Rattle.files.specs.declared.head.GradeKind.TheVariants.{YesNo, StageSets}
use Rattle.files.specs.declared.head.Hand.{Hand}
use Rattle.files.specs.declared.head.Hand.TheVariants.{AsListed, Mirrored}
use Rattle.files.specs.declared.head.Head.{Head}
use Rattle.files.specs.declared.rows.AskedRow.{AskedRow}
use Rattle.files.specs.declared.rows.MarkRow.{MarkRow}
use Rattle.files.specs.declared.rows.NodeRow.{NodeRow}
use Rattle.files.specs.Lines.{RowForm, five, ten}

-- Y and G
abbrev pub grade_letter : GradeKind → ℕ
grade_letter YesNo = 89
grade_letter StageSets = 71

-- R and L
abbrev pub hand_letter : Hand → ℕ
hand_letter AsListed = 82
hand_letter Mirrored = 76

-- H
abbrev pub head_form : RowForm Head
head_form = record {
  letter = 72;
  columns = λ h. five h.nodes ∷ (five h.tags ∷ (five h.blocks ∷ (five h.terms ∷ [])));
  behind = λ h. grade_letter h.grades ∷ (hand_letter h.hand ∷ []);
}

-- N
abbrev pub node_form : RowForm NodeRow
node_form = record { letter = 78; columns = λ r. five r.depth ∷ []; behind = λ _. [] }

-- B
abbrev pub block_form : RowForm BlockRow
block_form = record { letter = 66; columns = λ r. five r.kind ∷ (five r.terms ∷ []); behind = λ _. [] }

-- T
abbrev pub term_form : RowForm TermRow
term_form = record { letter = 84; columns = λ r. five r.kind ∷ (five r.a ∷ (five r.b ∷ [])); behind = λ _. [] }

-- M
abbrev pub mark_form : RowForm MarkRow
mark_form = record { letter = 77; columns = λ r. five r.node ∷ (five r.tag ∷ (ten r.grade ∷ [])); behind = λ _. [] }

-- Q
abbrev pub asked_form : RowForm AskedRow
asked_form = record { letter = 81; columns = λ r. five r.term ∷ []; behind = λ _. [] }
