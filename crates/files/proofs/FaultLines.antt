-- A refusal points at a line of the file, or at the line behind it.
use Rattle.std.proofs.Common.{ℕ, ◌+◌, ◌≤◌, List, [], arith}
use Rattle.files.specs.declared.head.GradeKind.{GradeKind}
use Rattle.files.specs.declared.tables.Room.{Room}
use Rattle.files.specs.Causes.{Cause}
use Rattle.files.specs.Causes.Cause.{at_asked, at_block, at_end, at_head, at_mark, at_node, at_term}
use Rattle.files.specs.Contents.{Contents, lines_of}
use Rattle.files.specs.Files.{Refuses, most_bytes}
use Rattle.files.specs.Files.Refuses.{too_long, no_head, first_cause, too_many_steps}
use Rattle.files.proofs.Sizes.{lines_bounded}

cause_line : (room : Room) (c : Contents) (rest : List ℕ) (n l : ℕ) → Cause room c rest n l → l ≤ lines_of c + 1
cause_line room c rest n l (at_head m h) = omega arith
cause_line room c rest n l (at_node x m here h) = omega arith
cause_line room c rest n l (at_block b m here h) = omega arith
cause_line room c rest n l (at_term i m here h) = omega arith
cause_line room c rest n l (at_mark j m here h) = omega arith
cause_line room c rest n l (at_asked m h) = omega arith
cause_line room c rest n l (at_end m h) = omega arith

pub line_bounded : (rooms : GradeKind → Room) (file : List ℕ) (n l : ℕ) → Refuses rooms file n l → l ≤ most_bytes + 1
line_bounded rooms file n l (too_long h) = omega arith
line_bounded rooms file n l (no_head short h) = omega arith
line_bounded rooms file n l (first_cause c rest number line short r first) = omega (arith, lines_bounded file c rest r, cause_line (rooms c.head.grades) c rest number line first.cause)
line_bounded rooms file n l (too_many_steps c asked lawful h) = omega (arith, lawful.short, lines_bounded file c [] lawful.reads)
