use Rattle.std.proofs.Common.{ℕ, ◌<◌}
use Rattle.files.specs.Causes.{mark_at}
use Rattle.files.specs.Checking.{MarkSound}
use Rattle.files.specs.Contents.{contents_of}
use Rattle.files.proofs.causes.Checked.marks.Given as goal

abbrev pub invariant-loop-i : goal.invariant-loop-i
invariant-loop-i l = (j : ℕ) → j < l.i → MarkSound l.self.contents.now.head (mark_at (contents_of l.self.contents.now) j)
