-- The published numbers of faults, and the lines that they point at.
use Rattle.std.specs.Prelude.{ℕ}
use Rattle.queries.specs.Refusals as queries
use Rattle.shapes.specs.Refusals as shapes
use Rattle.surveys.specs.Refusals as surveys
use Rattle.files.specs.declared.fault.FileFault.{FileFault}
use Rattle.files.specs.declared.fault.FileFault.TheVariants.{TooLong, Line, TooManySteps}
use Rattle.files.specs.declared.fault.FileRefusal.{FileRefusal}
use Rattle.files.specs.declared.fault.FileRefusal.TheVariants.{NoRoom, Fault, NoMemory}
use Rattle.files.specs.declared.fault.LineCause.{LineCause}
use Rattle.files.specs.declared.fault.LineCause.TheVariants.{Field, OtherLine, NoEnd, Shape, Query, Survey}

-- a malformed line or field is 12; a rule that a line breaks has the number that it has elsewhere
abbrev pub number_of_cause : LineCause → ℕ
number_of_cause (Field fault) = 12
number_of_cause OtherLine = 12
number_of_cause NoEnd = 12
number_of_cause (Shape why) = shapes.published why
number_of_cause (Query why) = queries.published why
number_of_cause (Survey why) = surveys.published why

abbrev pub number_of_file : FileFault → ℕ
number_of_file TooLong = 13
number_of_file (Line fault) = number_of_cause fault.cause
number_of_file (TooManySteps line) = 14

-- a file that is too long is refused as a whole, at line 0
abbrev pub line_of_file : FileFault → ℕ
line_of_file TooLong = 0
line_of_file (Line fault) = fault.line
line_of_file (TooManySteps line) = line

abbrev pub number_of : FileRefusal → ℕ
number_of NoRoom = 7
number_of (Fault fault) = number_of_file fault
number_of NoMemory = 99
