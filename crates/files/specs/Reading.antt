-- What reading a file gives.
use Rattle.std.specs.Prelude.{◌≡◌, ℕ, min, List, Some, None, Option}
use Rattle.files.specs.declared.contents.ReadFile.{ReadFile}
use Rattle.files.specs.declared.fault.FileRefusal.{FileRefusal}
use Rattle.files.specs.declared.fault.FileRefusal.TheVariants.{NoRoom, Fault, NoMemory}
use Rattle.files.specs.declared.fault.LineCause.{LineCause}
use Rattle.files.specs.Contents.{Contents, Reads, NoHead, Ended, contents_of}
use Rattle.files.specs.Faults.{number_of_cause, number_of_file, line_of_file}

-- there is a cause at the next line exactly where the file does not end with the line that asks, and it is that the line is malformed
abbrev pub Stopped : Contents → List ℕ → Option LineCause → Type 0
Stopped c rest None = Ended c rest
Stopped c rest (Some cause) = (Ended c rest → ⊥) × (number_of_cause cause ≡ 12)

-- reading stops behind these contents
pub record ReadTo (file : List ℕ) (c : Contents) (fault : Option LineCause) : Type 0 where
  pub rest : List ℕ
  pub reads : Reads file c rest
  pub stopped : Stopped c rest fault

abbrev pub ReadOf : List ℕ → ReadFile → Type 0
ReadOf file r = ReadTo file (contents_of r.contents) r.fault

-- there is no head; or memory ran out, and there is one
abbrev pub ReadRefused : List ℕ → FileRefusal → Type 0
ReadRefused file NoRoom = ⊥
ReadRefused file (Fault fault) = NoHead file × (number_of_file fault ≡ 12) × (line_of_file fault ≡ 1)
ReadRefused file NoMemory = NoHead file → ⊥

-- 16 bits hold no more; no shape has such a depth
abbrev pub capped : ℕ → ℕ
capped n = min n 65535
