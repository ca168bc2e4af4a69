-- Calls on one file agree.
use Rattle.std.proofs.Common.{◌≡◌, ℕ, List, length, Ok, Err, Result, sym, ap, ◌∙◌, subst}
use Rattle.std.proofs.Math.Path.{fun_ext}
use Rattle.files.specs.declared.fault.FileRefusal.{FileRefusal}
use Rattle.files.specs.declared.fault.FileRefusal.TheVariants.{Fault}
use Rattle.files.specs.declared.head.GradeKind.{GradeKind}
use Rattle.files.specs.declared.head.GradeKind.TheVariants.{YesNo, StageSets}
use Rattle.files.specs.declared.tables.FileTables.{FileTables}
use Rattle.files.specs.Contents.{Contents}
use Rattle.files.specs.Files.{FileAnswers, Listed, Lists, ListsByKind, Refuses, SettledByKind}
use Rattle.files.specs.Listings.{Writes}
use Rattle.files.specs.Outcomes.{CallsAgree, OneOutcomeOf, SameAnswer}
use Rattle.files.specs.Tables.{room_in}
use Rattle.files.proofs.OneOutcomes.{one_outcome_lem}

-- where the tables hold what settled, the text lists the row
settled_lists : (g : GradeKind) (c : Contents) (asked : ℕ) (tables after : FileTables) (text : List ℕ) → SettledByKind g c asked tables after text → ListsByKind g c asked text
settled_lists YesNo c asked tables after text (s, _) = (s.tree, (s.tree_of, (s.settled.solved, s.settled.lists)))
settled_lists StageSets c asked tables after text (s, _) = (s.tree, (s.tree_of, (s.settled.solved, s.settled.lists)))

-- what a call lists is what the file lists
call_lists : {file : List ℕ} {tables after : FileTables} {output written : List ℕ} {size : ℕ} (l : Listed file tables after output written size) → Lists (room_in tables) file l.written.text
call_lists {tables = tables} {after = after} l = record { contents = l.contents; asked = l.asked; lawful = l.lawful; lists = settled_lists l.contents.head.grades l.contents l.asked tables after l.written.text l.written.holds }

module _ (file : List ℕ) (tables after tables' after' : FileTables) (output written output' written' : List ℕ) (same : (g : GradeKind) → room_in tables g ≡ room_in tables' g) where
  one : OneOutcomeOf (room_in tables) file
  one = one_outcome_lem (room_in tables) file

  -- the outcome in the tables of the second call is that in those of the first
  same_rooms : room_in tables' ≡ room_in tables
  same_rooms = fun_ext (λ g. sym (same g))

  lists_here : (text : List ℕ) → Lists (room_in tables') file text → Lists (room_in tables) file text
  lists_here text = subst (λ rooms. Lists rooms file text) same_rooms

  refuses_here : (n l : ℕ) → Refuses (room_in tables') file n l → Refuses (room_in tables) file n l
  refuses_here n l = subst (λ rooms. Refuses rooms file n l) same_rooms

  agree : (answer answer' : Result ℕ FileRefusal) → FileAnswers file tables after output written answer → FileAnswers file tables' after' output' written' answer' → SameAnswer output written output' written' answer answer'
  agree (Ok size) (Ok size') l m =
      let e : m.written.text ≡ l.written.text = one.listed_once m.written.text l.written.text (lists_here m.written.text (call_lists m)) (call_lists l) in
      (l.written.is_size ∙ sym (ap length e) ∙ sym m.written.is_size, (l.written.text, (l.written.writes, subst (Writes output' written') e m.written.writes)))
  agree (Ok size) (Err (Fault fault)) l r = one.not_both _ _ l.written.text (refuses_here _ _ r.1) (call_lists l)
  agree (Err (Fault fault)) (Ok size) r m = one.not_both _ _ m.written.text r.1 (lists_here m.written.text (call_lists m))
  agree (Err (Fault fault)) (Err (Fault fault')) r s = one.refused_once _ _ _ _ r.1 (refuses_here _ _ s.1)
  agree _ _ r s = tt

pub calls_agree_lem : CallsAgree
calls_agree_lem file tables after tables' after' output written output' written' answer answer' same = agree file tables after tables' after' output written output' written' same answer answer'
