-- The marks of a table that was lowest throughout, once those of rows are set in it.
use Rattle.std.proofs.Common.{◌≡◌, ℕ, ◌*◌, ◌/◌, ◌%◌, ◌<◌, ◌≤◌, cond, List, length, get_or, replicate, ltb, sym, refl, ap, ◌∙◌, ⊎_elim, arith}
use Rattle.std.proofs.lemmas.Bool.{cases_lt, lt-ltb, le-ltb}
use Rattle.std.proofs.lemmas.List.{get_or_past}
use Rattle.std.proofs.lemmas.Nat.{div-add-mod', le-div, mod_below}
use Rattle.grades.specs.Filed.{Numbered}
use Rattle.grades.specs.Kind.{Kind}
use Rattle.shapes.specs.Tree.{Tree}
use Rattle.queries.specs.Table.{Table}
use Rattle.meaning.specs.Solutions.{Grades}
use Rattle.meaning.specs.Tables.{place, grades_in}
use Rattle.surveys.specs.Opens.{Agrees}
use Rattle.surveys.specs.Standing.{Lent}
use Rattle.surveys.proofs.Placed.{place_inside}
use Rattle.files.specs.declared.rows.MarkRow.{MarkRow}
use Rattle.files.specs.CallSteps.{MarksInSurvey, SetsMarks}
use Rattle.files.specs.Listings.{Filed}
use Rattle.files.specs.Settling.{MarksOf, last_mark}
use Rattle.files.proofs.Throughout.{throughout}
use Rattle.files.proofs.MarkRows.{unmarked}

-- the marks of a table, with lowest for what is no tag or no node
abbrev pub marks_in : {G : Type 0} → Kind G → Tree → Table → List G → Grades G
marks_in k t q table a x = cond (ltb a q.tags) (cond (ltb x t.count) (grades_in k t.count table a x) k.lowest) k.lowest

pub marks_agree : {G : Type 0} (k : Kind G) (t : Tree) (q : Table) (l : Lent G) → Agrees k t q l (marks_in k t q l.marks)
marks_agree k t q l a x tag node = rw (lt-ltb a q.tags tag, lt-ltb x t.count node) refl

module _ {G : Type 0} (k : Filed G) (t : Tree) (q : Table) (rows : List MarkRow) (stand : MarksInSurvey k.number t q rows) (size : ℕ) (before after : List G) (clear : before ≡ replicate size k.kind.lowest) (set : SetsMarks k t.count rows before after) where
  -- what is no tag or no node has no mark
  no_tag : (a x : ℕ) → q.tags ≤ a → last_mark (k.number k.kind.lowest) rows a x ≡ k.number k.kind.lowest
  no_tag a x out = unmarked rows (k.number k.kind.lowest) a x (λ j h is. omega (arith, (stand j h).tag, is.0))

  no_node : (a x : ℕ) → t.count ≤ x → last_mark (k.number k.kind.lowest) rows a x ≡ k.number k.kind.lowest
  no_node a x out = unmarked rows (k.number k.kind.lowest) a x (λ j h is. omega (arith, (stand j h).node, is.1))

  marked : (a x : ℕ) → x < t.count → place t.count a x < length before → k.number (grades_in k.kind t.count after a x) ≡ last_mark (k.number k.kind.lowest) rows a x
  marked a x node inside = set a x node inside ∙ ap (λ g. last_mark (k.number g) rows a x) (ap (λ table. get_or table (place t.count a x) k.kind.lowest) clear ∙ throughout size (place t.count a x) k.kind.lowest)

  pub marks_of : q.tags * t.count ≤ length before → MarksOf k rows (marks_in k.kind t q after)
  marks_of room a x =
      ⊎_elim
      (λ tag.
      ⊎_elim
      (λ node. rw (lt-ltb a q.tags tag, lt-ltb x t.count node) (marked a x node (omega (arith, place_inside t.count q.tags a x tag node))))
      (λ past. rw (lt-ltb a q.tags tag, le-ltb x t.count past) (sym (no_node a x past)))
      (cases_lt x t.count))
      (λ past. rw (le-ltb a q.tags past) (sym (no_tag a x past)))
      (cases_lt a q.tags)

  -- behind the marks of the survey the table is still lowest
  pub marks_behind : Numbered k.number → 1 ≤ t.count → length after ≡ length before → (p : ℕ) → q.tags * t.count ≤ p → get_or after p k.kind.lowest ≡ k.kind.lowest
  marks_behind numbered some same p past = ⊎_elim inside (get_or_past after p k.kind.lowest) (cases_lt p (length after))
    where
      at : place t.count (p / t.count) (p % t.count) ≡ p
      at = div-add-mod' p t.count

      inside : p < length after → get_or after p k.kind.lowest ≡ k.kind.lowest
      inside h =
          let here = marked (p / t.count) (p % t.count) (mod_below p t.count some) (omega (arith, at)) in
          numbered.apart (get_or after p k.kind.lowest) k.kind.lowest
          (ap (λ r. k.number (get_or after r k.kind.lowest)) (sym at) ∙ (here ∙ no_tag (p / t.count) (p % t.count) (le-div q.tags p t.count some past)))
