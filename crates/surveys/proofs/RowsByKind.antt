-- Settled rows of yes and no are what the query's formulas select, and those of stage sets the same at each stage.
use Rattle.std.proofs.Common.{◌≡◌, ℕ, ◌<◌, Bool, length, sym, refl, ap, ◌∙◌}
use Rattle.grades.specs.declared.stage_set.StageSet.{StageSet}
use Rattle.grades.specs.Kind.{Kind, Laws as KindLaws}
use Rattle.grades.specs.StageSets.{bit, stage_sets}
use Rattle.grades.specs.YesNo.{yes_no, yes_no_laws}
use Rattle.grades.specs.Stages.{stage_set_laws}
use Rattle.shapes.specs.Tree.{Tree, Laws as TreeLaws}
use Rattle.queries.specs.Table.{Table, Admitted, block_of}
use Rattle.meaning.specs.Formulas.{Node, Sets, Selected}
use Rattle.meaning.specs.Solutions.{Grades, Blockwise}
use Rattle.meaning.specs.Theorems.{nodes_of, stage}
use Rattle.meaning.proofs.Blocks.{blockwise_stands, blockwise_unique}
use Rattle.meaning.proofs.Monotone.{Lawful}
use Rattle.meaning.proofs.Selections.{selects, one_selection}
use Rattle.meaning.proofs.Stages.{solved_by_stage}
use Rattle.surveys.specs.Promise.{opening}
use Rattle.surveys.specs.Readings.{WhereSettled, SelectsSettled, SolvesByStage, SelectsByStage, ReadsByStage}
use Rattle.surveys.proofs.Courses.{sound_after}
use Rattle.surveys.proofs.Keys.{sound_key}
use Rattle.surveys.proofs.Marks.{blockwise_marks}

-- a settled row is that of the blockwise solution
settled_solves : {G : Type 0} {k : Kind G} → KindLaws k → WhereSettled k λ t q s i. (v : Grades G) → Blockwise k t q s.marks v → (x : ℕ) → x < t.count → s.values i x ≡ v i x
settled_solves {k = k} laws t q marks nodes admitted past s course i h settled v solution x n =
    let f : Lawful k t q = record { kind = laws; tree = nodes; admitted = admitted } in
    sound_key (opening k t q marks) f s (sound_after (opening k t q marks) f past s course) v solution (block_of q i) i x settled (record { term = h; dealt_here = refl; node = n })

-- a yes/no solution is what the formulas select
solution_selected : (t : Tree) (q : Table) → TreeLaws t → Admitted q → (marks v : Grades Bool) → Blockwise yes_no t q marks v → (ρ : Sets t) → Selected t q (nodes_of t marks) ρ → (i : ℕ) → i < length q.terms → (z : Node t) → nodes_of t v i z ≡ ρ i z
solution_selected t q nodes admitted marks v solution ρ selected i h z = (one_selection t q nodes admitted (nodes_of t marks)).1 (nodes_of t v) ρ ((selects t q nodes admitted marks v).0 solution) selected i h z

pub selects_settled : SelectsSettled
selects_settled t q marks nodes admitted past s course i h settled ρ selected z =
    let found : (v : Grades Bool) × Blockwise yes_no t q s.marks v = blockwise_stands (record { kind = yes_no_laws; tree = nodes; admitted = admitted }) s.marks in
    settled_solves yes_no_laws t q marks nodes admitted past s course i h settled found.0 found.1 z.number z.stands
    ∙ solution_selected t q nodes admitted s.marks found.0 found.1 ρ selected i h z

-- each stage of the solution is the solution on the stage's marks
pub solves_by_stage : SolvesByStage
solves_by_stage t q marks nodes admitted past s course i h settled n l v solution x hx =
    let found : (w : Grades StageSet) × Blockwise stage_sets t q s.marks w = blockwise_stands (record { kind = stage_set_laws; tree = nodes; admitted = admitted }) s.marks in
    ap (bit n) (settled_solves stage_set_laws t q marks nodes admitted past s course i h settled found.0 found.1 x hx)
    ∙ blockwise_unique (record { kind = yes_no_laws; tree = nodes; admitted = admitted }) (stage n s.marks) (stage n found.0) v ((solved_by_stage t q nodes admitted s.marks found.0).0 found.1 n l) solution i x h hx

pub selects_by_stage : SelectsByStage
selects_by_stage t q marks nodes admitted past s course i h settled n l ρ selected z =
    let found : (v : Grades Bool) × Blockwise yes_no t q (stage n s.marks) v = blockwise_stands (record { kind = yes_no_laws; tree = nodes; admitted = admitted }) (stage n s.marks) in
    solves_by_stage t q marks nodes admitted past s course i h settled n l found.0 found.1 z.number z.stands
    ∙ solution_selected t q nodes admitted (stage n s.marks) found.0 found.1 ρ selected i h z

-- a yes/no survey has the same solution where it has the stage's marks
pub reads_by_stage : ReadsByStage
reads_by_stage t q marks nodes admitted past s course i h settled n l marks' past' s' course' same settled' x hx =
    let f : Lawful yes_no t q = record { kind = yes_no_laws; tree = nodes; admitted = admitted } in
    let found : (v : Grades Bool) × Blockwise yes_no t q (stage n s.marks) v = blockwise_stands f (stage n s.marks) in
    let here : Blockwise yes_no t q s'.marks found.0 = blockwise_marks (opening yes_no t q marks') f (stage n s.marks) s'.marks found.0 (λ a y ha hy. sym (same a y ha hy)) found.1 in
    solves_by_stage t q marks nodes admitted past s course i h settled n l found.0 found.1 x hx
    ∙ sym (settled_solves yes_no_laws t q marks' nodes admitted past' s' course' i h settled' found.0 here x hx)
