-- For yes and no, the blockwise solution is what the blocks of formulas select.
use Rattle.std.proofs.Common.{◌≡◌, ℕ, zero, suc, ◌<◌, ◌≤◌, Bool, T, length, sym, refl, ◌∙◌, subst, le_refl, arith}
use Rattle.grades.specs.YesNo.{yes_no, yes_no_laws}
use Rattle.grades.proofs.YesNo.{implied}
use Rattle.shapes.specs.Tree.{Tree, Iff, Laws as TreeLaws}
use Rattle.queries.specs.declared.block.Solution.{Solution}
use Rattle.queries.specs.declared.block.Solution.TheVariants.{Least, Greatest}
use Rattle.queries.specs.Table.{Table, Admitted, term_at, block_of, solution_at}
use Rattle.meaning.specs.Solutions.{Grades, Entry, AgreeBefore, Better, Solves, Best, Blockwise, grade_of_lem}
use Rattle.meaning.specs.Formulas.{Node, Sets, Holds, DefinedIn, SolutionOver, Assigned, Selected, formula_of}
use Rattle.meaning.specs.Theorems.{nodes_of, Selects, OneSelection}
use Rattle.meaning.proofs.Admitted.{block_stands}
use Rattle.meaning.proofs.Blocks.{best_carries, blockwise_stands}
use Rattle.meaning.proofs.Monotone.{Lawful}
use Rattle.meaning.proofs.Sets.{same_test, grades_of, nodes_back, grade_holds}
use Rattle.meaning.proofs.Sums.{below_suc}

module _ {t : Tree} (nodes : TreeLaws t) (q : Table) (labels : Grades Bool) (b : ℕ) where
  entry : {c i : ℕ} → DefinedIn q c i → (z : Node t) → Entry q t c i z.number
  entry d z = record { term = d.term; dealt_here = d.dealt_here; node = z.stands }

  -- a solution by grades is a solution by sets
  pub solution_sets : (ρ σ : Grades Bool) → AgreeBefore t q b ρ σ → Solves yes_no t q labels b σ → SolutionOver t q (nodes_of t labels) b (nodes_of t ρ) (nodes_of t σ)
  solution_sets ρ σ agree solves = record {
    earlier = λ c i h d z. agree c i z.number h (entry d z);
    defined = λ i d z.
        let iff : Iff (T (grade_of_lem yes_no t labels σ (term_at q i) z.number)) (Holds t (nodes_of t labels) (nodes_of t σ) (formula_of (term_at q i)) z) = grade_holds nodes labels σ (term_at q i) z in
        (λ p. iff.0 (subst T (solves i z.number (entry d z)) p), λ h. subst T (sym (solves i z.number (entry d z))) (iff.1 h));
  }

  -- and the other way round
  pub solution_grades : (ρ σ : Grades Bool) → SolutionOver t q (nodes_of t labels) b (nodes_of t ρ) (nodes_of t σ) → AgreeBefore t q b ρ σ × Solves yes_no t q labels b σ
  solution_grades ρ σ over = (
    λ c i x h e. over.earlier c i h (record { term = e.term; dealt_here = e.dealt_here }) (record { number = x; stands = e.node }),
    λ i x e.
        let z : Node t = record { number = x; stands = e.node } in
        let iff : Iff (T (grade_of_lem yes_no t labels σ (term_at q i) x)) (Holds t (nodes_of t labels) (nodes_of t σ) (formula_of (term_at q i)) z) = grade_holds nodes labels σ (term_at q i) z in
        let here : Iff (T (σ i x)) (Holds t (nodes_of t labels) (nodes_of t σ) (formula_of (term_at q i)) z) = over.defined i (record { term = e.term; dealt_here = e.dealt_here }) z in
        same_test (σ i x) (grade_of_lem yes_no t labels σ (term_at q i) x) (λ p. iff.1 (here.0 p)) (λ p. here.1 (iff.0 p)),
  )

  -- a set that is a solution's, and the best of all solutions', is what the block assigns
  best_assigned : (s : Solution) (ρ : Sets t) (i : ℕ) (z : Node t) → SolutionOver t q (nodes_of t labels) b ρ ρ → ((σ : Sets t) → SolutionOver t q (nodes_of t labels) b ρ σ → Better yes_no s (ρ i z) (σ i z)) → Iff (T (ρ i z)) (Assigned t q (nodes_of t labels) b s ρ i z)
  best_assigned Least ρ i z own best = (λ p σ over. implied (ρ i z) (σ i z) (best σ over) p, λ h. h ρ own)
  best_assigned Greatest ρ i z own best = (λ p. (ρ, (own, p)), λ w. implied (w.0 i z) (ρ i z) (best w.0 w.1.0) w.1.1)

  pub best_selected : (v : Grades Bool) → Best yes_no t q labels b v → (i : ℕ) → DefinedIn q b i → (z : Node t) → Iff (T (v i z.number)) (Assigned t q (nodes_of t labels) b (solution_at q b) (nodes_of t v) i z)
  best_selected v best i d z =
      best_assigned (solution_at q b) (nodes_of t v) i z (solution_sets v v (λ c j y h e. refl) best.solves) λ σ over.
      subst (λ τ. SolutionOver t q (nodes_of t labels) b (nodes_of t v) τ → Better yes_no (solution_at q b) (v i z.number) (τ i z)) (nodes_back t σ)
      (λ over'. let grades : AgreeBefore t q b v (grades_of t σ) × Solves yes_no t q labels b (grades_of t σ) = solution_grades v (grades_of t σ) over' in
      subst (λ c. Better yes_no (solution_at q c) (v i z.number) (grades_of t σ i z.number)) d.dealt_here (best.best (grades_of t σ) grades.0 grades.1 i z.number (entry d z)))
      over

-- over sets that agree on the earlier blocks the same is assigned
module _ (t : Tree) (q : Table) (labels : Sets t) (b : ℕ) (ρ σ : Sets t) (same : (c i : ℕ) → c < b → DefinedIn q c i → (z : Node t) → ρ i z ≡ σ i z) where
  solution_same : (τ : Sets t) → SolutionOver t q labels b ρ τ → SolutionOver t q labels b σ τ
  solution_same τ over = record { earlier = λ c i h d z. sym (same c i h d z) ∙ over.earlier c i h d z; defined = over.defined }

assigned_same : (t : Tree) (q : Table) (labels : Sets t) (b : ℕ) (ρ σ : Sets t) → ((c i : ℕ) → c < b → DefinedIn q c i → (z : Node t) → ρ i z ≡ σ i z) → (s : Solution) (i : ℕ) (z : Node t) → Assigned t q labels b s ρ i z → Assigned t q labels b s σ i z
assigned_same t q labels b ρ σ same Least i z h = λ τ over. h τ (solution_same t q labels b σ ρ (λ c j l d y. sym (same c j l d y)) τ over)
assigned_same t q labels b ρ σ same Greatest i z h = (h.0, (solution_same t q labels b ρ σ same h.0 h.1.0, h.1.1))

-- two selections are the same, block after block
module _ (t : Tree) (q : Table) (labels ρ σ : Sets t) (first : Selected t q labels ρ) (second : Selected t q labels σ) where
  same_before : (b : ℕ) → b ≤ length q.blocks → (c i : ℕ) → c < b → DefinedIn q c i → (z : Node t) → ρ i z ≡ σ i z
  same_before zero h = λ c i l d z. absurd (omega arith)
  same_before (suc b) h =
      let before : (c i : ℕ) → c < b → DefinedIn q c i → (z : Node t) → ρ i z ≡ σ i z = same_before b (omega arith) in
      λ c i l. below_suc (λ c. DefinedIn q c i → (z : Node t) → ρ i z ≡ σ i z) b (λ e m. before e i m)
      (λ d z. same_test (ρ i z) (σ i z)
      (λ p. (second b h i d z).1 (assigned_same t q labels b ρ σ before (solution_at q b) i z ((first b h i d z).0 p)))
      (λ p. (first b h i d z).1 (assigned_same t q labels b σ ρ (λ c j m e y. sym (before c j m e y)) (solution_at q b) i z ((second b h i d z).0 p)))) c l

module _ (t : Tree) (q : Table) (nodes : TreeLaws t) (admitted : Admitted q) where
  lawful : Lawful yes_no t q
  lawful = record { kind = yes_no_laws; tree = nodes; admitted = admitted }

  pub blockwise_selected : (marks v : Grades Bool) → Blockwise yes_no t q marks v → Selected t q (nodes_of t marks) (nodes_of t v)
  blockwise_selected marks v blocks b h i d z = best_selected nodes q marks b v (blocks b h) i d z

  pub selected_blockwise : (marks v : Grades Bool) → Selected t q (nodes_of t marks) (nodes_of t v) → Blockwise yes_no t q marks v
  selected_blockwise marks v selected b h =
      let found : (w : Grades Bool) × Blockwise yes_no t q marks w = blockwise_stands lawful marks in
      best_carries lawful marks b found.0 v
      (λ c i x l e. same_before t q (nodes_of t marks) (nodes_of t found.0) (nodes_of t v) (blockwise_selected marks found.0 found.1) selected (suc b) h c i l (record { term = e.term; dealt_here = e.dealt_here }) (record { number = x; stands = e.node }))
      (found.1 b h)

  selection_stands : (labels : Sets t) → (ρ : Sets t) × Selected t q labels ρ
  selection_stands labels =
      let marks : Grades Bool = grades_of t labels in
      let found : (w : Grades Bool) × Blockwise yes_no t q marks w = blockwise_stands lawful marks in
      (nodes_of t found.0, subst (λ τ. Selected t q τ (nodes_of t found.0)) (nodes_back t labels) (blockwise_selected marks found.0 found.1))

  selection_unique : (labels ρ σ : Sets t) → Selected t q labels ρ → Selected t q labels σ → (i : ℕ) → i < length q.terms → (z : Node t) → ρ i z ≡ σ i z
  selection_unique labels ρ σ first second i h z = same_before t q labels ρ σ first second (length q.blocks) (le_refl (length q.blocks)) (block_of q i) i (block_stands admitted i h) (record { term = h; dealt_here = refl }) z

pub selects : Selects
selects t q nodes admitted marks v = (blockwise_selected t q nodes admitted marks v, selected_blockwise t q nodes admitted marks v)

pub one_selection : OneSelection
one_selection t q nodes admitted labels = (selection_stands t q nodes admitted labels, selection_unique t q nodes admitted labels)
