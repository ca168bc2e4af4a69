-- The listing of a file whose survey settles as computed.
use Rattle.std.proofs.Common.{◌≡◌, ℕ, Bool, true, not, Decides, ◌≢◌, List, [], ◌∷◌, ◌++◌, length, filter, refl, ap, subst, ap₂}
use Rattle.std.specs.Prelude.{◌==◌}
use Rattle.std.specs.List.{AllByRecursion, range_with_len, flat_map}
use Rattle.std.proofs.lemmas.Bool.{eqb-true, eq-eqb}
use Rattle.std.proofs.lemmas.Bool.Decides.{Decides-not}
use Rattle.grades.specs.Filed.{Numbered}
use Rattle.grades.specs.Kind.{Laws as KindLaws}
use Rattle.shapes.specs.Tree.{Tree, Laws as TreeLaws}
use Rattle.queries.specs.Rows.{told}
use Rattle.queries.specs.Table.{Table, Admitted}
use Rattle.surveys.specs.Promise.{opening}
use Rattle.surveys.specs.Rules.{Opening, State}
use Rattle.files.specs.declared.rows.MarkRow.{MarkRow}
use Rattle.files.specs.Causes.{rows_in}
use Rattle.files.specs.Contents.{Contents}
use Rattle.files.specs.Files.{ListsFor, TreeOf}
use Rattle.files.specs.Listings.{Filed, ListsBelow, answer_line, end_line, listing, selected_line}
use Rattle.files.specs.Settling.{Solved}
use Rattle.files.proofs.ComputedSteps.{settles_in, settles, state_of, after, fresh}
use Rattle.files.proofs.ComputedMarks.{last_grade, last_numbered}
use Rattle.files.proofs.Selecting.{lists_filtered}
use Rattle.files.proofs.Settled.{solved}

-- a kind that keeps its laws and whose grades are told by their numbers, and a grade for each number, of another than a grade's some grade
pub record Graded (G : Type 0) : Type 0 where
  pub filed : Filed G
  pub laws : KindLaws filed.kind
  pub numbered : Numbered filed.number
  pub grade : ℕ → G

module _ {G : Type 0} (k : Filed G) where
  abbrev pub same_grade : G → G → Bool
  same_grade g h = k.number g == k.number h

  -- the nodes whose grade in a row is not the lowest
  abbrev pub above_lowest : (ℕ → G) → ℕ → Bool
  above_lowest row x = not (same_grade (row x) k.kind.lowest)

  abbrev pub selected : ℕ → (ℕ → G) → List ℕ
  selected nodes row = filter (above_lowest row) (range_with_len 0 nodes)

  abbrev pub opening_on : (ℕ → G) → Tree → Table → List MarkRow → Opening G
  opening_on grade t q rows = opening k.kind t q (last_grade grade k.kind.lowest rows)

  abbrev pub settled_row : (ℕ → G) → Tree → Table → List MarkRow → ℕ → ℕ → ℕ → G
  settled_row grade t q rows steps asked = (state_of (opening_on grade t q rows) (after same_grade (opening_on grade t q rows) steps fresh)).values asked

-- what is computed for a file, over a tree: that its survey settles in so many steps, and then the row asked for
pub record Computed {G : Type 0} (k : Filed G) (grade : ℕ → G) (c : Contents) (t : Tree) (asked steps : ℕ) (numbers : ℕ → ℕ) (xs : List ℕ) : Type 0 where
  pub marks : AllByRecursion (λ m. k.number (grade m.grade) ≡ m.grade) c.marks
  pub settles : settles_in (same_grade k) (opening_on k grade t (told (rows_in c)) c.marks) steps ≡ true
  pub selects : selected k t.count (settled_row k grade t (told (rows_in c)) c.marks steps asked) ≡ xs
  pub numbered : AllByRecursion (λ x. numbers x ≡ k.number (settled_row k grade t (told (rows_in c)) c.marks steps asked x)) xs

same_lines : (numbers numbers' : ℕ → ℕ) (xs : List ℕ) → AllByRecursion (λ x. numbers x ≡ numbers' x) xs → flat_map (selected_line numbers) xs ≡ flat_map (selected_line numbers') xs
same_lines numbers numbers' [] e = refl
same_lines numbers numbers' (x ∷ xs) e = ap₂ ◌++◌ (ap (λ n. selected_line (λ _. n) x) e.0) (same_lines numbers numbers' xs e.1)

module _ {G : Type 0} (g : Graded G) where
  abbrev k : Filed G
  k = g.filed

  same_decides : (x y : G) → Decides (same_grade k x y) (x ≡ y)
  same_decides x y = (λ e. g.numbered.apart x y (eqb-true (k.number x) (k.number y) e), λ e. eq-eqb (k.number x) (k.number y) (ap k.number e))

  lists_above : (nodes : ℕ) (row : ℕ → G) → ListsBelow nodes (λ x. row x ≢ k.kind.lowest) (selected k nodes row)
  lists_above nodes row = lists_filtered (λ x. row x ≢ k.kind.lowest) (above_lowest k row) (λ x. Decides-not (same_grade k (row x) k.kind.lowest) (same_decides (row x) k.kind.lowest)) nodes

  module _ (c : Contents) (t : Tree) (laws : TreeLaws t) (tree_of : TreeOf c c.head.hand t) (admitted : Admitted (told (rows_in c))) (asked steps : ℕ) (numbers : ℕ → ℕ) (xs : List ℕ) (computed : Computed k g.grade c t asked steps numbers xs) where
    abbrev o : Opening G
    o = opening_on k g.grade t (told (rows_in c)) c.marks

    abbrev s : State G
    s = state_of o (after (same_grade k) o steps fresh)

    abbrev solution : Solved k t (told (rows_in c)) c.marks
    solution =
        solved k o.marks (last_numbered k.number g.grade k.kind.lowest c.marks computed.marks) (record { kind = g.laws; tree = laws; admitted = admitted })
        steps s (settles (same_grade k) same_decides o laws steps computed.settles)

    pub lists_for : ListsFor k c asked (listing t.count steps numbers xs)
    lists_for = (
      t,
      (
        tree_of,
        (
          solution,
          record {
            selected = xs;
            lists = subst (ListsBelow t.count (λ x. s.values asked x ≢ k.kind.lowest)) computed.selects (lists_above t.count (s.values asked));
            written = ap (λ lines. answer_line t.count steps ++ (lines ++ end_line (length xs))) (same_lines numbers (λ x. k.number (s.values asked x)) xs computed.numbered);
          },
        ),
      ),
    )
