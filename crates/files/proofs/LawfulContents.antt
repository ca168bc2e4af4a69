-- Contents that have no cause to be refused have lawful depths, and a query that is admitted.
use Rattle.std.proofs.Common.{◌≡◌, ℕ, ◌-◌, ◌<◌, ◌≤◌, List, length, ◌∙◌, arith}
use Rattle.std.proofs.lemmas.List.{length-append, length-map, length-replicate}
use Rattle.shapes.specs.DepthLaws.{depth_laws}
use Rattle.shapes.specs.Depths.{DepthTree, LawfulDepths}
use Rattle.shapes.specs.MirrorLaws.{laws_of_mirror}
use Rattle.shapes.specs.Tree.{Tree, Countable, Laws}
use Rattle.queries.specs.Admission.{Admissible, BlockFits, Fits}
use Rattle.queries.specs.Rows.{told}
use Rattle.queries.specs.Table.{Admitted, term_at}
use Rattle.queries.proofs.Directions.{told_admitted_lem}
use Rattle.files.specs.declared.head.Hand.{Hand}
use Rattle.files.specs.declared.head.Hand.TheVariants.{AsListed, Mirrored}
use Rattle.files.specs.declared.rows.NodeRow.{NodeRow}
use Rattle.files.specs.declared.tables.Room.{Room}
use Rattle.files.specs.Causes.{HeadFits, NoCause, depths_in, rows_in}
use Rattle.files.specs.Causes.{no_shape, no_query, depth, block, sum, term, later_block, own_turn}
use Rattle.files.specs.Causes.Cause.{at_block, at_head, at_node, at_term}
use Rattle.files.specs.Contents.{Contents, TermsThere}
use Rattle.files.specs.Files.{TreeOf}
use Rattle.files.proofs.Decided.{sure}
use Rattle.files.proofs.RulesDecided.{adds_up?, block_fits?, countable?, head_fits?, later?, rule?, stands?, turn?}

module _ {room : Room} {c : Contents} {rest : List ℕ} (none : NoCause room c rest) (there : TermsThere c) where
  countable : Countable c.head.nodes
  countable = sure (countable? c.head.nodes) (λ why. none _ _ (at_head 1 (no_shape why)))

  head_fits : HeadFits c.head
  head_fits = sure (head_fits? c.head) (λ why. none _ _ (at_head 3 (no_query why)))

  as_many_depths : length (depths_in c) ≡ length c.nodes
  as_many_depths = length-map c.nodes (λ (r : NodeRow). r.depth)

  pub few_depths : Countable (length (depths_in c))
  few_depths = rw (as_many_depths, there.0.0) countable

  pub lawful_depths : LawfulDepths (depths_in c)
  lawful_depths x l = sure (rule? (depths_in c) x) (λ why. none _ _ (at_node x 2 (omega (arith, as_many_depths)) (depth why)))

  pub depth_tree_laws : (t : Tree) → DepthTree (depths_in c) t → Laws t
  depth_tree_laws t d = depth_laws (depths_in c) t few_depths lawful_depths d

  pub tree_laws : (h : Hand) (t : Tree) → TreeOf c h t → Laws t
  tree_laws AsListed t d = depth_tree_laws t d
  tree_laws Mirrored t (s, d) = laws_of_mirror s t (depth_tree_laws s d.0) d.1

  pub as_many_terms : length (rows_in c).terms ≡ length c.terms
  as_many_terms = length-append c.terms _ ∙ rw length-replicate (omega (arith, there.1))

  block_fits : (b : ℕ) → b < length c.blocks → BlockFits (rows_in c) b
  block_fits b l = sure (block_fits? (rows_in c) b) (λ why. none _ _ (at_block b 3 l (block why)))

  term_fits : (i : ℕ) → i < length c.terms → Fits (rows_in c) i
  term_fits i l = record {
    stands = sure (stands? (rows_in c) i) (λ why. none _ _ (at_term i 4 l (term why)));
    no_later_block = sure (later? (rows_in c) i) (λ why. none _ _ (at_term i 5 l (later_block why)));
    turn_earlier = sure (turn? (rows_in c) (term_at (told (rows_in c)) i) i) (λ why. none _ _ (at_term i 6 l (own_turn why)));
  }

  admissible : Admissible (rows_in c)
  admissible = record {
    framed = record {
      sizes = record {
        few_tags = head_fits.few_tags;
        some_term = omega (arith, as_many_terms, there.1, head_fits.some_term);
        few_terms = omega (arith, as_many_terms, there.1, head_fits.few_terms);
      };
      blocks = block_fits;
      sum = sure (adds_up? (rows_in c)) (λ why. let some : 1 ≤ length c.blocks = omega (arith, there.0.1, head_fits.some_block) in none _ _ (at_block (length c.blocks - 1) 3 (omega arith) (sum (omega arith) there.0 why)));
    };
    terms = λ i l. term_fits i (omega (arith, as_many_terms));
  }

  pub admitted : Admitted (told (rows_in c))
  admitted = told_admitted_lem (rows_in c) admissible
