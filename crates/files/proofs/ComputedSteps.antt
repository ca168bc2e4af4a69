-- The steps of a survey, computed.
use Rattle.std.proofs.Common.{◌≡◌, ℕ, zero, suc, Bool, true, false, cond, not, ◌&&◌, ◌||◌, eqb, ltb, leb, Decides, ◌≢◌, List, [], ◌∷◌, ◌++◌, length, Some, None, Option, sym, refl, ap, ◌∙◌, subst}
use Rattle.std.specs.Bool.{passes}
use Rattle.std.specs.Prelude.{◌==◌}
use Rattle.std.proofs.lemmas.Bool.{agree_below, agree_below_at, true≢false, false≢true, false_from_ne_true, not-true, not_from_false, and_parts, and_from, cond-true, cond-false, eqb-true, eq-eqb, ltb-true, lt-ltb, leb-true}
use Rattle.shapes.specs.Tree.{Tree, Laws as TreeLaws}
use Rattle.queries.specs.declared.term.Term.{Term}
use Rattle.queries.specs.Operands.{operands_of, either_is}
use Rattle.queries.specs.Table.{term_at, block_of}
use Rattle.queries.proofs.Operands.{reads_test, test_reads}
use Rattle.meaning.specs.Readings.{Reading}
use Rattle.meaning.specs.Solutions.{Grades}
use Rattle.meaning.proofs.Readings.{reading_reads}
use Rattle.surveys.specs.Places.{Place, Lists}
use Rattle.surveys.specs.Rules.{Opening, State, EntryOf, Queued, WorksOn, Steps, Makes, given, start_of}
use Rattle.surveys.specs.Waking.{reader_node_lem}
use Rattle.surveys.proofs.Queueing.{node_reads, reads_node}
use Rattle.files.specs.Settling.{Settles, most_steps}
use Rattle.files.proofs.PlaceLists.{same_place, same_place_tells, same_place_there, waits_in, waits_decides, rows_of, lists_passing}

-- what has been written since the opening, the latest first, the blocks that are settled, the current one, and its queue
pub record Snapshot (G : Type 0) : Type 0 where
  pub written : List (Place × G)
  pub settled : List ℕ
  pub current : Option ℕ
  pub queue : List Place

-- the latest that was written at a place; another grade where nothing was
abbrev pub latest : {G : Type 0} → List (Place × G) → G → ℕ → ℕ → G
latest [] other i x = other
latest (w ∷ ws) other i x = cond (same_place i x w.0) w.1 (latest ws other i x)

abbrev pub is_one_of : ℕ → List ℕ → Bool
is_one_of b [] = false
is_one_of b (c ∷ cs) = b == c || is_one_of b cs

abbrev pub values_of : {G : Type 0} → Opening G → Snapshot G → Grades G
values_of o s i x = latest s.written (start_of o i) i x

abbrev pub state_of : {G : Type 0} → Opening G → Snapshot G → State G
state_of o s = record { marks = o.marks; values = values_of o s; settled = λ b. is_one_of b s.settled; current = s.current; queue = s.queue }

abbrev pub fresh : {G : Type 0} → Snapshot G
fresh = record { written = []; settled = []; current = None; queue = [] }

-- the entries of a block
abbrev entry_test : {G : Type 0} → Opening G → ℕ → Place → Bool
entry_test o b p = ltb p.0 (length o.query.terms) && (eqb (block_of o.query p.0) b && ltb p.1 o.tree.count)

abbrev entries_of : {G : Type 0} → Opening G → ℕ → List Place
entries_of o b = rows_of (entry_test o b) (length o.query.terms) o.tree.count []

abbrev pub is_at : Option ℕ → ℕ → Bool
is_at None x = false
is_at (Some y) x = eqb y x

-- those that read term j at node y and do not wait
abbrev reading_test : Tree → Term → ℕ → ℕ → ℕ → Bool
reading_test t m x j y = either_is (operands_of m) j && is_at (reader_node_lem t m y) x

abbrev queued_test : {G : Type 0} → Opening G → ℕ → Place → List Place → Place → Bool
queued_test o b changed rest p = entry_test o b p && (reading_test o.tree (term_at o.query p.0) p.1 changed.0 changed.1 && not (waits_in p rest))

abbrev readers_of : {G : Type 0} → Opening G → ℕ → Place → List Place → List Place
readers_of o b changed rest = rows_of (queued_test o b changed rest) (length o.query.terms) o.tree.count []

-- the block is settled, and none is current, where nothing waits
abbrev settled_with : List Place → ℕ → List ℕ → List ℕ
settled_with [] b bs = b ∷ bs
settled_with (p ∷ ps) b bs = bs

abbrev current_with : List Place → ℕ → Option ℕ
current_with [] b = None
current_with (p ∷ ps) b = Some b

-- the first block from b on, of so many, that is not settled
abbrev first_stale : List ℕ → ℕ → ℕ → ℕ
first_stale settled zero b = b
first_stale settled (suc more) b = cond (is_one_of b settled) (first_stale settled more (suc b)) b

abbrev stale_first : {G : Type 0} → Opening G → List ℕ → ℕ → Bool
stale_first o settled b = ltb b (length o.query.blocks) && (not (is_one_of b settled) && agree_below (λ c. is_one_of c settled) (λ c. true) b)

-- the block that the next step works on, with its queue
abbrev work_of : {G : Type 0} → Opening G → Snapshot G → Option ℕ → ℕ × List Place
work_of o s (Some b) = (b, s.queue)
work_of o s None = let b = first_stale s.settled (length o.query.blocks) 0 in (b, entries_of o b)

abbrev some_work : {G : Type 0} → Opening G → Snapshot G → Option ℕ → Bool
some_work o s (Some b) = true
some_work o s None = stale_first o s.settled (first_stale s.settled (length o.query.blocks) 0)

abbrev waits_some : List Place → Bool
waits_some [] = false
waits_some (p ∷ ps) = true

-- whether a step can be made
abbrev goes_on : {G : Type 0} → Opening G → Snapshot G → Bool
goes_on o s = some_work o s s.current && waits_some (work_of o s s.current).1

module _ {G : Type 0} (same : G → G → Bool) (o : Opening G) where
  -- the head of the queue takes its grade, and if that changes it its readers queue
  abbrev pub step_at : Snapshot G → ℕ → Place → List Place → Snapshot G
  step_at s b p rest =
      let grade = given o o.marks (values_of o s) p.0 p.1 in
      let waiting = rest ++ cond (same grade (values_of o s p.0 p.1)) [] (readers_of o b p rest) in
      record { written = (p, grade) ∷ s.written; settled = settled_with waiting b s.settled; current = current_with waiting b; queue = waiting }

  abbrev step_by : Snapshot G → ℕ → List Place → Snapshot G
  step_by s b [] = s
  step_by s b (p ∷ rest) = step_at s b p rest

  abbrev pub next_of : Snapshot G → Snapshot G
  next_of s = let w = work_of o s s.current in step_by s w.0 w.1

  abbrev pub after : ℕ → Snapshot G → Snapshot G
  after zero s = s
  after (suc n) s = after n (next_of s)

  abbrev pub all_go_on : ℕ → Snapshot G → Bool
  all_go_on zero s = true
  all_go_on (suc n) s = goes_on o s && all_go_on n (next_of s)

  -- whether it settles in so many steps
  abbrev pub settles_in : ℕ → Bool
  settles_in n = leb n most_steps && (all_go_on n fresh && agree_below (λ b. is_one_of b (after n fresh).settled) (λ b. true) (length o.query.blocks))

pub is_at_tells : (w : Option ℕ) (x : ℕ) → is_at w x ≡ true → w ≡ Some x
is_at_tells None x e = absurd (false≢true e)
is_at_tells (Some y) x e = ap Some (eqb-true y x e)

pub is_at_there : (w : Option ℕ) (x : ℕ) → w ≡ Some x → is_at w x ≡ true
is_at_there w x e = ap (λ w. is_at w x) e ∙ eq-eqb x x refl

module _ (t : Tree) (laws : TreeLaws t) where
  reading_decides : (m : Term) (x j y : ℕ) → Decides (reading_test t m x j y) (Reading t m x j y)
  reading_decides m x j y = (
    (λ e. let p = and_parts (either_is (operands_of m) j) (is_at (reader_node_lem t m y) x) e in node_reads t laws x y (test_reads m j p.0) (is_at_tells (reader_node_lem t m y) x p.1)),
    (λ r. and_from (either_is (operands_of m) j) (is_at (reader_node_lem t m y) x) (reads_test (reading_reads r)) (is_at_there (reader_node_lem t m y) x (reads_node t laws r))),
  )

module _ {G : Type 0} (o : Opening G) where
  entry_decides : (b : ℕ) (p : Place) → Decides (entry_test o b p) (EntryOf o b p.0 p.1)
  entry_decides b p = (
    (λ e.
        let first = and_parts (ltb p.0 (length o.query.terms)) (eqb (block_of o.query p.0) b && ltb p.1 o.tree.count) e in
        let rest = and_parts (eqb (block_of o.query p.0) b) (ltb p.1 o.tree.count) first.1 in
        record { term = ltb-true p.0 (length o.query.terms) first.0; dealt_here = eqb-true (block_of o.query p.0) b rest.0; node = ltb-true p.1 o.tree.count rest.1 }),
    (λ e. and_from (ltb p.0 (length o.query.terms)) (eqb (block_of o.query p.0) b && ltb p.1 o.tree.count) (lt-ltb p.0 (length o.query.terms) e.term) (and_from (eqb (block_of o.query p.0) b) (ltb p.1 o.tree.count) (eq-eqb (block_of o.query p.0) b e.dealt_here) (lt-ltb p.1 o.tree.count e.node))),
  )

  entries_listed : (b : ℕ) → Lists (λ p. EntryOf o b p.0 p.1) (entries_of o b)
  entries_listed b = lists_passing (λ p. EntryOf o b p.0 p.1) (entry_test o b) (entry_decides b) (length o.query.terms) o.tree.count (λ p e. (e.term, e.node))

  module _ (laws : TreeLaws o.tree) (b : ℕ) (changed : Place) (rest : List Place) where
    abbrev reads_it : Place → Bool
    reads_it p = reading_test o.tree (term_at o.query p.0) p.1 changed.0 changed.1

    queued_decides : (p : Place) → Decides (queued_test o b changed rest p) (Queued o b changed.0 changed.1 rest p)
    queued_decides p = (
      (λ e.
          let first = and_parts (entry_test o b p) (reads_it p && not (waits_in p rest)) e in
          let second = and_parts (reads_it p) (not (waits_in p rest)) first.1 in
          record {
            entry = (entry_decides b p).0 first.0;
            reads = (reading_decides o.tree laws (term_at o.query p.0) p.1 changed.0 changed.1).0 second.0;
            waits_not = λ h. true≢false (sym ((waits_decides p rest).1 h) ∙ not-true (waits_in p rest) second.1);
          }),
      (λ q. and_from (entry_test o b p) (reads_it p && not (waits_in p rest)) ((entry_decides b p).1 q.entry) (and_from (reads_it p) (not (waits_in p rest))
          ((reading_decides o.tree laws (term_at o.query p.0) p.1 changed.0 changed.1).1 q.reads)
          (not_from_false (waits_in p rest) (false_from_ne_true (waits_in p rest) (λ e. q.waits_not ((waits_decides p rest).0 e)))))),
    )

    readers_listed : Lists (Queued o b changed.0 changed.1 rest) (readers_of o b changed rest)
    readers_listed = lists_passing (Queued o b changed.0 changed.1 rest) (queued_test o b changed rest) queued_decides (length o.query.terms) o.tree.count (λ p q. (q.entry.term, q.entry.node))

  -- what is to be worked on
  works : (s : Snapshot G) (w : Option ℕ) → s.current ≡ w → some_work o s w ≡ true → WorksOn o (state_of o s) (work_of o s w).0 (work_of o s w).1
  works s (Some b) is e = WorksOn.goes_on b is
  works s None is e =
      let b : ℕ = first_stale s.settled (length o.query.blocks) 0 in
      let first = and_parts (ltb b (length o.query.blocks)) (not (is_one_of b s.settled) && agree_below (λ c. is_one_of c s.settled) (λ c. true) b) e in
      let second = and_parts (not (is_one_of b s.settled)) (agree_below (λ c. is_one_of c s.settled) (λ c. true) b) first.1 in
      WorksOn.begins b (entries_of o b) is (ltb-true b (length o.query.blocks) first.0) (not-true (is_one_of b s.settled) second.0)
      (λ c less. passes _ (agree_below_at (λ c. is_one_of c s.settled) (λ c. true) b c second.1 less))
      (entries_listed b)

-- what is left of a block is its queue
settles_with : (waiting : List Place) (b : ℕ) (bs : List ℕ) → waiting ≡ [] → (current_with waiting b ≡ None) × ((c : ℕ) → is_one_of c (settled_with waiting b bs) ≡ (c == b || is_one_of c bs))
settles_with [] b bs e = (refl, λ c. refl)
settles_with (p ∷ ps) b bs e = cc

stays_with : (waiting : List Place) (b : ℕ) (bs : List ℕ) → (waiting ≢ []) → (current_with waiting b ≡ Some b) × ((c : ℕ) → is_one_of c (settled_with waiting b bs) ≡ is_one_of c bs)
stays_with [] b bs n = absurd (n refl)
stays_with (p ∷ ps) b bs n = (refl, λ c. refl)

module _ {G : Type 0} (same : G → G → Bool) (decides : (g h : G) → Decides (same g h) (g ≡ h)) (o : Opening G) (laws : TreeLaws o.tree) where
  -- a step as it is computed is one of the rules
  step_made : (s : Snapshot G) (b : ℕ) (p : Place) (rest : List Place) → WorksOn o (state_of o s) b (p ∷ rest) → Steps o (state_of o s) (state_of o (step_at same o s b p rest))
  step_made s b p rest works =
      let old : G = values_of o s p.0 p.1 in
      let grade : G = given o o.marks (values_of o s) p.0 p.1 in
      let added : List Place = cond (same grade old) [] (readers_of o b p rest) in
      let here : cond (same_place p.0 p.1 p) grade old ≡ grade = cond-true (same_place p.0 p.1 p) grade old (same_place_there p.0 p.1 p.0 p.1 refl refl) in
      record {
        block = b;
        term = p.0;
        node = p.1;
        rest = rest;
        added = added;
        works_on = works;
        takes = here;
        others_stay = λ c i x e other. cond-false (same_place i x p) grade (values_of o s i x) (false_from_ne_true (same_place i x p) (λ t. let at = same_place_tells i x p t in other (ap (λ (z : Place). z.0) at, ap (λ (z : Place). z.1) at)));
        marks_stay = refl;
        unchanged = λ e. cond-true (same grade old) [] (readers_of o b p rest) ((decides grade old).1 (sym here ∙ e));
        changed = λ n. subst (Lists (Queued o b p.0 p.1 rest)) (sym (cond-false (same grade old) [] (readers_of o b p rest) (false_from_ne_true (same grade old) (λ t. n (here ∙ (decides grade old).0 t))))) (readers_listed o laws b p rest);
        queue = refl;
        settles = settles_with (rest ++ added) b s.settled;
        stays_current = stays_with (rest ++ added) b s.settled;
      }

  by_queue : (s : Snapshot G) (b : ℕ) (queue : List Place) → waits_some queue ≡ true → WorksOn o (state_of o s) b queue → Steps o (state_of o s) (state_of o (step_by same o s b queue))
  by_queue s b [] e works = absurd (false≢true e)
  by_queue s b (p ∷ rest) e works = step_made s b p rest works

  made : (n : ℕ) (s : Snapshot G) → all_go_on same o n s ≡ true → Makes o n (state_of o s) (state_of o (after same o n s))
  made zero s e = Makes.none (state_of o s)
  made (suc n) s e =
      let first = and_parts (goes_on o s) (all_go_on same o n (next_of same o s)) e in
      let work = and_parts (some_work o s s.current) (waits_some (work_of o s s.current).1) first.0 in
      let one = by_queue s (work_of o s s.current).0 (work_of o s s.current).1 work.1 (works o s s.current refl work.0) in
      Makes.one_more n (state_of o s) (state_of o (next_of same o s)) (state_of o (after same o (suc n) s)) one (made n (next_of same o s) first.1)

  -- where it settles in so many steps as computed, it settles
  pub settles : (n : ℕ) → settles_in same o n ≡ true → Settles o n (state_of o (after same o n fresh))
  settles n e =
      let first = and_parts (leb n most_steps) (all_go_on same o n fresh && agree_below (λ b. is_one_of b (after same o n fresh).settled) (λ b. true) (length o.query.blocks)) e in
      let second = and_parts (all_go_on same o n fresh) (agree_below (λ b. is_one_of b (after same o n fresh).settled) (λ b. true) (length o.query.blocks)) first.1 in
      record {
        few = leb-true n most_steps first.0;
        made = made n fresh second.0;
        all = λ b less. passes _ (agree_below_at (λ b. is_one_of b (after same o n fresh).settled) (λ b. true) (length o.query.blocks) b second.1 less);
      }
