-- The breadth-first search of a lawful tree gives every node its level.
use Rattle.std.specs.Prelude.{◌≡◌, ℕ, zero, suc, ◌+◌, ◌-◌, ◌<◌, ◌≤◌, true, false, cond, ◌⊎◌, List, [], ◌∷◌, ◌++◌, length, get_or, is_none, is_some, replicate, Some, None, Option, count_by, ◌≢◌, nat_lt, slice_set, refl}
use Rattle.std.specs.List.{All}
use Rattle.std.proofs.Common.{sym, ap, subst, ◌∙◌, inl, inr, ⊎_elim, arith}
use Rattle.std.proofs.lemmas.List.{get_or-set_same, get_or-set_other, get_or_append_left, get_or_past, get_or-replicate, length-set, length_push, length-replicate, nil_from_length}
use Rattle.std.proofs.lemmas.List.Elements.{All-nil, All-push, All-weaker, All-head, All-tail}
use Rattle.std.proofs.lemmas.List.Sums.{sum_by-set, sum_by-cons, count_by-le-length}
use Rattle.std.proofs.lemmas.Option.{same_Some}
use Rattle.std.proofs.lemmas.Bool.{and_parts, and_cases, both_ways, cond_both, cases_eq, cases_lt, lt-ltb, ltb-true}
use Rattle.shapes.specs.declared.axis.Axis.TheVariants.{First, Next}
use Rattle.shapes.specs.Levels.{Reached, untouched, level_of, is_new, with_node, reach, visit, advance, visited, levels_of_lem}
use Rattle.shapes.specs.Tree.{Tree, Laws, Present}
use Rattle.shapes.specs.Trees.{tree_ind}
use Rattle.shapes.specs.Walks.{not_both}

-- a node has a level
abbrev Known : List (Option ℕ) → ℕ → Type 0
Known levels x = Present (level_of levels x)

-- a node that waits has the level that it waits with
abbrev Entry : List (Option ℕ) → ℕ × ℕ → Type 0
Entry levels a = level_of levels a.0 ≡ Some a.1

-- a number that is no node counts as settled
abbrev Settled : Tree → List (Option ℕ) → ℕ → Type 0
Settled t levels x = x < t.count → Known levels x

-- what x leads to has a level
pub record Done (t : Tree) (levels : List (Option ℕ)) (x : ℕ) : Type 0 where
  pub first : (y : ℕ) → t.first x ≡ Some y → Settled t levels y
  pub next : (y : ℕ) → t.next x ≡ Some y → Settled t levels y

-- a node waits for its visit
abbrev Waits : List (ℕ × ℕ) → ℕ → Type 0
Waits [] x = ⊥
Waits (a ∷ rest) x = (a.0 ≡ x) ⊎ Waits rest x

waits_longer : (w : List (ℕ × ℕ)) (a : ℕ × ℕ) (x : ℕ) → Waits w x → Waits (w ++ a ∷ []) x
waits_longer [] a x h = absurd h
waits_longer (b ∷ w) a x h = ⊎_elim inl (λ r. inr (waits_longer w a x r)) h

waits_last : (w : List (ℕ × ℕ)) (a : ℕ × ℕ) → Waits (w ++ a ∷ []) a.0
waits_last [] a = inl refl
waits_last (b ∷ w) a = inr (waits_last w a)

-- how many nodes have a level
abbrev pub knowns : List (Option ℕ) → ℕ
knowns levels = count_by is_some levels

-- what holds of the search at every moment
pub record Steady (t : Tree) (levels : List (Option ℕ)) (waiting : List (ℕ × ℕ)) : Type 0 where
  pub size : length levels ≡ t.count
  pub entries : All (Entry levels) waiting
  pub low : (x l : ℕ) → level_of levels x ≡ Some l → l < knowns levels
  pub pending : (x : ℕ) → Known levels x → Waits waiting x ⊎ Done t levels x

-- the levels are those of a law-abiding level function
abbrev TrueLevels : (ℕ → ℕ) → List (Option ℕ) → Type 0
TrueLevels level levels = (x l : ℕ) → level_of levels x ≡ Some l → l ≡ level x

-- the test of a node
none_is : (o : Option ℕ) → is_none o ≡ true → o ≡ None
none_is None e = refl
none_is (Some l) e = cc

some_is : (o : Option ℕ) → is_none o ≡ false → Present o
some_is None e = cc
some_is (Some l) e = (l, refl)

new_none : (levels : List (Option ℕ)) (x : ℕ) → is_new levels x ≡ true → (x < length levels) × (level_of levels x ≡ None)
new_none levels x e = let p = and_parts (nat_lt x (length levels)) _ e in (ltb-true _ _ p.0, none_is _ p.1)

old_known : (levels : List (Option ℕ)) (x : ℕ) → is_new levels x ≡ false → x < length levels → Known levels x
old_known levels x e h =
    ⊎_elim
    (λ f. absurd (both_ways _ f (lt-ltb _ _ h)))
    (λ f. some_is _ f)
    (and_cases (nat_lt x (length levels)) _ e)

-- reaching a node adds it, or leaves all as it is
reach_cases : (P : Reached → Type 0) (level : ℕ) (o : Option ℕ) (s : Reached) → ((y : ℕ) → o ≡ Some y → y < length s.levels → level_of s.levels y ≡ None → P (with_node level y s)) → (((y : ℕ) → o ≡ Some y → y < length s.levels → Known s.levels y) → P s) → P (reach level o s)
reach_cases P level None s fresh old = old (λ y e. cc)
reach_cases P level (Some x) s fresh old =
    cond_both (is_new s.levels x) (with_node level x s) s P
    (λ e. let n = new_none s.levels x e in fresh x refl n.0 n.1)
    (λ e. old (λ y f h. let g : x ≡ y = cc in subst (Known s.levels) g (old_known s.levels x e (omega arith))))

none_yet : (n x : ℕ) → level_of (replicate n None) x ≡ None
none_yet n x = ⊎_elim (get_or-replicate n x None None) (λ le. get_or_past (replicate n None) x None (omega (arith, length-replicate {A = Option ℕ} n None))) (cases_lt x n)

knowns_none : (n : ℕ) → knowns (replicate n None) ≡ 0
knowns_none zero = refl
knowns_none (suc n) = omega (arith, sum_by-cons (λ (o : Option ℕ). cond (is_some o) 1 0) None (replicate n None), knowns_none n)

-- a node that had no level is added, at a level no higher than there are nodes with one
module _ (levels : List (Option ℕ)) (level y : ℕ) (inside : y < length levels) (fresh : level_of levels y ≡ None) where
  abbrev added : List (Option ℕ)
  added = slice_set levels y (Some level)

  here : level_of added y ≡ Some level
  here = get_or-set_same levels y (Some level) None inside

  elsewhere : (x : ℕ) → (x ≢ y) → level_of added x ≡ level_of levels x
  elsewhere x other = get_or-set_other levels y x (Some level) None other

  keeps : (x l : ℕ) → level_of levels x ≡ Some l → level_of added x ≡ Some l
  keeps x l e =
      ⊎_elim
      (λ same. absurd (not_both (level_of levels y) l fresh (ap (level_of levels) (sym same) ∙ e)))
      (λ other. elsewhere x other ∙ e)
      (cases_eq x y)

  more : knowns added ≡ knowns levels + 1
  more = omega (arith, sum_by-set (λ (o : Option ℕ). cond (is_some o) 1 0) levels y (Some level) None inside, ap {B = ℕ} (λ (o : Option ℕ). cond (is_some o) 1 0) fresh)

  pub steady_added : (t : Tree) (w : List (ℕ × ℕ)) → Steady t levels w → level ≤ knowns levels → Steady t added (w ++ (y, level) ∷ [])
  steady_added t w steady low = record {
    size = length-set levels y (Some level) ∙ steady.size;
    entries = All-push (Entry added) w (y, level) (All-weaker (Entry levels) (Entry added) (λ a e. keeps a.0 a.1 e) w steady.entries) here;
    low = λ x l e. ⊎_elim
        (λ same. let f : l ≡ level = same_Some l level (sym e ∙ (ap (level_of added) same ∙ here)) in omega (arith, more))
        (λ other. omega (arith, more, steady.low x l (sym (elsewhere x other) ∙ e)))
        (cases_eq x y);
    pending = λ x known. ⊎_elim
        (λ same. inl (subst (Waits (w ++ (y, level) ∷ [])) (sym same) (waits_last w (y, level))))
        (λ other. ⊎_elim
        (λ p. inl (waits_longer w (y, level) x p))
        (λ d. inr (record { first = λ z e h. let k = d.first z e h in (k.0, keeps z k.0 k.1); next = λ z e h. let k = d.next z e h in (k.0, keeps z k.0 k.1) }))
        (steady.pending x (known.0, sym (elsewhere x other) ∙ known.1)))
        (cases_eq x y);
  }

  pub true_added : (true_level : ℕ → ℕ) → true_level y ≡ level → TrueLevels true_level levels → TrueLevels true_level added
  true_added true_level is known x l e =
      ⊎_elim
      (λ same. let f : l ≡ level = same_Some l level (sym e ∙ (ap (level_of added) same ∙ here)) in omega (arith, ap true_level same))
      (λ other. known x l (sym (elsewhere x other) ∙ e))
      (cases_eq x y)

-- reaching what a node may lead to
module _ (level : ℕ) (o : Option ℕ) (s : Reached) where
  pub reach_keeps : (x l : ℕ) → level_of s.levels x ≡ Some l → level_of (reach level o s).levels x ≡ Some l
  reach_keeps x l e = reach_cases (λ s'. level_of s'.levels x ≡ Some l) level o s (λ y _ inside fresh. keeps s.levels level y inside fresh x l e) (λ _. e)

  pub reach_known : (t : Tree) → length s.levels ≡ t.count → (y : ℕ) → o ≡ Some y → Settled t (reach level o s).levels y
  reach_known t size y e h =
      reach_cases (λ s'. Known s'.levels y) level o s
      (λ z f inside fresh. let g : z ≡ y = cc in (level, ap (level_of (slice_set s.levels z (Some level))) (sym g) ∙ here s.levels level z inside fresh))
      (λ old. old y e (omega arith))

  pub reach_longer : length (reach level o s).levels ≡ length s.levels
  reach_longer = reach_cases (λ s'. length s'.levels ≡ length s.levels) level o s (λ y _ _ _. length-set s.levels y (Some level)) (λ _. refl)

  reach_more : knowns s.levels ≤ knowns (reach level o s).levels
  reach_more = reach_cases (λ s'. knowns s.levels ≤ knowns s'.levels) level o s (λ y _ inside fresh. omega (arith, more s.levels level y inside fresh)) (λ _. omega arith)

  -- what waits keeps its place
  pub reach_order : (k : ℕ) → k < length s.waiting → get_or (reach level o s).waiting k (0, 0) ≡ get_or s.waiting k (0, 0)
  reach_order k h = reach_cases (λ s'. get_or s'.waiting k (0, 0) ≡ get_or s.waiting k (0, 0)) level o s (λ y _ _ _. get_or_append_left s.waiting ((y, level) ∷ []) (0, 0) k h) (λ _. refl)

  -- each node that gets a level waits
  reach_tally : length (reach level o s).waiting + knowns s.levels ≡ length s.waiting + knowns (reach level o s).levels
  reach_tally =
      reach_cases (λ s'. length s'.waiting + knowns s.levels ≡ length s.waiting + knowns s'.levels) level o s
      (λ y _ inside fresh. omega (arith, more s.levels level y inside fresh, length_push s.waiting (y, level)))
      (λ _. refl)

  -- the node under visit counts as waiting
  pub reach_steady : (t : Tree) (a : ℕ × ℕ) → Steady t s.levels (a ∷ s.waiting) → level ≤ knowns s.levels → Steady t (reach level o s).levels (a ∷ (reach level o s).waiting)
  reach_steady t a steady low =
      reach_cases (λ s'. Steady t s'.levels (a ∷ s'.waiting)) level o s
      (λ y _ inside fresh. steady_added s.levels level y inside fresh t (a ∷ s.waiting) steady low)
      (λ _. steady)

  pub reach_true : (true_level : ℕ → ℕ) → ((y : ℕ) → o ≡ Some y → true_level y ≡ level) → TrueLevels true_level s.levels → TrueLevels true_level (reach level o s).levels
  reach_true true_level is known =
      reach_cases (λ s'. TrueLevels true_level s'.levels) level o s
      (λ y e inside fresh. true_added s.levels level y inside fresh true_level (is y e) known)
      (λ _. known)

-- a visit
module _ (t : Tree) (x level : ℕ) (s : Reached) where
  abbrev once : Reached
  once = reach (level + 1) (t.first x) s

  abbrev twice : Reached
  twice = visit t x level s

  visit_keeps : (z l : ℕ) → level_of s.levels z ≡ Some l → level_of twice.levels z ≡ Some l
  visit_keeps z l e = reach_keeps (level + 1) (t.next x) once z l (reach_keeps (level + 1) (t.first x) s z l e)

  -- the code's measure falls: nodes without a level, and nodes that wait
  pub visit_tally : length twice.waiting + knowns s.levels ≡ length s.waiting + knowns twice.levels
  visit_tally = omega (arith, reach_tally (level + 1) (t.first x) s, reach_tally (level + 1) (t.next x) once)

  pub visit_longer : length twice.levels ≡ length s.levels
  visit_longer = reach_longer (level + 1) (t.next x) once ∙ reach_longer (level + 1) (t.first x) s

  visit_true : (true_level : ℕ → ℕ) → ((y : ℕ) → t.first x ≡ Some y → true_level y ≡ level + 1) → ((y : ℕ) → t.next x ≡ Some y → true_level y ≡ level + 1) → TrueLevels true_level s.levels → TrueLevels true_level twice.levels
  visit_true true_level first next known = reach_true (level + 1) (t.next x) once true_level next (reach_true (level + 1) (t.first x) s true_level first known)

  visit_steady : Steady t s.levels ((x, level) ∷ s.waiting) → Steady t twice.levels twice.waiting
  visit_steady steady =
      let low : level < knowns s.levels = steady.low x level (All-head (Entry s.levels) (x, level) s.waiting steady.entries) in
      let first : Steady t once.levels ((x, level) ∷ once.waiting) = reach_steady (level + 1) (t.first x) s t (x, level) steady (omega arith) in
      let last : Steady t twice.levels ((x, level) ∷ twice.waiting) =
      reach_steady (level + 1) (t.next x) once t (x, level) first (omega (arith, reach_more (level + 1) (t.first x) s)) in
      let done : Done t twice.levels x = record {
        first = λ y e h. let k = reach_known (level + 1) (t.first x) s t steady.size y e h in (k.0, reach_keeps (level + 1) (t.next x) once y k.0 k.1);
        next = reach_known (level + 1) (t.next x) once t first.size;
      } in record {
        size = last.size;
        entries = All-tail (Entry twice.levels) (x, level) twice.waiting last.entries;
        low = last.low;
        pending = λ z known. ⊎_elim
            (λ w. ⊎_elim (λ same. inr (subst (Done t twice.levels) same done)) inl w)
            inr
            (last.pending z known);
      }

-- the visit to the node that waits longest, if one waits
module _ (t : Tree) where
  advance_steady : (levels : List (Option ℕ)) (w : List (ℕ × ℕ)) → Steady t levels w → Steady t (advance t levels w).levels (advance t levels w).waiting
  advance_steady levels [] steady = steady
  advance_steady levels (a ∷ rest) steady = visit_steady t a.0 a.1 (record { levels = levels; waiting = rest }) steady

  advance_keeps : (levels : List (Option ℕ)) (w : List (ℕ × ℕ)) (x l : ℕ) → level_of levels x ≡ Some l → level_of (advance t levels w).levels x ≡ Some l
  advance_keeps levels [] x l e = e
  advance_keeps levels (a ∷ rest) x l e = visit_keeps t a.0 a.1 (record { levels = levels; waiting = rest }) x l e

  -- after i visits as many nodes with a level no longer wait, unless none waits
  advance_tally : (i : ℕ) (levels : List (Option ℕ)) (w : List (ℕ × ℕ)) → (w ≡ []) ⊎ (i + length w ≡ knowns levels) → ((advance t levels w).waiting ≡ []) ⊎ (suc i + length (advance t levels w).waiting ≡ knowns (advance t levels w).levels)
  advance_tally i levels [] h = inl refl
  advance_tally i levels (a ∷ rest) h =
      ⊎_elim
      (λ e. cc)
      (λ e. inr (omega (arith, visit_tally t a.0 a.1 (record { levels = levels; waiting = rest }))))
      h

  pub visited_steady : (i : ℕ) → Steady t (visited t i).levels (visited t i).waiting
  visited_steady zero =
      reach_cases (λ s'. Steady t s'.levels s'.waiting) 0 (Some 0) (untouched t.count)
      (λ y _ inside fresh. steady_added (replicate t.count None) 0 y inside fresh t [] start (omega arith))
      (λ _. start)
    where
      start : Steady t (replicate t.count None) []
      start = record {
        size = length-replicate t.count None;
        entries = All-nil (Entry (replicate t.count None));
        low = λ x l e. absurd (not_both _ l (none_yet t.count x) e);
        pending = λ x known. absurd (not_both _ known.0 (none_yet t.count x) known.1);
      }
  visited_steady (suc i) = advance_steady (visited t i).levels (visited t i).waiting (visited_steady i)

  visited_tally : (i : ℕ) → ((visited t i).waiting ≡ []) ⊎ (i + length (visited t i).waiting ≡ knowns (visited t i).levels)
  visited_tally zero = inr (omega (arith, reach_tally 0 (Some 0) (untouched t.count), knowns_none t.count))
  visited_tally (suc i) = advance_tally i (visited t i).levels (visited t i).waiting (visited_tally i)

  -- after as many visits as there are nodes none waits
  none_last : (visited t t.count).waiting ≡ []
  none_last =
      ⊎_elim
      (λ e. e)
      (λ e. nil_from_length _ (omega (arith, (visited_steady t.count).size, count_by-le-length is_some (visited t t.count).levels)))
      (visited_tally t.count)

  -- where none waits all stays as it is
  advance_none : (levels : List (Option ℕ)) (w : List (ℕ × ℕ)) → w ≡ [] → ((advance t levels w).levels ≡ levels) × ((advance t levels w).waiting ≡ [])
  advance_none levels [] e = (refl, refl)
  advance_none levels (a ∷ rest) e = cc

  stays : (k i : ℕ) → (visited t i).waiting ≡ [] → ((visited t (k + i)).levels ≡ (visited t i).levels) × ((visited t (k + i)).waiting ≡ [])
  stays zero i e = let s : 0 + i ≡ i = omega arith in (ap (λ j. (visited t j).levels) s, ap (λ j. (visited t j).waiting) s ∙ e)
  stays (suc k) i e =
      let s : suc k + i ≡ suc (k + i) = omega arith in
      let before = stays k i e in
      let after = advance_none (visited t (k + i)).levels (visited t (k + i)).waiting before.1 in
      (ap (λ j. (visited t j).levels) s ∙ (after.0 ∙ before.0), ap (λ j. (visited t j).waiting) s ∙ after.1)

  -- what the code comes to, at whatever visit none waits
  pub settled : (i : ℕ) → (visited t i).waiting ≡ [] → (visited t i).levels ≡ levels_of_lem t
  unfolding levels_of_lem
  settled i e =
      ⊎_elim
      (λ lt. let s : t.count - i + i ≡ t.count = omega arith in sym (stays (t.count - i) i e).0 ∙ ap (λ j. (visited t j).levels) s)
      (λ le. let s : i - t.count + t.count ≡ i = omega arith in ap (λ j. (visited t j).levels) (sym s) ∙ (stays (i - t.count) t.count none_last).0)
      (cases_lt i t.count)

  -- the node that waits longest can be visited
  pub low_enough : (i : ℕ) (a : ℕ × ℕ) (rest : List (ℕ × ℕ)) → t.count ≤ 2048 → (visited t i).waiting ≡ a ∷ rest → a.1 < 2048
  low_enough i a rest most e =
      let steady = visited_steady i in
      let entry : Entry (visited t i).levels a = All-head (Entry (visited t i).levels) a rest (subst (All (Entry (visited t i).levels)) e steady.entries) in
      omega (arith, steady.low a.0 a.1 entry, steady.size, count_by-le-length is_some (visited t i).levels)

  pub visited_next : (i : ℕ) (s s' : Reached) (a : ℕ × ℕ) (rest : List (ℕ × ℕ)) → s ≡ visited t i → s.waiting ≡ a ∷ rest → s' ≡ visit t a.0 a.1 (record { levels = s.levels; waiting = rest }) → s' ≡ visited t (suc i)
  visited_next i s s' a rest is e step = step ∙ (ap (advance t s.levels) (sym e) ∙ ap (λ u. advance t u.levels u.waiting) is)

  -- each visit takes one from the nodes that wait or have no level
  pub visit_falls : (s s' : Reached) (a : ℕ × ℕ) (rest : List (ℕ × ℕ)) → s.waiting ≡ a ∷ rest → s' ≡ visit t a.0 a.1 (record { levels = s.levels; waiting = rest }) → length s'.waiting + (length s'.levels - knowns s'.levels) < length s.waiting + (length s.levels - knowns s.levels)
  visit_falls s s' a rest e step =
      let before : Reached = record { levels = s.levels; waiting = rest } in
      omega (
        arith,
        ap length e,
        ap (λ u. length u.waiting) step,
        ap (λ u. length u.levels) step,
        ap (λ u. knowns u.levels) step,
        visit_tally t a.0 a.1 before,
        visit_longer t a.0 a.1 before,
        count_by-le-length is_some s.levels,
        count_by-le-length is_some s'.levels,
      )

  -- a lawful tree
  module _ (laws : Laws t) where
    advance_true : (levels : List (Option ℕ)) (w : List (ℕ × ℕ)) → Steady t levels w → TrueLevels laws.level levels → TrueLevels laws.level (advance t levels w).levels
    advance_true levels [] steady known = known
    advance_true levels (a ∷ rest) steady known =
        let is : a.1 ≡ laws.level a.0 = known a.0 a.1 (All-head (Entry levels) a rest steady.entries) in
        visit_true t a.0 a.1 (record { levels = levels; waiting = rest }) laws.level (λ y e. omega (arith, laws.level_first a.0 y e)) (λ y e. omega (arith, laws.level_next a.0 y e)) known

    visited_true : (i : ℕ) → TrueLevels laws.level (visited t i).levels
    visited_true zero = reach_true 0 (Some 0) (untouched t.count) laws.level (λ y e. let s : 0 ≡ y = cc in ap laws.level (sym s) ∙ laws.level_root) (λ x l e. absurd (not_both _ l (none_yet t.count x) e))
    visited_true (suc i) = advance_true (visited t i).levels (visited t i).waiting (visited_steady i) (visited_true i)

    root_known : (i : ℕ) → Known (visited t i).levels 0
    root_known zero = reach_known 0 (Some 0) (untouched t.count) t (length-replicate t.count None) 0 refl (omega (arith, laws.countable))
    root_known (suc i) = let k = root_known i in (k.0, advance_keeps (visited t i).levels (visited t i).waiting 0 k.0 k.1)

    -- none waits in the end, so what has a level leads to nodes with one
    done_last : (x : ℕ) → Known (visited t t.count).levels x → Done t (visited t t.count).levels x
    done_last x known =
        ⊎_elim
        (λ w. absurd (subst (λ (v : List (ℕ × ℕ)). Waits v x) none_last w))
        (λ d. d)
        ((visited_steady t.count).pending x known)

    pub all_levels : (x : ℕ) → x < t.count → level_of (levels_of_lem t) x ≡ Some (laws.level x)
    unfolding levels_of_lem
    all_levels x h =
        let known : Known (visited t t.count).levels x =
        tree_ind t laws (Known (visited t t.count).levels) (root_known t.count)
        (λ x y e k. (done_last x k).first y e (laws.inside First x y e))
        (λ x y e k. (done_last x k).next y e (laws.inside Next x y e)) x h in
        known.1 ∙ ap Some (visited_true t.count x known.0 known.1)
