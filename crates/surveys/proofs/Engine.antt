-- A step of the code is a step of the rules.
use Rattle.std.proofs.Common.{◌≡◌, ℕ, ◌*◌, ◌<◌, ◌≤◌, false, T, List, [], map, length, Some, None, sym, refl, ap, ◌∙◌, subst, ap₂, arith}
use Rattle.std.specs.List.{range_with_len}
use Rattle.std.proofs.lemmas.Nat.{mul-le}
use Rattle.std.proofs.lemmas.List.FromFn.{length-range_with_len}
use Rattle.shapes.specs.Tree.{Laws as TreeLaws}
use Rattle.queries.specs.Table.{Admitted, blocks_terms, term_at}
use Rattle.meaning.specs.Solutions.{grade_of_lem}
use Rattle.meaning.specs.Tables.{grades_in, Readable}
use Rattle.meaning.proofs.Readings.{reading_reads, reading_node, grade_same}
use Rattle.queues.specs.Threads.{Threads}
use Rattle.queues.proofs.Uses.{rising_threads}
use Rattle.surveys.specs.declared.survey.Survey.{Survey}
use Rattle.surveys.specs.declared.survey.Work.{Work}
use Rattle.surveys.specs.Rules.{Opening, State, EntryOf, WorksOn, given}
use Rattle.surveys.specs.Rules.WorksOn.{goes_on, begins}
use Rattle.surveys.specs.Standing.{Lent, Stands, Works, Idle, Working, Blank, place_in}
use Rattle.surveys.specs.Stepping.{FirstStale, TakesUp, begun}
use Rattle.surveys.specs.Stepping.TakesUp.{goes_on as still_on, begins as anew}
use Rattle.surveys.proofs.Numbering.{entries_listed}
use Rattle.surveys.proofs.Placed.{place_inside}
use Rattle.surveys.proofs.Spanning.{few_entries, span_inside}

module _ {G : Type 0} (o : Opening G) (a : Admitted o.query) (laws : TreeLaws o.tree) (s : State G) (v : Survey) (l : Lent G) (stands : Stands o s v l) where
  pub room_values : length o.query.terms * o.tree.count ≤ length l.values
  room_values = omega (arith, stands.roomy.values, ap₂ (λ a b. a * b) stands.counted.terms stands.counted.nodes)

  pub room_waiting : length o.query.terms * o.tree.count ≤ length l.waiting
  room_waiting = omega (arith, stands.roomy.waiting, ap₂ (λ a b. a * b) stands.counted.terms stands.counted.nodes)

  room_marks : o.query.tags * o.tree.count ≤ length l.marks
  room_marks = omega (arith, stands.roomy.marks, ap₂ (λ a b. a * b) stands.counted.tags stands.counted.nodes)

  -- every entry can be evaluated, and has the grade that its term gives
  pub readable : (b i x : ℕ) → EntryOf o b i x → Readable o.tree l.marks l.values (term_at o.query i) x
  readable b i x e = record {
    node = e.node;
    mark = λ tag is. let h : tag < o.query.tags = a.tag_stands i e.term tag is in omega (arith, place_inside o.tree.count o.query.tags tag x h e.node, room_marks);
    operands = λ j y r.
        let h : j < length o.query.terms = a.operands_stand i e.term j (reading_reads r) in
        omega (arith, place_inside o.tree.count (length o.query.terms) j y h (reading_node laws e.node r), room_values);
  }

  pub given_is : (b i x : ℕ) → EntryOf o b i x → grade_of_lem o.kind o.tree (grades_in o.kind o.tree.count l.marks) (grades_in o.kind o.tree.count l.values) (term_at o.query i) x ≡ given o s.marks s.values i x
  given_is b i x e =
      grade_same o.kind o.tree (grades_in o.kind o.tree.count l.marks) s.marks (grades_in o.kind o.tree.count l.values) s.values (term_at o.query i) x
      (λ tag is. stands.marks tag x (a.tag_stands i e.term tag is) e.node)
      (λ j y r. stands.values j y (a.operands_stand i e.term j (reading_reads r)) (reading_node laws e.node r))

-- the work that a step takes up, in the words of the rules
pub record TakenUp {G : Type 0} (o : Opening G) (s : State G) (w : Work) (waiting : List ℕ) : Type 0 where
  pub stands : w.block < length o.query.blocks
  pub stale : s.settled w.block ≡ false
  pub size : w.queue.size ≡ blocks_terms o.query w.block * o.tree.count
  pub entries : List ℕ
  pub some_wait : entries ≡ [] → ⊥
  pub threads : Threads waiting w.queue entries
  pub works_on : WorksOn o s w.block (map (place_in o w.block) entries)
  pub blank : Blank waiting w.queue.size (length o.query.terms * o.tree.count)

counting_some : (n : ℕ) → 0 < n → range_with_len 0 n ≡ [] → ⊥
counting_some n h e = omega (arith, ap length e, length-range_with_len 0 n)

module _ {G : Type 0} (o : Opening G) (a : Admitted o.query) (laws : TreeLaws o.tree) (s : State G) (v : Survey) (l : Lent G) (stands : Stands o s v l) where
  gone_on : (w : Work) → v.current ≡ Some w → TakenUp o s w l.waiting
  gone_on w e =
      let works : Works o s w l.waiting = subst (λ c. Working o s c l.waiting) e stands.working in
      record {
        stands = works.stands;
        stale = works.stale;
        size = works.size;
        entries = works.entries;
        some_wait = works.some_wait;
        threads = works.threads;
        works_on = subst (WorksOn o s w.block) works.queue (goes_on w.block works.current);
        blank = works.blank;
      }

  begun_on : (b : ℕ) → v.current ≡ None → FirstStale v b → TakenUp o s (begun o.query o.tree.count b) l.waiting
  begun_on b e stale =
      let idle : Idle o s l.waiting = subst (λ c. Working o s c l.waiting) e stands.working in
      let there : b < length o.query.blocks = omega (arith, stale.stands, stands.counted.blocks) in
      let size = blocks_terms o.query b * o.tree.count in
      let nodes = laws.countable in
      let some : 0 < size = omega (arith, mul-le 1 1 (blocks_terms o.query b) o.tree.count (a.sized.no_empty_block b there) nodes.0) in
      let room : size ≤ length o.query.terms * o.tree.count = mul-le (blocks_terms o.query b) o.tree.count (length o.query.terms) o.tree.count (omega (arith, span_inside a b there)) (omega arith) in
      record {
        stands = there;
        stale = sym (stands.settled b there) ∙ stale.stale;
        size = refl;
        entries = range_with_len 0 size;
        some_wait = counting_some size some;
        threads = rising_threads l.waiting size (λ k h. idle.blank k (omega arith) (omega arith)) (omega (arith, room_waiting o a laws s v l stands)) (few_entries a b o.tree.count nodes.1);
        works_on = begins b _ idle.none_current there (sym (stands.settled b there) ∙ stale.stale) (λ c h. subst T (sym (stale.before c h) ∙ stands.settled c (omega arith)) tt) (entries_listed o a nodes.0 b there);
        blank = λ k from to. idle.blank k (omega arith) to;
      }

  pub taken_up : {w : Work} → TakesUp o.query o.tree.count v w → TakenUp o s w l.waiting
  taken_up (still_on w e) = gone_on w e
  taken_up (anew b e stale) = begun_on b e stale
