-- A retag does to the state that a survey and its tables hold as the rules say.
use Rattle.std.proofs.Common.{◌≡◌, ℕ, ◌*◌, ◌<◌, ◌≤◌, Bool, true, false, cond, ltb, ◌≢◌, ◌⊎◌, List, [], length, get_or, set, Some, None, Option, sym, refl, ap, ◌∙◌, subst, inl, inr, ⊎_elim, arith}
use Rattle.std.proofs.lemmas.List.{length-set, get_or-set_same, get_or-set_other, set-get_or}
use Rattle.std.proofs.lemmas.Bool.{cases_lt, lt-ltb, ltb-true, cond-true, cond_both, true≢false, false≢true}
use Rattle.grades.specs.Kind.{Kind}
use Rattle.shapes.specs.Tree.{Tree}
use Rattle.queries.specs.Table.{Table, Admitted, Reaches, by_mark, by_reading, block_of}
use Rattle.meaning.specs.Solutions.{Grades}
use Rattle.meaning.specs.Tables.{place, grades_in}
use Rattle.meaning.proofs.Admitted.{block_stands}
use Rattle.surveys.specs.declared.refusal.SurveyRefusal.TheVariants.{NotInSurvey}
use Rattle.surveys.specs.declared.survey.Survey.{Survey}
use Rattle.surveys.specs.declared.survey.Work.{Work}
use Rattle.surveys.specs.Calls.{Call, Answer}
use Rattle.surveys.specs.Calls.Answer.{altered, refused}
use Rattle.surveys.specs.Calls.Call.{retag}
use Rattle.surveys.specs.Calls.Does.{retags, leaves, no_such_mark}
use Rattle.surveys.specs.Held.{ByRules}
use Rattle.surveys.specs.Places.{Place}
use Rattle.surveys.specs.Promise.{opening}
use Rattle.queues.specs.Within.{Within}
use Rattle.surveys.specs.Resets.{Resets, Unsettles, Clears, Releases, Restarts}
use Rattle.surveys.specs.Rules.{Opening, State, EntryOf, Retags, start_of}
use Rattle.surveys.specs.Retagging.{Remarks}
use Rattle.surveys.specs.Standing.{Lent, lent, Roomy, Fits, Blank, Works, Working, Stands}
use Rattle.surveys.proofs.Decisions.{none_some, some_some}
use Rattle.surveys.proofs.Placed.{place_apart, place_inside}
use Rattle.surveys.proofs.Resets.{resets_within}

-- a block that a tag reaches is there
reached_stands : {q : Table} {tag b : ℕ} → Admitted q → Reaches q tag b → b < length q.blocks
reached_stands admitted (by_mark i h e) = block_stands admitted i h
reached_stands admitted (by_reading i j h r reaches) = block_stands admitted i h

-- what the survey says of the current block, as the rules have it
abbrev current_of : Option Work → Option ℕ
current_of None = None
current_of (Some work) = Some work.block

abbrev queue_of : Option Work → List Place → List Place
queue_of None queue = []
queue_of (Some work) queue = queue

module _ {G : Type 0} (o : Opening G) (s : State G) (v : Survey) (l : Lent G) (st : Stands o s v l) where
  pub stands_fits : Fits v o.tree.count (length o.query.terms) l
  stands_fits = record { same_nodes = st.counted.nodes; same_terms = st.counted.terms; roomy = st.roomy }

  -- the mark that the rules have is that of the table
  mark_held : (tag node : ℕ) → node < v.nodes → tag < v.tags → grades_in o.kind v.nodes l.marks tag node ≡ s.marks tag node
  mark_held tag node hn ha = rw st.counted.nodes (st.marks tag node (omega (arith, st.counted.tags)) (omega (arith, st.counted.nodes)))

-- the retags that alter nothing
module _ {G : Type 0} (o : Opening G) (v : Survey) (l : Lent G) (node tag : ℕ) (grade : G) where
  pub unfit_by_rules : (Fits v o.tree.count (length o.query.terms) l → ⊥) → (call : Call G) (answer : Answer G) (v' : Survey) (l' : Lent G) → ByRules o call answer v l v' l'
  unfit_by_rules unfit call answer v' l' s st = absurd (unfit (stands_fits o s v l st))

  pub absent_by_rules : ((node < v.nodes) × (tag < v.tags) → ⊥) → ByRules o (retag node tag grade) (refused NotInSurvey) v l v l
  absent_by_rules absent s st = (s, (no_such_mark node tag grade (outside (cases_lt node v.nodes) (cases_lt tag v.tags)), st))
    where
      outside : (node < v.nodes) ⊎ (v.nodes ≤ node) → (tag < v.tags) ⊎ (v.tags ≤ tag) → (o.tree.count ≤ node) ⊎ (o.query.tags ≤ tag)
      outside (inr past) other = inl (omega (arith, st.counted.nodes))
      outside (inl there) (inr past) = inr (omega (arith, st.counted.tags))
      outside (inl there) (inl too) = absurd (absent (there, too))

  pub same_by_rules : node < v.nodes → tag < v.tags → grades_in o.kind v.nodes l.marks tag node ≡ grade → ByRules o (retag node tag grade) (altered false) v l v l
  same_by_rules hn ha same s st = (s, (leaves node tag grade (omega (arith, st.counted.nodes)) (omega (arith, st.counted.tags)) (sym (mark_held o s v l st tag node hn ha) ∙ same), st))

-- the state that the tables, the flags and the current work hold after a retag from state s
abbrev after : {G : Type 0} → Opening G → State G → List Bool → Lent G → Option Work → State G
after o s flags l current = record {
  marks = grades_in o.kind o.tree.count l.marks;
  values = grades_in o.kind o.tree.count l.values;
  settled = λ b. cond (ltb b (length o.query.blocks)) (get_or flags b false) (s.settled b);
  current = current_of current;
  queue = queue_of current s.queue;
}

-- the blocks, by their flags and values
module _ {G : Type 0} (o : Opening G) (admitted : Admitted o.query) (s : State G) (tag : ℕ) (v : Survey) (l : Lent G) (st : Stands o s v l) (flags : List Bool) (unsettles : Unsettles o.query tag v.blocks v.settled flags) where
  flag_here : (b : ℕ) → b < length o.query.blocks → cond (ltb b (length o.query.blocks)) (get_or flags b false) (s.settled b) ≡ get_or flags b false
  flag_here b h = cond-true (ltb b (length o.query.blocks)) (get_or flags b false) (s.settled b) (lt-ltb b (length o.query.blocks) h)

  reached_flag : (b : ℕ) → Reaches o.query tag b → cond (ltb b (length o.query.blocks)) (get_or flags b false) (s.settled b) ≡ false
  reached_flag b r = let h = reached_stands admitted r in flag_here b h ∙ unsettles.reached b (omega (arith, st.counted.blocks)) r

  unreached_flag : (b : ℕ) → (Reaches o.query tag b → ⊥) → cond (ltb b (length o.query.blocks)) (get_or flags b false) (s.settled b) ≡ s.settled b
  unreached_flag b not =
      cond_both (ltb b (length o.query.blocks)) (get_or flags b false) (s.settled b) (λ f. f ≡ s.settled b)
      (λ e. unsettles.unreached b not ∙ st.settled b (ltb-true b (length o.query.blocks) e)) (λ e. refl)

module _ {G : Type 0} (o : Opening G) (admitted : Admitted o.query) (s : State G) (tag : ℕ) (v : Survey) (l l' : Lent G) (st : Stands o s v l) (resets : Resets o.kind o.query v.nodes (λ b. (b < v.blocks) × Reaches o.query tag b) l.values l'.values) where
  reached_value : (b : ℕ) → Reaches o.query tag b → (i x : ℕ) → EntryOf o b i x → grades_in o.kind o.tree.count l'.values i x ≡ start_of o i
  reached_value b r i x e =
      let here : Reaches o.query tag (block_of o.query i) = rw e.dealt_here r in
      rw (sym st.counted.nodes) (resets.inside i x e.term (omega (arith, st.counted.nodes, e.node)) (omega (arith, st.counted.blocks, reached_stands admitted here), here))

  unreached_value : (b : ℕ) → (Reaches o.query tag b → ⊥) → (i x : ℕ) → EntryOf o b i x → grades_in o.kind o.tree.count l'.values i x ≡ s.values i x
  unreached_value b not i x e =
      let hx : x < v.nodes = omega (arith, st.counted.nodes, e.node) in
      let stays : grades_in o.kind v.nodes l'.values i x ≡ grades_in o.kind v.nodes l.values i x =
      resets.others (place v.nodes i x) o.kind.lowest (λ j y hj hy p same. not (subst (Reaches o.query tag) (ap (block_of o.query) ((place_apart v.nodes j i y x hy hx same).0) ∙ e.dealt_here) p.1)) in
      (rw st.counted.nodes at stays) ∙ st.values i x e.term e.node

-- the current work, as it was released or not
module _ {G : Type 0} (o : Opening G) (s : State G) (tag m : ℕ) (flags : List Bool) (l' : Lent G) (entries : m ≡ length o.query.terms * o.tree.count) (unreached_flag : (b : ℕ) → (Reaches o.query tag b → ⊥) → (after o s flags l' None).settled b ≡ s.settled b) where
  cleared_blank : (work : Work) (waiting waiting' : List ℕ) → Works o s work waiting → Clears work.queue.size m waiting waiting' → Blank waiting' 0 (length o.query.terms * o.tree.count)
  cleared_blank work waiting waiting' works clears p _ h =
      ⊎_elim (λ low. clears.below p low (omega arith)) (λ high. clears.above p high ∙ works.blank p high h) (cases_lt p work.queue.size)

  working_after : (before current : Option Work) (waiting waiting' : List ℕ) → Working o s before waiting → Releases o.query tag m before current waiting waiting' → Working o (after o s flags l' current) current waiting'
  working_after None current waiting waiting' idle (none, same) =
      subst (λ c. Working o (after o s flags l' c) c waiting') (sym none) (record { none_current = refl; queue = refl; blank = rw same idle.blank })
  working_after (Some work) current waiting waiting' works (inl (reached, none, clears)) =
      subst (λ c. Working o (after o s flags l' c) c waiting') (sym none) (record { none_current = refl; queue = refl; blank = cleared_blank work waiting waiting' works clears })
  working_after (Some work) current waiting waiting' works (inr (not, stays, same)) =
      subst (λ c. Working o (after o s flags l' c) c waiting') (sym stays) (rw same (record {
        current = refl;
        stands = works.stands;
        stale = unreached_flag work.block not ∙ works.stale;
        size = works.size;
        entries = works.entries;
        some_wait = works.some_wait;
        threads = works.threads;
        queue = works.queue;
        blank = works.blank;
      }))

  reached_current : (before current : Option Work) (waiting waiting' : List ℕ) → Working o s before waiting → Releases o.query tag m before current waiting waiting' → (b : ℕ) → Reaches o.query tag b → s.current ≡ Some b → (current_of current ≡ None) × (queue_of current s.queue ≡ [])
  reached_current None current waiting waiting' idle released b r e = absurd (none_some idle.none_current e)
  reached_current (Some work) current waiting waiting' works (inl (reached, none, clears)) b r e = (ap current_of none, ap (λ c. queue_of c s.queue) none)
  reached_current (Some work) current waiting waiting' works (inr (not, stays, same)) b r e = absurd (not (rw (some_some works.current e) r))

  unreached_current : (before current : Option Work) (waiting waiting' : List ℕ) → Working o s before waiting → Releases o.query tag m before current waiting waiting' → (b : ℕ) → (Reaches o.query tag b → ⊥) → s.current ≡ Some b → (current_of current ≡ Some b) × (queue_of current s.queue ≡ s.queue)
  unreached_current None current waiting waiting' idle released b not e = absurd (none_some idle.none_current e)
  unreached_current (Some work) current waiting waiting' works (inl (reached, none, clears)) b not e = absurd (not (subst (Reaches o.query tag) (some_some works.current e) reached))
  unreached_current (Some work) current waiting waiting' works (inr (never, stays, same)) b not e = (ap current_of stays ∙ ap Some (some_some works.current e), ap (λ c. queue_of c s.queue) stays)

  none_current : (before current : Option Work) (waiting waiting' : List ℕ) → Working o s before waiting → Releases o.query tag m before current waiting waiting' → s.current ≡ None → (current_of current ≡ None) × (queue_of current s.queue ≡ s.queue)
  none_current None current waiting waiting' idle (none, same) e = (ap current_of none, ap (λ c. queue_of c s.queue) none ∙ sym idle.queue)
  none_current (Some work) current waiting waiting' works released e = absurd (none_some e works.current)

-- whatever was released, the table is as long as before, and only its places below m may differ
pub released_within : (q : Table) (tag m : ℕ) (before current : Option Work) (waiting waiting' : List ℕ) → Releases q tag m before current waiting waiting' → Within m waiting waiting'
released_within q tag m None current waiting waiting' (none, same) = rw same (record { same_length = refl; beyond = λ p d h. refl })
released_within q tag m (Some work) current waiting waiting' (inl (reached, none, clears)) = clears.within
released_within q tag m (Some work) current waiting waiting' (inr (not, stays, same)) = rw same (record { same_length = refl; beyond = λ p d h. refl })

-- the one that alters the mark
module _ {G : Type 0} (o : Opening G) (admitted : Admitted o.query) (v v' : Survey) (l l' : Lent G) (node tag : ℕ) (grade : G) (hn : node < v.nodes) (ha : tag < v.tags) (differs : grades_in o.kind v.nodes l.marks tag node ≡ grade → ⊥) (marks : l'.marks ≡ set l.marks (place v.nodes tag node) grade) (r : Restarts o.kind o.query tag v v' l.values l'.values l.waiting l'.waiting) where
  module _ (s : State G) (st : Stands o s v l) where
    there : place v.nodes tag node < length l.marks
    there = omega (arith, place_inside v.nodes v.tags tag node ha hn, st.roomy.marks)

    mark_set : grades_in o.kind o.tree.count l'.marks tag node ≡ grade
    mark_set = rw (marks, sym st.counted.nodes) (get_or-set_same l.marks (place v.nodes tag node) grade o.kind.lowest there)

    mark_kept : (a x : ℕ) → a < o.query.tags → x < o.tree.count → ((a ≡ tag) × (x ≡ node) → ⊥) → grades_in o.kind o.tree.count l'.marks a x ≡ s.marks a x
    mark_kept a x h hx other =
        let xv : x < v.nodes = omega (arith, st.counted.nodes) in
        let stays : grades_in o.kind v.nodes (set l.marks (place v.nodes tag node) grade) a x ≡ grades_in o.kind v.nodes l.marks a x =
        get_or-set_other l.marks (place v.nodes tag node) (place v.nodes a x) grade o.kind.lowest (λ e. other (place_apart v.nodes a tag x node xv hn e)) in
        rw (marks, sym st.counted.nodes) (stays ∙ rw st.counted.nodes (st.marks a x h hx))

    entries : v.terms * v.nodes ≡ length o.query.terms * o.tree.count
    entries = rw (st.counted.terms, st.counted.nodes) refl

    same_flag : (b : ℕ) → (Reaches o.query tag b → ⊥) → (after o s v'.settled l' None).settled b ≡ s.settled b
    same_flag = unreached_flag o admitted s tag v l st v'.settled r.settled

    led_to : State G
    led_to = after o s v'.settled l' v'.current

    retags_so : Retags o tag node grade s led_to
    unfolding led_to
    retags_so = record {
      alters = λ e. differs (mark_held o s v l st tag node hn ha ∙ e);
      sets = mark_set;
      other_marks = mark_kept;
      reached_stale = reached_flag o admitted s tag v l st v'.settled r.settled;
      reached_start = reached_value o admitted s tag v l l' st r.values;
      reached_current = reached_current o s tag (v.terms * v.nodes) v'.settled l' entries same_flag v.current v'.current l.waiting l'.waiting st.working r.current;
      unreached_settled = same_flag;
      unreached_values = unreached_value o admitted s tag v l l' st r.values;
      unreached_current = unreached_current o s tag (v.terms * v.nodes) v'.settled l' entries same_flag v.current v'.current l.waiting l'.waiting st.working r.current;
      none_current = none_current o s tag (v.terms * v.nodes) v'.settled l' entries same_flag v.current v'.current l.waiting l'.waiting st.working r.current;
    }

    stands_so : Stands o led_to v' l'
    unfolding led_to
    stands_so =
        let nodes : v'.nodes ≡ v.nodes = ap (λ w. w.nodes) r.counts in
        let tags : v'.tags ≡ v.tags = ap (λ w. w.tags) r.counts in
        let terms : v'.terms ≡ v.terms = ap (λ w. w.terms) r.counts in
        let blocks : v'.blocks ≡ v.blocks = ap (λ w. w.blocks) r.counts in
        record {
          counted = record { nodes = nodes ∙ st.counted.nodes; tags = tags ∙ st.counted.tags; terms = terms ∙ st.counted.terms; blocks = blocks ∙ st.counted.blocks };
          roomy = record {
            marks = rw (tags, nodes, marks, length-set) st.roomy.marks;
            values = rw (terms, nodes, r.values.same_length) st.roomy.values;
            waiting = rw (terms, nodes, (released_within o.query tag (v.terms * v.nodes) v.current v'.current l.waiting l'.waiting r.current).same_length) st.roomy.waiting;
          };
          marks = λ a x h hx. refl;
          values = λ i x h hx. refl;
          flags = r.settled.same_length ∙ st.flags;
          settled = λ b h. sym (flag_here o admitted s tag v l st v'.settled r.settled b h);
          working = working_after o s tag (v.terms * v.nodes) v'.settled l' entries same_flag v.current v'.current l.waiting l'.waiting st.working r.current;
        }

  altered_by_rules : ByRules o (retag node tag grade) (altered true) v l v' l'
  altered_by_rules s st = (led_to s st, (retags node tag grade (led_to s st) (omega (arith, st.counted.nodes)) (omega (arith, st.counted.tags)) (retags_so s st), stands_so s st))

  pub altered_so : (answer : Bool) → answer ≡ true → ByRules o (retag node tag grade) (altered answer) v l v' l'
  altered_so answer e = rw e altered_by_rules

-- a reset stays within the entries of the survey
pub reset_within : {G : Type 0} (k : Kind G) (q : Table) (v : Survey) → v.terms ≡ length q.terms → (P : ℕ → Type 0) (before after : List G) → Resets k q v.nodes P before after → Within (v.terms * v.nodes) before after
reset_within k q v e P before after resets = rw e (resets_within k q v.nodes P before after resets)

pub nothing_altered : {G : Type 0} (v : Survey) (l : Lent G) → (v ≡ v) × (l ≡ l)
nothing_altered v l = (refl, refl)

-- a mark of the survey has its place in the table
pub mark_there : {G : Type 0} (v : Survey) (l : Lent G) (node tag : ℕ) → Roomy v l → node < v.nodes → tag < v.tags → place v.nodes tag node < length l.marks
mark_there v l node tag roomy hn ha = omega (arith, place_inside v.nodes v.tags tag node ha hn, roomy.marks)

-- what a retag answers, by whether it altered the mark
module _ {G : Type 0} (k : Kind G) (t : Tree) (q : Table) (v : Survey) (l : Lent G) (node tag : ℕ) (grade : G) (fits : Fits v t.count (length q.terms) l) (hn : node < v.nodes) (ha : tag < v.tags) (marks' : List G) (marks : marks' ≡ set l.marks (place v.nodes tag node) grade) where
  pub remarks_altered : grades_in k v.nodes l.marks tag node ≢ grade → (r : Bool) → r ≡ true → (v' : Survey) (values' : List G) (waiting' : List ℕ) → Restarts k q tag v v' l.values values' l.waiting waiting' → Remarks k t q v l node tag grade v' (lent marks' values' waiting') r
  remarks_altered differs r e v' values' waiting' restarts =
      rw e (record { fits = fits; node_there = hn; tag_there = ha; says = (λ _. differs, λ _. tt); marks = marks; restarts = λ _. restarts; unaltered = λ f. absurd (true≢false f) })

  tables_same : grades_in k v.nodes l.marks tag node ≡ grade → lent marks' l.values l.waiting ≡ l
  tables_same same = ap (λ m. lent m l.values l.waiting) (marks ∙ rw (sym same) (set-get_or l.marks (place v.nodes tag node) k.lowest))

  pub remarks_same : grades_in k v.nodes l.marks tag node ≡ grade → (r : Bool) → r ≡ false → Remarks k t q v l node tag grade v (lent marks' l.values l.waiting) r
  remarks_same same r e =
      rw e (record { fits = fits; node_there = hn; tag_there = ha; says = (λ f. absurd f, λ differs. differs same); marks = marks; restarts = λ f. absurd (false≢true f); unaltered = λ _. (refl, tables_same same) })

  pub unaltered_by_rules : (m : Grades G) → grades_in k v.nodes l.marks tag node ≡ grade → (r : Bool) → r ≡ false → ByRules (opening k t q m) (retag node tag grade) (altered r) v l v (lent marks' l.values l.waiting)
  unaltered_by_rules m same r e = rw (e, tables_same same) (same_by_rules (opening k t q m) v l node tag grade hn ha same)
