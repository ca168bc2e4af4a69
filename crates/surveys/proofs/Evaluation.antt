-- The entry at the head of a queue, and the grade of its term.
use Rattle.std.proofs.Common.{◌≡◌, ℕ, ◌*◌, ◌<◌, ◌≤◌, Bool, false, List, length, get_or, Some, None, Option, unwrap_or, sym, ap, ◌∙◌, subst, subst₂, inl, inr, arith, Bor, MatchOption}
use Rattle.std.specs.List.{slice_get}
use Rattle.std.specs.Option.{option_map}
use Rattle.std.specs.Slice.{IsGetResult}
use Rattle.std.proofs.lemmas.List.{get_or_past}
use Rattle.std.proofs.lemmas.Option.{slice_get-get_or, slice_get_past}
use Rattle.std.proofs.lemmas.Bool.{cases_lt}
use Rattle.grades.specs.Kind.{Kind}
use Rattle.shapes.specs.Tree.{Tree}
use Rattle.queries.specs.declared.block.Span.{Span}
use Rattle.queries.specs.declared.term.Term.{Term}
use Rattle.queries.specs.declared.term.Term.TheVariants.{Lowest}
use Rattle.queries.specs.Queries.{Spans}
use Rattle.queries.specs.Table.{Table, Admitted, blocks_terms, term_at}
use Rattle.meaning.specs.Solutions.{grade_of_lem}
use Rattle.meaning.specs.Tables.{grades_in, Readable}
use Rattle.queues.specs.Calls.{head_of}
use Rattle.surveys.specs.declared.survey.Work.{Work}
use Rattle.surveys.specs.declared.survey.upcoming.HeadEntry.{HeadEntry}
use Rattle.surveys.specs.StepParts.{Headed, Evaluated}
use Rattle.surveys.specs.Stepping.{first_of, term_of, node_of, Heads, Evaluates}
use Rattle.surveys.proofs.Spanning.{block_has, row_of, spans_first, term_stands}

-- an answer that is none
pub none_cases : {X : Type 0} (r : Option X) (P : Type 0) (Q : X → Type 0) → r ≡ None → P → MatchOption r P Q
none_cases r P Q e p = subst (λ o. MatchOption o P Q) (sym e) p

-- a flag, as `get` finds it
pub flag_found : (flags : List Bool) (i : ℕ) (o : Option (Bor Bool)) → IsGetResult flags i i o → unwrap_or (option_map (λ x. x.now) o) false ≡ get_or flags i false
flag_found flags i None h = sym (get_or_past flags i false h.3)
flag_found flags i (Some x) h = h.3.1 false

-- what stands at a place that was found
pub found_at : (terms : List Term) (i : ℕ) (m : Term) → Some m ≡ slice_get terms i → m ≡ get_or terms i Lowest
found_at terms i m e = elim (cases_lt i (length terms)) [
  | inl h ↦ let at = slice_get-get_or terms i Lowest h in cc
  | inr h ↦ let none = slice_get_past terms i h in cc
]

-- the queue has one head
pub heads_once : (q : Table) (n : ℕ) (w : Work) (d e : ℕ) → Heads q n w d → Heads q n w e → d ≡ e
heads_once q n w d e h k = let a = h.head in let b = k.head in cc

module _ {q : Table} (a : Admitted q) (w : Work) where
  -- the head is an entry of the block
  pub headed : (n e : ℕ) (s : Span) (h : HeadEntry) → head_of w.queue ≡ Some e → e < blocks_terms q w.block * n → Spans q w.block s → h.first ≡ s.first → h.term ≡ term_of q n w.block e → h.node ≡ node_of n e → Headed q n w h
  headed n e s h head inside spans first term node =
      let f : h.first ≡ first_of q w.block = first ∙ spans_first a w.block s spans in
      record { entry = e; heads = record { head = head; inside = inside }; is = λ i. record { first = f i; term = term i; node = node i } }

  -- past the blocks there is no such entry
  pub headless : (n : ℕ) → length q.blocks ≤ w.block → (e : ℕ) → Heads q n w e → ⊥
  headless n past e h =
      let row = (row_of n (blocks_terms q w.block) e h.inside).1 in
      omega (arith, block_has a w.block (omega arith))

  -- its term stands
  pub headed_stands : (n : ℕ) (h : HeadEntry) → Headed q n w h → slice_get q.terms h.term ≡ None → ⊥
  headed_stands n h k none =
      let e : h.term ≡ term_of q n w.block k.entry = ap (λ (h : HeadEntry). h.term) k.is in
      let there : h.term < length q.terms = omega (arith, term_stands a w.block n k.entry k.heads.inside) in
      let some = slice_get-get_or q.terms h.term Lowest there in
      cc

  module _ {G : Type 0} (k : Kind G) (t : Tree) (marks values : List G) (h : HeadEntry) (at : Headed q t.count w h) (m : Term) (is : Some m ≡ slice_get q.terms h.term) where
    term_is : m ≡ term_at q (term_of q t.count w.block at.entry)
    term_is = found_at q.terms h.term m is ∙ ap (λ (h : HeadEntry). term_at q h.term) at.is

    node_is : h.node ≡ node_of t.count at.entry
    node_is = ap (λ (h : HeadEntry). h.node) at.is

    pub evaluated_not : (Readable t marks values m h.node → ⊥) → (e : ℕ) → Evaluates t q marks values w e → ⊥
    evaluated_not outside e v =
        let same : e ≡ at.entry = heads_once q t.count w e at.entry v.heads at.heads in
        outside (subst₂ (λ m x. Readable t marks values m x) (sym term_is) (sym node_is)
        (subst (λ e. Readable t marks values (term_at q (term_of q t.count w.block e)) (node_of t.count e)) same v.readable))

    pub evaluated_so : (grade : G) → Readable t marks values m h.node → grade ≡ grade_of_lem k t (grades_in k t.count marks) (grades_in k t.count values) m h.node → Evaluated k t q marks values w h grade
    evaluated_so grade inside gives =
        record {
          entry = at.entry;
          evaluates = record { heads = at.heads; readable = subst₂ (λ m x. Readable t marks values m x) term_is node_is inside };
          is = at.is;
          graded = subst₂ (λ m x. grade ≡ grade_of_lem k t (grades_in k t.count marks) (grades_in k t.count values) m x) term_is node_is gives;
        }
