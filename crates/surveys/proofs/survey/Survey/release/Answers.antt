use Rattle.std.proofs.Common.{◌≡◌, ℕ, ◌*◌, ◌<◌, ◌≤◌, List, ◌++◌, length, get_or, take, drop, Some, None, Option, refl, ◌∙◌, inl, ⊎_elim}
use Rattle.std.proofs.lemmas.List.{get_or-take, length-take-le}
use Rattle.std.proofs.lemmas.Bool.{cases_lt}
use Rattle.queries.specs.Queries.{table_of}
use Rattle.queries.specs.Table.{Table, Reaches}
use Rattle.surveys.specs.declared.survey.Work.{Work}
use Rattle.queues.specs.Within.{Within}
use Rattle.surveys.specs.Resets.{Clears, Releases}
use Rattle.surveys.proofs.Fronts.{front, past, within}
use Rattle.surveys.proofs.survey.Survey.release.Goals as goal

-- the first m places of a table, cleared below the size
cleared : (w w' : List ℕ) (m size : ℕ) → m ≤ length w → ((p : ℕ) → p < size → get_or w' p 0 ≡ 0) → Within size (take m w) w' → Clears size m w (w' ++ drop m w)
cleared w w' m size room below stays =
    let long = stays.same_length ∙ length-take-le m w room in
    record {
      within = within w w' m room long;
      below = λ p low h. front w w' m room long p 0 h ∙ below p low;
      above = λ p high. ⊎_elim (λ h. front w w' m room long p 0 h ∙ stays.beyond p 0 high ∙ get_or-take m w p 0 h) (past w w' m room long p 0) (cases_lt p m);
    }

released : (q : Table) (tag m : ℕ) (current : Option Work) (work : Work) (w w' : List ℕ) → current ≡ Some work → Reaches q tag work.block → Clears work.queue.size m w w' → Releases q tag m current None w w'
released q tag m current work w w' is reached clears = rw is (inl (reached, refl, clears))

pub returns : goal.returns
returns c =
    let v = c.args.self.now in
    released (table_of c.args.query.now) c.args.tag (v.terms * v.nodes) v.current c.in_ok-work.work c.args.waiting.now _ c.in_ok-work.was (c.if-not-reaches.ensures.0 tt)
    (cleared c.args.waiting.now c.clear.new.waiting (v.terms * v.nodes) c.in_ok-work.work.queue.size c.requires c.clear.ensures.below c.clear.ensures.stays.table)
