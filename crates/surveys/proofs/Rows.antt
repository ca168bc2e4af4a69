-- Readings: the part of the value table that is a term's row.
use Rattle.std.proofs.Common.{◌≡◌, ℕ, ◌+◌, ◌*◌, ◌<◌, ◌≤◌, false, T, List, length, get_or, take, drop, Ok, Err, Result, IsErrAnd, sym, ap, ◌∙◌, subst, mul-le-mul_right, add-mul, one-mul, arith}
use Rattle.std.specs.Borrow.{Bor}
use Rattle.std.proofs.lemmas.List.{get_or-take, get_or-drop}
use Rattle.queries.specs.Table.{Admitted, block_of}
use Rattle.meaning.proofs.Admitted.{block_stands}
use Rattle.surveys.specs.declared.refusal.SurveyRefusal.{SurveyRefusal}
use Rattle.surveys.specs.declared.refusal.SurveyRefusal.TheVariants.{TableOrCounts, NotInSurvey, NotSettled, AllSettled, ForeignEntry}
use Rattle.surveys.specs.declared.survey.Survey.{Survey}
use Rattle.surveys.specs.Calls.{Does}
use Rattle.surveys.specs.Calls.Call.{read}
use Rattle.surveys.specs.Calls.Answer.{row, refused}
use Rattle.surveys.specs.Reading.{Readable, ReadRefused, of_reading}
use Rattle.surveys.specs.Rules.{Opening, State}
use Rattle.surveys.specs.Standing.{Lent, Stands}

-- a row lies within its table
pub row_end : (i n terms size : ℕ) → i < terms → terms * n ≤ size → i * n + n ≤ size
row_end i n terms size l room = omega (arith, rows, add-mul i 1 n, one-mul n)
  where
    above : i + 1 ≤ terms
    above = omega arith

    rows : (i + 1) * n ≤ terms * n
    rows = mul-le-mul_right n above

module _ {G : Type 0} {o : Opening G} {s : State G} {v : Survey} {l : Lent G} (st : Stands o s v l) (admitted : Admitted o.query) (i : ℕ) where
  flag : i < length o.query.terms → get_or v.settled (block_of o.query i) false ≡ s.settled (block_of o.query i)
  flag stands = st.settled (block_of o.query i) (block_stands admitted i stands)

  -- a settled block's row is read
  pub reads_row : (part : List G) → part ≡ take o.tree.count (drop (i * o.tree.count) l.values) → Readable v o.tree.count o.query (length l.values) i → Does o s (read i) (row (λ x. get_or part x o.kind.lowest)) s
  reads_row part e r = Does.reads i (λ x. get_or part x o.kind.lowest) r.stands (subst T (sym (sym (flag r.stands) ∙ r.settled)) tt) (λ x h. ap (λ p. get_or p x o.kind.lowest) e ∙ get_or-take o.tree.count (drop (i * o.tree.count) l.values) x o.kind.lowest h ∙ get_or-drop (i * o.tree.count) l.values x o.kind.lowest ∙ st.values i x r.stands h)

  -- and a refusal is that of the rules
  pub reads_none : (e : SurveyRefusal) → ReadRefused v o.tree.count o.query (length l.values) i e → Does o s (read i) (refused e) s
  reads_none TableOrCounts h = absurd (h (record { same_nodes = st.counted.nodes; same_terms = st.counted.terms; room = rw (← st.counted.nodes, ← st.counted.terms) st.roomy.values }))
  reads_none NotInSurvey (fits, past) = Does.no_such_term i past
  reads_none NotSettled (fits, (stands, stale)) = Does.not_settled i stands (sym (flag stands) ∙ stale)
  reads_none AllSettled h = absurd h
  reads_none ForeignEntry h = absurd h

  -- so it is where the refusal is handed on
  pub reads_refused : (r : Result (Bor (List G)) SurveyRefusal) (why : SurveyRefusal) → IsErrAnd r (λ e. e ≡ why) → ReadRefused v o.tree.count o.query (length l.values) i why → Does o s (read i) (of_reading o.kind r) s
  reads_refused (Ok part) why h w = absurd h
  reads_refused (Err e) why h w = rw h (reads_none why w)
