-- What a reading answers, for every survey and table.
use Rattle.std.specs.Prelude.{◌≡◌, ℕ, ◌*◌, ◌<◌, ◌≤◌, true, false, List, length, Ok, Err, Result, slice_index_or}
use Rattle.std.specs.Borrow.{Bor}
use Rattle.grades.specs.Kind.{Kind}
use Rattle.queries.specs.Table.{Table, block_of}
use Rattle.surveys.specs.declared.refusal.SurveyRefusal.{SurveyRefusal}
use Rattle.surveys.specs.declared.refusal.SurveyRefusal.TheVariants.{TableOrCounts, NotInSurvey, NotSettled, AllSettled, ForeignEntry}
use Rattle.surveys.specs.declared.survey.Survey.{Survey}
use Rattle.surveys.specs.Calls.{Answer}
use Rattle.surveys.specs.Calls.Answer.{row, refused}

-- the counts are those of opening, and a value table of that size is long enough
pub record ValuesFit (v : Survey) (n terms size : ℕ) : Type 0 where
  pub same_nodes : v.nodes ≡ n
  pub same_terms : v.terms ≡ terms
  pub room : terms * n ≤ size

-- the term stands, and its block is settled
pub record Readable (v : Survey) (n : ℕ) (q : Table) (size term : ℕ) : Type 0 where
  pub fits : ValuesFit v n (length q.terms) size
  pub stands : term < length q.terms
  pub settled : slice_index_or v.settled (block_of q term) false ≡ true

abbrev pub ReadRefused : Survey → ℕ → Table → ℕ → ℕ → SurveyRefusal → Type 0
ReadRefused v n q size term TableOrCounts = ValuesFit v n (length q.terms) size → ⊥
ReadRefused v n q size term NotInSurvey = ValuesFit v n (length q.terms) size × (length q.terms ≤ term)
ReadRefused v n q size term NotSettled = ValuesFit v n (length q.terms) size × ((term < length q.terms) × (slice_index_or v.settled (block_of q term) false ≡ false))
ReadRefused v n q size term AllSettled = ⊥
ReadRefused v n q size term ForeignEntry = ⊥

-- the answer of a reading as an answer of the rules
abbrev pub of_reading : {G : Type 0} → Kind G → Result (Bor (List G)) SurveyRefusal → Answer G
of_reading k (Ok s) = row (λ x. slice_index_or s.now x k.lowest)
of_reading k (Err why) = refused why
