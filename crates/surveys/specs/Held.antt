-- What the calls on a survey are held to, in the words of the rules.
use Rattle.std.specs.Prelude.{◌≡◌, ℕ, ◌<◌, ◌≤◌, max, Bool, List, length, Some, None, Ok, Err, Option, Result, ◌≢◌, slice_index, slice_index_or}
use Rattle.queues.specs.Within.{Within}
use Rattle.surveys.specs.declared.refusal.SurveyRefusal.{SurveyRefusal}
use Rattle.surveys.specs.declared.survey.Survey.{Survey}
use Rattle.surveys.specs.declared.survey.Work.{Work}
use Rattle.surveys.specs.Rules.{Opening, State}
use Rattle.surveys.specs.Calls.{Call, Answer, Does}
use Rattle.surveys.specs.Calls.Answer.{altered, stepped, ran, refused}
use Rattle.surveys.specs.Standing.{Lent, Stands}

-- whatever state the survey and its tables hold, the call does there as the rules say, and they hold the state that it leads to
abbrev pub ByRules : {G : Type 0} → Opening G → Call G → Answer G → Survey → Lent G → Survey → Lent G → Type 0
ByRules {G} o call answer v l v' l' = (s : State G) → Stands o s v l → (s' : State G) × (Does o s call answer s' × Stands o s' v' l')

-- the answers of the calls as answers of the rules
abbrev pub of_retag : {G : Type 0} → Result Bool SurveyRefusal → Answer G
of_retag (Ok changed) = altered changed
of_retag (Err why) = refused why

abbrev pub of_step : {G : Type 0} → Result Bool SurveyRefusal → Answer G
of_step (Ok all) = stepped all
of_step (Err why) = refused why

abbrev pub of_run : {G : Type 0} → Result (ℕ × Bool) SurveyRefusal → Answer G
of_run (Ok (n, all)) = ran n all
of_run (Err why) = refused why

-- a table with at most n places altered, and as long as before
pub record AlteredAtMost {G : Type 0} (n : ℕ) (before after : List G) : Type 0 where
  pub same_length : length after ≡ length before
  pub places : List ℕ
  pub few : length places ≡ n
  pub others : (k : ℕ) (d : G) → ((j : ℕ) → j < n → slice_index places j ≢ k) → slice_index_or after k d ≡ slice_index_or before k d

-- how far the queues write: over n entries, and further where the current queue does
abbrev pub queue_places : ℕ → Option Work → ℕ
queue_places n None = n
queue_places n (Some w) = max n w.queue.size

-- no waiting place is written past these, and the queue then reaches no further
pub record WaitsWithin (n : ℕ) (v : Survey) (waiting : List ℕ) (v' : Survey) (waiting' : List ℕ) : Type 0 where
  pub table : Within (queue_places n v.current) waiting waiting'
  pub queue : queue_places n v'.current ≤ queue_places n v.current
