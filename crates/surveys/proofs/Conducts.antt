-- A list of calls, each held to the rules, is a course of the rules.
use Rattle.std.proofs.Common.{◌≡◌, ℕ, ◌+◌, ◌<◌, ◌≤◌, List, [], ◌∷◌, ◌++◌, length, map, get_or, take, drop, Some, None, Err, Result, MatchOption, MatchResult, IsErrAnd, sym, refl, ap, ◌∙◌, subst, arith, take-append-drop}
use Rattle.std.proofs.lemmas.List.{take_more, take_all, length_push}
use Rattle.std.proofs.lemmas.Result.{err_from_is_err_and}
use Rattle.grades.specs.Kind.{Kind, Laws}
use Rattle.shapes.specs.Tree.{Tree, Laws as TreeLaws}
use Rattle.queries.specs.Table.{Table, Admitted}
use Rattle.meaning.specs.Solutions.{Grades}
use Rattle.surveys.specs.declared.call.Call.{Call}
use Rattle.surveys.specs.declared.call.Answer.{Answer}
use Rattle.surveys.specs.declared.call.CallFailure.{CallFailure}
use Rattle.surveys.specs.declared.call.CallFailure.TheVariants.{Refused as CallRefused, NoMemory as RowNotCopied}
use Rattle.surveys.specs.declared.refusal.SurveyRefusal.{SurveyRefusal}
use Rattle.surveys.specs.declared.survey.Survey.{Survey}
use Rattle.surveys.specs.Rules.{Opening, State, opened}
use Rattle.surveys.specs.Calls as rules
use Rattle.surveys.specs.Conducting.{asks, answers, kept_of, paired, Led, Conducted, Interrupted}
use Rattle.surveys.specs.Held.{ByRules}
use Rattle.surveys.specs.Opens.{Agrees}
use Rattle.surveys.specs.Promise.{asked, opening}
use Rattle.surveys.specs.Standing.{Lent, Stands}
use Rattle.surveys.proofs.Courses.{course_grows}
use Rattle.surveys.proofs.Promises.{promise_kept_lem}

-- the call is known, or the row
pub of_call : {G : Type 0} {o : Opening G} {a : rules.Answer G} {v v' : Survey} {l l' : Lent G} (c d : Call G) → c ≡ d → ByRules o (asks d) a v l v' l' → ByRules o (asks c) a v l v' l'
of_call {o = o} {a = a} {v = v} {v' = v'} {l = l} {l' = l'} c d e h = subst (λ x. ByRules o (asks x) a v l v' l') (sym e) h

pub of_row : {G : Type 0} {o : Opening G} {c : rules.Call G} {s s' : State G} (xs ys : List G) (d : G) → xs ≡ ys → rules.Does o s c (rules.Answer.row (λ x. get_or ys x d)) s' → rules.Does o s c (rules.Answer.row (λ x. get_or xs x d)) s'
of_row {o = o} {c = c} {s = s} {s' = s'} xs ys d e h = subst (λ zs. rules.Does o s c (rules.Answer.row (λ x. get_or zs x d)) s') (sym e) h

module _ {G : Type 0} (k : Kind G) where
  -- one call more, paired with its answer
  paired_more : (cs : List (Call G)) (bs : List (Result (Answer G) SurveyRefusal)) (c : Call G) (a : Result (Answer G) SurveyRefusal) → length bs ≡ length cs → paired k (cs ++ (c ∷ [])) (bs ++ (a ∷ [])) ≡ paired k cs bs ++ ((asks c, answers k a) ∷ [])
  paired_more [] [] c a e = refl
  paired_more [] (b ∷ bs) c a e = absurd (omega (arith, e))
  paired_more (d ∷ cs) [] c a e = absurd (omega (arith, e))
  paired_more (d ∷ cs) (b ∷ bs) c a e = ap (λ ps. (asks d, answers k b) ∷ ps) (paired_more cs bs c a (omega (arith, e)))

  -- and the calls alone, whatever it is answered
  asked_more : (cs : List (Call G)) (bs : List (Result (Answer G) SurveyRefusal)) (c : Call G) (a : rules.Answer G) → length bs ≡ length cs → asked (paired k cs bs ++ ((asks c, a) ∷ [])) ≡ map asks (cs ++ (c ∷ []))
  asked_more [] bs c a e = refl
  asked_more (d ∷ cs) [] c a e = absurd (omega (arith, e))
  asked_more (d ∷ cs) (b ∷ bs) c a e = ap (λ ds. asks d ∷ ds) (asked_more cs bs c a (omega (arith, e)))

-- the next call of a list
taken_more : {G : Type 0} (all : List (Call G)) (i : ℕ) (c : Call G) → i < length all → c ≡ get_or all i c → take (i + 1) all ≡ take i all ++ (c ∷ [])
taken_more all i c below is = take_more all i c below ∙ ap (λ x. take i all ++ (x ∷ [])) (sym is)

-- the calls so far, with their answers, led to what the survey and the tables hold
pub record Leads {G : Type 0} (k : Kind G) (t : Tree) (q : Table) (at : Lent G) (past : rules.Calls G) (v : Survey) (l : Lent G) : Type 0 where
  pub to : (m : Grades G) → Agrees k t q at m → (s : State G) × (rules.Course (opening k t q m) (opened (opening k t q m)) past s × Stands (opening k t q m) s v l)

pub record SoFar {G : Type 0} (k : Kind G) (t : Tree) (q : Table) (at : Lent G) (calls : List (Call G)) (given : List (Result (Answer G) SurveyRefusal)) (v : Survey) (l : Lent G) : Type 0 where
  pub each : length given ≡ length calls
  pub leads : Leads k t q at (paired k calls given) v l

module _ {G : Type 0} {k : Kind G} {t : Tree} {q : Table} {at : Lent G} where
  leads_more : {past : rules.Calls G} {v v' : Survey} {l l' : Lent G} (c : rules.Call G) (a : rules.Answer G) → Leads k t q at past v l → ((m : Grades G) → ByRules (opening k t q m) c a v l v' l') → Leads k t q at (past ++ ((c, a) ∷ [])) v' l'
  leads_more {past} {v} {v'} {l} {l'} c a leads rule = record { to = λ m agrees. let p = leads.to m agrees in let r = rule m p.0 p.1.1 in (r.0, (course_grows (opening k t q m) past p.1.0 r.1.0, r.1.1)) }

  led : {past : rules.Calls G} {v : Survey} {l : Lent G} → Laws k → TreeLaws t → Admitted q → Leads k t q at past v l → (m : Grades G) → Agrees k t q at m → Led (opening k t q m) past l
  led {past} {v} {l} laws nodes admitted leads m agrees = let p = leads.to m agrees in record { state = p.0; survey = v; course = p.1.0; stands = p.1.1; promised = promise_kept_lem k laws t q m nodes admitted }

  pub so_far_none : {v : Survey} {l : Lent G} → ((m : Grades G) → Agrees k t q at m → Stands (opening k t q m) (opened (opening k t q m)) v l) → SoFar k t q at [] [] v l
  so_far_none h = record { each = refl; leads = record { to = λ m agrees. (opened (opening k t q m), (rules.Course.empty (opened (opening k t q m)), h m agrees)) } }

  pub so_far_more : {calls : List (Call G)} {given : List (Result (Answer G) SurveyRefusal)} {v v' : Survey} {l l' : Lent G} (c : Call G) (a : Result (Answer G) SurveyRefusal) → SoFar k t q at calls given v l → ((m : Grades G) → ByRules (opening k t q m) (asks c) (answers k a) v l v' l') → SoFar k t q at (calls ++ (c ∷ [])) (given ++ (a ∷ [])) v' l'
  so_far_more {calls} {given} {v} {v'} {l} {l'} c a h rule = record {
    each = length_push given a ∙ ap (λ n. n + 1) h.each ∙ sym (length_push calls c);
    leads = subst (λ ps. Leads k t q at ps v' l') (sym (paired_more k calls given c a h.each)) (leads_more (asks c) (answers k a) h.leads rule);
  }

  pub conducted : {calls : List (Call G)} {given : List (Result (Answer G) SurveyRefusal)} {v : Survey} {l : Lent G} → Laws k → TreeLaws t → Admitted q → SoFar k t q at calls given v l → (m : Grades G) → Agrees k t q at m → Conducted (opening k t q m) calls given l
  conducted laws nodes admitted h m agrees = record { each = h.each; led = led laws nodes admitted h.leads m agrees }

  -- the next call of the list is made
  module _ (all : List (Call G)) (i : ℕ) {given : List (Result (Answer G) SurveyRefusal)} {v v' : Survey} {l l' : Lent G} (c : Call G) (below : i < length all) (is : c ≡ get_or all i c) where
    pub so_far_next : {given' : List (Result (Answer G) SurveyRefusal)} (a : Result (Answer G) SurveyRefusal) → given' ≡ given ++ (a ∷ []) → SoFar k t q at (take i all) given v l → ((m : Grades G) → ByRules (opening k t q m) (asks c) (answers k a) v l v' l') → SoFar k t q at (take (i + 1) all) given' v' l'
    so_far_next {given'} a pushed h rule =
        subst (λ cs. SoFar k t q at cs given' v' l') (sym (taken_more all i c below is))
        (subst (λ as'. SoFar k t q at (take i all ++ (c ∷ [])) as' v' l') (sym pushed) (so_far_more c a h rule))

    -- but memory runs out for its answer
    pub interrupted : (a : rules.Answer G) → Laws k → TreeLaws t → Admitted q → SoFar k t q at (take i all) given v l → ((m : Grades G) → ByRules (opening k t q m) (asks c) a v l v' l') → (m : Grades G) → Agrees k t q at m → Interrupted (opening k t q m) all l'
    interrupted a laws nodes admitted h rule m agrees = record {
      done = take i all ++ (c ∷ []);
      left = drop (i + 1) all;
      all = sym (ap (λ cs. cs ++ drop (i + 1) all) (sym (taken_more all i c below is)) ∙ take-append-drop (i + 1) all);
      some_done = λ e. let n : length (take i all ++ (c ∷ [])) ≡ 0 = ap length e in omega (arith, n, length_push (take i all) c);
      past = paired k (take i all) given ++ ((asks c, a) ∷ []);
      made = asked_more k (take i all) given c a h.each;
      led = led laws nodes admitted (leads_more (asks c) a h.leads rule) m agrees;
    }

  pub so_far_all : (all : List (Call G)) (i : ℕ) {given : List (Result (Answer G) SurveyRefusal)} {v : Survey} {l : Lent G} → length all ≤ i → SoFar k t q at (take i all) given v l → SoFar k t q at all given v l
  so_far_all all i {given} {v} {l} over h = subst (λ cs. SoFar k t q at cs given v l) (take_all i all over) h

-- what holds of a failure holds of a result that is this failure
of_failure : {T E : Type 0} (F : Result T E → Type 0) (r : Result T E) (why : E) → IsErrAnd r (λ e. e ≡ why) → F (Err why) → F r
of_failure F r why h p = let e = err_from_is_err_and r h in rw (e.1, e.2) p

pub given_up : {T E : Type 0} (P : T → Type 0) (Q : E → Type 0) (r : Result T E) (why : E) → IsErrAnd r (λ e. e ≡ why) → Q why → MatchResult r P Q
given_up P Q = of_failure (λ r. MatchResult r P Q)

-- a refusal is kept as such, an answer too, and where memory ran out nothing is
module _ {G : Type 0} (none : Type 0) (P : Result (Answer G) SurveyRefusal → Type 0) (r : Result (Answer G) CallFailure) where
  pub kept_refused : (why : SurveyRefusal) → IsErrAnd r (λ e. e ≡ CallRefused why) → P (Err why) → MatchOption (kept_of r) none P
  kept_refused why = of_failure (λ x. MatchOption (kept_of x) none P) r (CallRefused why)

  pub kept_none : IsErrAnd r (λ e. e ≡ RowNotCopied) → none → MatchOption (kept_of r) none P
  kept_none = of_failure (λ x. MatchOption (kept_of x) none P) r RowNotCopied

  pub of_kept : (a : Result (Answer G) SurveyRefusal) → kept_of r ≡ Some a → MatchOption (kept_of r) none P → P a
  of_kept a e h = subst (λ o. MatchOption o none P) e h

  pub of_unkept : kept_of r ≡ None → MatchOption (kept_of r) none P → none
  of_unkept e h = subst (λ o. MatchOption o none P) e h
