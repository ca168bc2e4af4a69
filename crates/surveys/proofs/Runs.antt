-- Steps in a row, each held to the rules, are a run of the rules.
use Rattle.std.proofs.Common.{◌≡◌, ℕ, suc, ◌+◌, ◌*◌, ◌<◌, ◌≤◌, Bool, true, false, T, List, [], ◌∷◌, ◌++◌, length, get_or, Option, Some, None, sym, refl, ap, ◌∙◌, subst, ap₂, add-one, arith}
use Rattle.std.proofs.lemmas.List.{length_push, get_or_append_left, get_or_push}
use Rattle.grades.specs.Kind.{Kind, Says}
use Rattle.shapes.specs.Tree.{Tree}
use Rattle.queries.specs.Table.{Table}
use Rattle.meaning.specs.Solutions.{Grades}
use Rattle.queues.specs.Calls.{head_of}
use Rattle.queues.specs.Within.{Within}
use Rattle.queues.proofs.Within.{within_same}
use Rattle.surveys.specs.declared.refusal.SurveyRefusal.{SurveyRefusal}
use Rattle.surveys.specs.declared.survey.Survey.{Survey}
use Rattle.surveys.specs.Rules.{Opening, State, Steps, Makes, EveryBlockSettled}
use Rattle.surveys.specs.Calls.{Does}
use Rattle.surveys.specs.Calls.Call.{step, run}
use Rattle.surveys.specs.Calls.Answer.{stepped, ran, refused}
use Rattle.surveys.specs.Held.{ByRules, AlteredAtMost, WaitsWithin}
use Rattle.surveys.specs.Promise.{opening}
use Rattle.surveys.specs.Running.{RunsWithin}
use Rattle.surveys.specs.Standing.{Lent, Fits, Stands}
use Rattle.surveys.specs.Stepping.{AllFlagged, Stored, Worked}
use Rattle.surveys.proofs.Waiting.{waits_same, waits_both}

-- a table that was altered in n places, and then in one more
altered_more : {G : Type 0} (n : ℕ) (a b c : List G) → AlteredAtMost n a b → AlteredAtMost 1 b c → AlteredAtMost (n + 1) a c
altered_more n a b c h k = record {
  same_length = k.same_length ∙ h.same_length;
  places = h.places ++ (get_or k.places 0 0 ∷ []);
  few = length_push h.places (get_or k.places 0 0) ∙ ap (λ m. m + 1) h.few;
  others = λ i d apart. k.others i d (λ j l e. last i apart j l e) ∙ h.others i d (λ j l e. before i apart j l e);
}
  where
    at : List ℕ
    at = h.places ++ (get_or k.places 0 0 ∷ [])

    last : (i : ℕ) → ((j : ℕ) → j < n + 1 → get_or at j 0 ≡ i → ⊥) → (j : ℕ) → j < 1 → get_or k.places j 0 ≡ i → ⊥
    last i apart j l e = apart n (omega arith) (get_or_push h.places (get_or k.places 0 0) 0 n h.few ∙ ap (λ m. get_or k.places m 0) zero_is ∙ e)
      where
        zero_is : 0 ≡ j
        zero_is = omega arith

    before : (i : ℕ) → ((j : ℕ) → j < n + 1 → get_or at j 0 ≡ i → ⊥) → (j : ℕ) → j < n → get_or h.places j 0 ≡ i → ⊥
    before i apart j l e = apart j (omega arith) (get_or_append_left h.places (get_or k.places 0 0 ∷ []) 0 j (omega (arith, h.few)) ∙ e)

altered_none : {G : Type 0} (a : List G) → AlteredAtMost 0 a a
altered_none a = record { same_length = refl; places = []; few = refl; others = λ k d apart. refl }

-- one step more at the end
makes_more : {G : Type 0} (o : Opening G) {n : ℕ} {s s' s'' : State G} → Makes o n s s' → Steps o s' s'' → Makes o (suc n) s s''
makes_more o {s'' = s''} (Makes.none s) st = Makes.one_more 0 s s'' s'' st (Makes.none s'')
makes_more o {s'' = s''} (Makes.one_more n s s₁ s₂ first rest) st = Makes.one_more (suc n) s s₁ s'' first (makes_more o rest st)

step_made : {G : Type 0} (o : Opening G) (s : State G) (all : Bool) (s' : State G) → Does o s step (stepped all) s' → Steps o s s'
step_made o s all s' (Does.steps a s₁ st says) = st

-- a step is refused only where all is settled
pub step_refused : {G : Type 0} (o : Opening G) (s : State G) (why : SurveyRefusal) (s' : State G) → Does o s step (refused why) s' → EveryBlockSettled o s
step_refused o s why s' (Does.nothing_left h) = h

-- what a run has done after n steps, from the survey v and the tables l to v' and l'
pub record Made {G : Type 0} (k : Kind G) (t : Tree) (q : Table) (n : ℕ) (v : Survey) (l : Lent G) (v' : Survey) (l' : Lent G) : Type 0 where
  pub by_rules : (m : Grades G) (s : State G) → Stands (opening k t q m) s v l → (s' : State G) × (Makes (opening k t q m) n s s' × Stands (opening k t q m) s' v' l')
  pub values : AlteredAtMost n l.values l'.values
  pub within : Within (length q.terms * t.count) l.values l'.values
  pub waiting : WaitsWithin (length q.terms * t.count) v l.waiting v' l'.waiting

module _ {G : Type 0} {k : Kind G} {t : Tree} {q : Table} {v : Survey} {l : Lent G} where
  pub made_none : Made k t q 0 v l v l
  made_none = record { by_rules = λ m s st. (s, (Makes.none s, st)); values = altered_none l.values; within = within_same (length q.terms * t.count) l.values; waiting = waits_same (length q.terms * t.count) v l.waiting }

  -- one step more
  pub made_more : {n : ℕ} {v₁ v₂ : Survey} {l₁ l₂ : Lent G} (all : Bool) → Made k t q n v l v₁ l₁ → ((m : Grades G) → ByRules (opening k t q m) step (stepped all) v₁ l₁ v₂ l₂) → AlteredAtMost 1 l₁.values l₂.values → Within (length q.terms * t.count) l₁.values l₂.values → WaitsWithin (length q.terms * t.count) v₁ l₁.waiting v₂ l₂.waiting → Made k t q (n + 1) v l v₂ l₂
  made_more {n} {v₁} {v₂} {l₁} {l₂} all h rules altered within waits = record {
    by_rules = λ m s st. let p = h.by_rules m s st in let r = rules m p.0 p.1.1 in (r.0, (rw add-one (makes_more (opening k t q m) p.1.0 (step_made (opening k t q m) p.0 all r.0 r.1.0)), r.1.1));
    values = altered_more n l.values l₁.values l₂.values h.values altered;
    within = record { same_length = within.same_length ∙ h.within.same_length; beyond = λ p d past. within.beyond p d past ∙ h.within.beyond p d past };
    waiting = waits_both h.waiting waits;
  }

pub true_of : (b : Bool) → T b → b ≡ true
true_of true h = refl
true_of false h = absurd h

-- the flags say what is settled
pub flags_tell : {G : Type 0} {o : Opening G} {s : State G} {v : Survey} {l : Lent G} (all : Bool) → Stands o s v l → Says all (AllFlagged v) → Says all (EveryBlockSettled o s)
flags_tell {o = o} {s = s} all st says = (λ h b below. subst T (sym (sym (st.settled b below) ∙ says.0 h b (omega (arith, st.counted.blocks)))) tt, λ h. says.1 (λ b below. let here : b < length o.query.blocks = omega (arith, st.counted.blocks) in st.settled b here ∙ true_of (s.settled b) (h b here)))

-- a run that made all its steps, or whose next one is refused
pub run_done : {G : Type 0} {k : Kind G} {t : Tree} {q : Table} {v v' : Survey} {l l' : Lent G} (most n : ℕ) (all : Bool) → n ≤ most → Made k t q n v l v' l' → Says all (AllFlagged v') → (n < most → (m : Grades G) (s : State G) → Stands (opening k t q m) s v' l' → EveryBlockSettled (opening k t q m) s) → (m : Grades G) → ByRules (opening k t q m) (run most) (ran n all) v l v' l'
run_done {k = k} {t = t} {q = q} most n all few h says ends m s st = let p = h.by_rules m s st in (p.0, (Does.runs most n all p.0 few p.1.0 (flags_tell all p.1.1 says) (λ less. ends less m p.0 p.1.1), p.1.1))

-- a run that ends in a refused step, which altered nothing
pub run_refused : {G : Type 0} {k : Kind G} {t : Tree} {q : Table} {v v₁ v₂ : Survey} {l l₁ l₂ : Lent G} (most n : ℕ) (all : Bool) (why : SurveyRefusal) → n ≤ most → Made k t q n v l v₁ l₁ → ((m : Grades G) → ByRules (opening k t q m) step (refused why) v₁ l₁ v₂ l₂) → v₂ ≡ v₁ → l₂ ≡ l₁ → Says all (AllFlagged v₂) → ((m : Grades G) → ByRules (opening k t q m) (run most) (ran n all) v l v₂ l₂) × Made k t q n v l v₂ l₂
run_refused {G} {k} {t} {q} {v} {v₁} {v₂} {l} {l₁} {l₂} most n all why few h rules same_survey same_tables says =
    (run_done most n all few h₂ says (λ less m s st. ends m s (back m s st)), h₂)
  where
    h₂ : Made k t q n v l v₂ l₂
    h₂ = subst (λ x. Made k t q n v l x l₂) (sym same_survey) (subst (λ x. Made k t q n v l v₁ x) (sym same_tables) h)

    back : (m : Grades G) (s : State G) → Stands (opening k t q m) s v₂ l₂ → Stands (opening k t q m) s v₁ l₁
    back m s st = subst (λ x. Stands (opening k t q m) s x l₁) same_survey (subst (λ x. Stands (opening k t q m) s v₂ x) same_tables st)

    ends : (m : Grades G) (s : State G) → Stands (opening k t q m) s v₁ l₁ → EveryBlockSettled (opening k t q m) s
    ends m s st = let r = rules m s st in step_refused (opening k t q m) s why r.0 r.1.0

pub runs_within : {G : Type 0} {k : Kind G} {t : Tree} {q : Table} {v v' : Survey} {l l' : Lent G} {n : ℕ} (most : ℕ) → n ≤ most → Made k t q n v l v' l' → RunsWithin most n l l'
runs_within most few h = record { few = few; values = h.values }

-- a step leaves the counts and the lengths of the tables
pub fits_kept : {G : Type 0} {k : Kind G} {t : Tree} {q : Table} {v v' : Survey} {l l' : Lent G} (all : Bool) → Worked k t q v l v' l' all → l'.marks ≡ l.marks → length l'.values ≡ length l.values → length l'.waiting ≡ length l.waiting → Fits v t.count (length q.terms) l → Fits v' t.count (length q.terms) l'
fits_kept {t = t} {q} {v} {v'} {l} {l'} all w marks values waiting fits = counted (head_of w.left) w.stored
  where
    roomy : (u : Survey) → u.nodes ≡ v.nodes → u.tags ≡ v.tags → u.terms ≡ v.terms → Fits u t.count (length q.terms) l'
    roomy u nodes tags terms = record {
      same_nodes = nodes ∙ fits.same_nodes;
      same_terms = terms ∙ fits.same_terms;
      roomy = record {
        marks = omega (arith, fits.roomy.marks, ap₂ (λ a b. a * b) tags nodes, ap length marks);
        values = omega (arith, fits.roomy.values, ap₂ (λ a b. a * b) terms nodes, values);
        waiting = omega (arith, fits.roomy.waiting, ap₂ (λ a b. a * b) terms nodes, waiting);
      };
    }

    counted : (o : Option ℕ) → Stored o v (record { block = w.works_off.work.block; queue = w.left }) v' all → Fits v' t.count (length q.terms) l'
    counted None stored = subst (λ u. Fits u t.count (length q.terms) l') (sym stored.0) (roomy _ refl refl refl)
    counted (Some e) stored = subst (λ u. Fits u t.count (length q.terms) l') (sym stored.0) (roomy _ refl refl refl)
