-- The rules can be kept: there is a step for every head of a queue, and a retag for every mark that it alters.
use Rattle.std.proofs.Common.{◌≡◌, ℕ, false, ◌||◌, eqb, List, [], ◌∷◌, ◌++◌, Some, None, Option, sym, refl, ◌∙◌}
use Rattle.queries.specs.Table.{Reaches, block_of}
use Rattle.surveys.specs.Places.{Place, Lists}
use Rattle.surveys.specs.Rules.{Opening, State, Queued, WorksOn, Steps, Retags, start_of, given}
use Rattle.surveys.proofs.Decisions.{place?, grade?, empty?}
use Rattle.surveys.proofs.Readings.{Accepted}

abbrev pick : {P A : Type 0} → Dec P → A → A → A
pick (yes p) x y = x
pick (no n) x y = y

pick_yes : {P A : Type 0} (d : Dec P) (x y : A) → P → pick d x y ≡ x
pick_yes (yes p) x y h = refl
pick_yes (no n) x y h = absurd (n h)

pick_no : {P A : Type 0} (d : Dec P) (x y : A) → (P → ⊥) → pick d x y ≡ y
pick_no (yes p) x y n = absurd (n p)
pick_no (no m) x y n = refl

module _ {G : Type 0} (o : Opening G) (f : Accepted o) (s : State G) (b term node : ℕ) (rest readers : List Place) where
  abbrev new : G
  new = given o s.marks s.values term node

  abbrev same? : Dec (new ≡ s.values term node)
  same? = grade? f.kind new (s.values term node)

  abbrev waiting : List Place
  waiting = rest ++ pick same? [] readers

  abbrev stepped : State G
  stepped = record {
    marks = s.marks;
    values = λ i x. pick (place? i x term node) new (s.values i x);
    settled = λ c. pick (empty? waiting) (eqb c b || s.settled c) (s.settled c);
    current = pick (empty? waiting) None (Some b);
    queue = waiting;
  }

  pub some_step : WorksOn o s b ((term, node) ∷ rest) → Lists (Queued o b term node rest) readers → Steps o s stepped
  some_step works lists =
      let takes = pick_yes (place? term node term node) new (s.values term node) (refl, refl) in
      record {
        block = b;
        term = term;
        node = node;
        rest = rest;
        added = pick same? [] readers;
        works_on = works;
        takes = takes;
        others_stay = λ c i x e n. pick_no (place? i x term node) new (s.values i x) n;
        marks_stay = refl;
        unchanged = λ e. pick_yes same? [] readers (sym takes ∙ e);
        changed = λ n. rw (pick_no same? [] readers (λ e. n (takes ∙ e))) lists;
        queue = refl;
        settles = λ e. (pick_yes (empty? waiting) None (Some b) e, λ c. pick_yes (empty? waiting) (eqb c b || s.settled c) (s.settled c) e);
        stays_current = λ n. (pick_no (empty? waiting) None (Some b) n, λ c. pick_no (empty? waiting) (eqb c b || s.settled c) (s.settled c) n);
      }

module _ {G : Type 0} (o : Opening G) (tag node : ℕ) (grade : G) (s : State G) (reached? : (b : ℕ) → Dec (Reaches o.query tag b)) where
  abbrev current_of : Option ℕ → Option ℕ
  current_of None = None
  current_of (Some c) = pick (reached? c) None (Some c)

  abbrev queue_of : Option ℕ → List Place
  queue_of None = s.queue
  queue_of (Some c) = pick (reached? c) [] s.queue

  abbrev retagged : State G
  retagged = record {
    marks = λ a x. pick (place? a x tag node) grade (s.marks a x);
    values = λ i x. pick (reached? (block_of o.query i)) (start_of o i) (s.values i x);
    settled = λ b. pick (reached? b) false (s.settled b);
    current = current_of s.current;
    queue = queue_of s.current;
  }

  pub some_retag : (s.marks tag node ≡ grade → ⊥) → Retags o tag node grade s retagged
  some_retag alters = record {
    alters = alters;
    sets = pick_yes (place? tag node tag node) grade (s.marks tag node) (refl, refl);
    other_marks = λ a x h m n. pick_no (place? a x tag node) grade (s.marks a x) n;
    reached_stale = λ b r. pick_yes (reached? b) false (s.settled b) r;
    reached_start = λ b r i x e. pick_yes (reached? (block_of o.query i)) (start_of o i) (s.values i x) (rw e.dealt_here r);
    reached_current = λ b r e. rw e (pick_yes (reached? b) None (Some b) r, pick_yes (reached? b) [] s.queue r);
    unreached_settled = λ b r. pick_no (reached? b) false (s.settled b) r;
    unreached_values = λ b r i x e. pick_no (reached? (block_of o.query i)) (start_of o i) (s.values i x) (rw e.dealt_here r);
    unreached_current = λ b r e. rw e (pick_no (reached? b) None (Some b) r, pick_no (reached? b) [] s.queue r);
    none_current = λ e. rw e (refl, refl);
  }
