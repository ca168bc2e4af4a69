-- The marks of a state are those of the opening, as the calls have set them.
use Rattle.std.proofs.Common.{◌≡◌, ℕ, ◌<◌, ◌&&◌, eqb, sym, refl, ◌∙◌, inl, inr, arith}
use Rattle.std.proofs.lemmas.Bool.{cond-true, cond-false, eq-eqb, ne_eqb, and_from, and_left, and_right, cases_eq}
use Rattle.meaning.specs.Solutions.{Grades, Solves, Blockwise}
use Rattle.surveys.specs.Rules.{Opening, State, Makes, Retags}
use Rattle.surveys.specs.Calls.{Call, Answer, Calls, Does, Course, with_mark, marked, marks_after}
use Rattle.surveys.proofs.Decisions.{place?}
use Rattle.surveys.proofs.Readings.{Accepted, read_tag, given_same}

module _ {G : Type 0} (m : Grades G) (a x : ℕ) (g : G) where
  mark_set : (b y : ℕ) → (b ≡ a) × (y ≡ x) → with_mark m a x g b y ≡ g
  mark_set b y h = cond-true (eqb b a && eqb y x) g (m b y) (and_from (eqb b a) (eqb y x) (eq-eqb b a h.0) (eq-eqb y x h.1))

  mark_stays : (b y : ℕ) → ((b ≡ a) × (y ≡ x) → ⊥) → with_mark m a x g b y ≡ m b y
  mark_stays b y other = cond-false (eqb b a && eqb y x) g (m b y) (elim (cases_eq b a) [
    | inr n ↦ and_left (eqb b a) (eqb y x) (ne_eqb b a n)
    | inl e ↦ and_right (eqb b a) (eqb y x) (ne_eqb y x (λ e'. other (e, e')))
  ])

-- the two have the same marks of the survey
abbrev pub SameMarks : {G : Type 0} → Opening G → Grades G → Grades G → Type 0
SameMarks o m m' = (a x : ℕ) → a < o.query.tags → x < o.tree.count → m a x ≡ m' a x

module _ {G : Type 0} (o : Opening G) where
  marks_make : {n : ℕ} {s s' : State G} → Makes o n s s' → s'.marks ≡ s.marks
  marks_make (Makes.none s) = refl
  marks_make (Makes.one_more n s s' s'' st more) = marks_make more ∙ st.marks_stay

  retag_marks : (m : Grades G) (x a : ℕ) (g : G) (s s' : State G) → Retags o a x g s s' → SameMarks o s.marks m → SameMarks o s'.marks (with_mark m a x g)
  retag_marks m x a g s s' r same b y h n = elim (place? b y a x) [
    | yes p ↦ rw (p.0, p.1) r.sets ∙ sym (mark_set m a x g b y p)
    | no other ↦ r.other_marks b y h n other ∙ same b y h n ∙ sym (mark_stays m a x g b y other)
  ]

  -- a retag that leaves the mark as it is sets what is there
  leave_marks : (m : Grades G) (x a : ℕ) (g : G) (s : State G) → s.marks a x ≡ g → SameMarks o s.marks m → SameMarks o s.marks (with_mark m a x g)
  leave_marks m x a g s is same b y h n = elim (place? b y a x) [
    | yes p ↦ rw (p.0, p.1) is ∙ sym (mark_set m a x g b y p)
    | no other ↦ same b y h n ∙ sym (mark_stays m a x g b y other)
  ]

  pub marks_does : {s s' : State G} {c : Call G} {v : Answer G} → Does o s c v s' → (m : Grades G) → SameMarks o s.marks m → SameMarks o s'.marks (marked m c)
  marks_does {s = s} (Does.retags x a g s' node tag r) m same = retag_marks m x a g s s' r same
  marks_does {s = s} (Does.leaves x a g node tag is) m same = leave_marks m x a g s is same
  marks_does (Does.no_such_mark x a g out) m same = λ b y h n. same b y h n ∙ sym (mark_stays m a x g b y (λ p. let e = p.0 in let e' = p.1 in omega arith))
  marks_does (Does.steps all s' st says) m same = rw st.marks_stay same
  marks_does (Does.nothing_left h) m same = same
  marks_does (Does.runs k n all s' le makes says end) m same = rw (marks_make makes) same
  marks_does (Does.reads r vs h t rows) m same = same
  marks_does (Does.no_such_term r h) m same = same
  marks_does (Does.not_settled r h e) m same = same

  pub marks_course : {s s' : State G} {past : Calls G} → Course o s past s' → (m : Grades G) → SameMarks o s.marks m → SameMarks o s'.marks (marks_after m past)
  marks_course (Course.empty s) m same = same
  marks_course (Course.then s s' s'' c v more does rest) m same = marks_course rest (marked m c) (marks_does does m same)

  -- what solves a query goes by the marks of the survey alone
  solves_marks : Accepted o → (b : ℕ) (m m' v : Grades G) → SameMarks o m m' → Solves o.kind o.tree o.query m b v → Solves o.kind o.tree o.query m' b v
  solves_marks f b m m' v same solves i x e = solves i x e ∙ given_same o f b m m' v v (λ a y reads n. same a y (read_tag o f b a reads) n) (λ j y e. refl) (λ j y reads other n. refl) i x e

  pub blockwise_marks : Accepted o → (m m' v : Grades G) → SameMarks o m m' → Blockwise o.kind o.tree o.query m v → Blockwise o.kind o.tree o.query m' v
  blockwise_marks f m m' v same blockwise b stands = record {
    solves = solves_marks f b m m' v same (blockwise b stands).solves;
    best = λ w before solves. (blockwise b stands).best w before (solves_marks f b m' m w (λ a x h n. sym (same a x h n)) solves);
  }
