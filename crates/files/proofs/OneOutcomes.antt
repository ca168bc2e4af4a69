-- A file has one outcome.
use Rattle.std.proofs.Common.{◌≡◌, ℕ, ◌<◌, List, [], length, refl, sym, ap, ◌∙◌, subst, subst₂, inl, inr, arith, rules}
use Rattle.std.proofs.lemmas.Bool.{cases_lt}
use Rattle.grades.specs.Filed.{Numbered, yes_no_number, stage_set_number}
use Rattle.grades.specs.Kind.{Laws as KindLaws}
use Rattle.grades.specs.Stages.{same_bits, stage_set_laws}
use Rattle.grades.specs.YesNo.{yes_no_laws}
use Rattle.queries.specs.Rows.{told}
use Rattle.queries.proofs.Rules.{as_many}
use Rattle.files.specs.declared.head.GradeKind.{GradeKind}
use Rattle.files.specs.declared.head.GradeKind.TheVariants.{YesNo, StageSets}
use Rattle.files.specs.declared.rows.AskedRow.{AskedRow}
use Rattle.files.specs.declared.tables.Room.{Room}
use Rattle.files.specs.Causes.{FirstCause, missing_term, rows_in}
use Rattle.files.specs.Causes.Cause.{at_asked}
use Rattle.files.specs.Contents.{Contents, Reads, TermsThere, lines_of}
use Rattle.files.specs.Files.{Lawful, Lists, ListsByKind, ListsFor, NeedsMoreFor, NeedsMoreSteps, Refuses}
use Rattle.files.specs.Listings.{Filed}
use Rattle.files.specs.Settling.{ListsTerm, Solved}
use Rattle.files.specs.Files.Refuses.{too_long, no_head, first_cause, too_many_steps}
use Rattle.files.specs.Outcomes.{OneOutcome}
use Rattle.files.proofs.FirstCauses.{one_first_cause}
use Rattle.files.proofs.LawfulContents.{admitted, as_many_terms, tree_laws}
use Rattle.files.proofs.OneReading.{head_stands, one_reading}
use Rattle.files.proofs.OneSettling.{not_both_settled, term_listed_once}
use Rattle.files.proofs.OneTree.{one_tree}

pub yes_no_numbered : Numbered yes_no_number
yes_no_numbered = search rules

pub stage_set_numbered : Numbered stage_set_number
stage_set_numbered = record { fits = λ x. x.fits; apart = same_bits }

module _ {rooms : GradeKind → Room} {file : List ℕ} {c : Contents} {asked : ℕ} (w : Lawful rooms file c asked) where
  pub terms_there : TermsThere c
  terms_there = w.reads.in_order.asked_after (λ none. let e = w.asks in cc)

  asked_stands : asked < length (told (rows_in c)).terms
  asked_stands = elim (cases_lt w.row.term c.head.terms) [
    | inl l ↦ omega (arith, w.term, as_many (rows_in c), as_many_terms w.no_cause terms_there, terms_there.1)
    | inr le ↦ absurd (w.no_cause _ _ (at_asked 8 (missing_term w.row w.asks le)))
  ]

  module _ {G : Type 0} (k : Filed G) (laws : KindLaws k.kind) (numbered : Numbered k.number) where
    not_both_for : (text : List ℕ) → NeedsMoreFor k c → ListsFor k c asked text → ⊥
    not_both_for text (t, (tree, more)) (s, (tree', (solved, lists))) =
        not_both_settled k laws numbered t (told (rows_in c)) c.marks (tree_laws w.no_cause terms_there c.head.hand t tree) (admitted w.no_cause terms_there) (subst (λ u. Solved k u (told (rows_in c)) c.marks) (one_tree c c.head.hand s t tree' tree) solved) more

    listed_once_for : (text text' : List ℕ) → ListsFor k c asked text → ListsFor k c asked text' → text ≡ text'
    listed_once_for text text' (t, (tree, (solved, lists))) (t', (tree', l')) =
        let (solved', lists') = subst (λ u. (s : Solved k u (told (rows_in c)) c.marks) × ListsTerm k u (told (rows_in c)) c.marks s asked text') (one_tree c c.head.hand t' t tree' tree) l' in
        term_listed_once k laws numbered t (told (rows_in c)) c.marks (tree_laws w.no_cause terms_there c.head.hand t tree) (admitted w.no_cause terms_there) solved solved' asked asked_stands text text' lists lists'

  not_both_kinds : (g : GradeKind) (text : List ℕ) → NeedsMoreSteps g c → ListsByKind g c asked text → ⊥
  not_both_kinds YesNo = not_both_for _ yes_no_laws yes_no_numbered
  not_both_kinds StageSets = not_both_for _ stage_set_laws stage_set_numbered

  listed_once_kinds : (g : GradeKind) (text text' : List ℕ) → ListsByKind g c asked text → ListsByKind g c asked text' → text ≡ text'
  listed_once_kinds YesNo = listed_once_for _ yes_no_laws yes_no_numbered
  listed_once_kinds StageSets = listed_once_for _ stage_set_laws stage_set_numbered

-- a file that can be settled has no other reading, and is not refused for a cause
module _ {rooms : GradeKind → Room} {file : List ℕ} {c d : Contents} {asked : ℕ} (w : Lawful rooms file c asked) where
  same_contents : {rest : List ℕ} → Reads file d rest → d ≡ c
  same_contents r = (one_reading r w.reads).0

  no_first_cause : {rest : List ℕ} (n l : ℕ) → Reads file d rest → FirstCause (rooms d.head.grades) d rest n l → ⊥
  no_first_cause {rest = rest} n l r f =
      let same : (d ≡ c) × (rest ≡ []) = one_reading r w.reads in
      w.no_cause n l (subst₂ (λ e more. FirstCause (rooms e.head.grades) e more n l) same.0 same.1 f).cause

  same_asked : {asked' : ℕ} → Lawful rooms file d asked' → asked' ≡ asked
  same_asked v =
      let e : d.asked ≡ c.asked = ap (λ k. k.asked) (same_contents v.reads) in
      let row : v.row ≡ w.row = cc (e, v.asks, w.asks) in
      v.term ∙ ap (λ (r : AskedRow). r.term) row ∙ sym w.term

module _ (rooms : GradeKind → Room) (file : List ℕ) where
  refused_once : (n n' l l' : ℕ) → Refuses rooms file n l → Refuses rooms file n' l' → (n ≡ n') × (l ≡ l')
  refused_once n n' l l' (too_long p) (too_long q) = (refl, refl)
  refused_once n n' l l' (too_long p) (no_head q _) = absurd (omega arith)
  refused_once n n' l l' (too_long p) (first_cause _ _ _ _ q _ _) = absurd (omega arith)
  refused_once n n' l l' (too_long p) (too_many_steps _ _ w _) = absurd (omega (arith, w.short))
  refused_once n n' l l' (no_head p _) (too_long q) = absurd (omega arith)
  refused_once n n' l l' (no_head p _) (no_head q _) = (refl, refl)
  refused_once n n' l l' (no_head p none) (first_cause _ _ _ _ q r _) = absurd (head_stands r none)
  refused_once n n' l l' (no_head p none) (too_many_steps _ _ w _) = absurd (head_stands w.reads none)
  refused_once n n' l l' (first_cause _ _ _ _ p _ _) (too_long q) = absurd (omega arith)
  refused_once n n' l l' (first_cause _ _ _ _ p r _) (no_head q none) = absurd (head_stands r none)
  refused_once n n' l l' (first_cause c rest _ _ p r f) (first_cause d rest' _ _ q s g) =
      let same : (d ≡ c) × (rest' ≡ rest) = one_reading s r in
      one_first_cause f (subst₂ (λ e more. FirstCause (rooms e.head.grades) e more n' l') same.0 same.1 g)
  refused_once n n' l l' (first_cause c rest _ _ p r f) (too_many_steps _ _ w _) = absurd (no_first_cause w n l r f)
  refused_once n n' l l' (too_many_steps _ _ w _) (too_long q) = absurd (omega (arith, w.short))
  refused_once n n' l l' (too_many_steps _ _ w _) (no_head q none) = absurd (head_stands w.reads none)
  refused_once n n' l l' (too_many_steps _ _ w _) (first_cause c rest _ _ q r f) = absurd (no_first_cause w n' l' r f)
  refused_once n n' l l' (too_many_steps c _ w _) (too_many_steps d _ v _) = (refl, ap lines_of (same_contents v w.reads))

  not_both : (n l : ℕ) (text : List ℕ) → Refuses rooms file n l → Lists rooms file text → ⊥
  not_both n l text (too_long p) t = omega (arith, t.lawful.short)
  not_both n l text (no_head p none) t = head_stands t.lawful.reads none
  not_both n l text (first_cause _ _ _ _ p r f) t = no_first_cause t.lawful n l r f
  not_both n l text (too_many_steps c asked w more) t = not_both_kinds t.lawful t.contents.head.grades text (subst (λ d. NeedsMoreSteps d.head.grades d) (same_contents t.lawful w.reads) more) t.lists

  listed_once : (text text' : List ℕ) → Lists rooms file text → Lists rooms file text' → text ≡ text'
  listed_once text text' t u =
      listed_once_kinds t.lawful t.contents.head.grades text text' t.lists (subst₂ (λ d asked. ListsByKind d.head.grades d asked text') (same_contents t.lawful u.lawful.reads) (same_asked t.lawful u.lawful) u.lists)

pub one_outcome_lem : OneOutcome
one_outcome_lem rooms file = record { refused_once = refused_once rooms file; not_both = not_both rooms file; listed_once = listed_once rooms file }
