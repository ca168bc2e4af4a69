-- Whether a text begins with a row is decided.
use Rattle.std.proofs.Common.{◌≡◌, ℕ, ◌^◌, ◌<◌, List, [], ◌∷◌, ◌++◌, refl, ◌⊎◌, inl, inr, ap₂}
use native.Mathlib.Decide.{ℕ_discrete}
use Rattle.surveys.proofs.Decisions.{both, either, iff}
use Rattle.surveys.proofs.Reaching.{some_below}
use Rattle.files.specs.declared.head.GradeKind.{GradeKind}
use Rattle.files.specs.declared.head.GradeKind.TheVariants.{YesNo, StageSets}
use Rattle.files.specs.declared.head.Hand.{Hand}
use Rattle.files.specs.declared.head.Hand.TheVariants.{AsListed, Mirrored}
use Rattle.files.specs.Lines.{RowForm, row_text, RowFits}
use Rattle.files.specs.Rows.{head_form, node_form, block_form, term_form, mark_form, asked_form}

-- the text begins with a row, and goes on with more
pub record Begins {R : Type 0} (form : RowForm R) (text : List ℕ) : Type 0 where
  pub row : R
  pub more : List ℕ
  pub fits : RowFits form row
  pub written : text ≡ row_text form row ++ more

prefix? : (p text : List ℕ) → Dec ((more : List ℕ) × (text ≡ p ++ more))
prefix? [] text = yes (text, refl)
prefix? (c ∷ p) [] = no (λ h. let e = h.1 in cc)
prefix? (c ∷ p) (b ∷ text) = iff (λ h. (h.1.0, ap₂ ◌∷◌ h.0 h.1.1)) (λ h. let e = h.1 in (cc, (h.0, cc))) (both (ℕ_discrete b c) (λ _. prefix? p text))

-- the rows that fit can be gone through
abbrev Sought : {R : Type 0} → RowForm R → Type 1
Sought {R} form = (P : R → Type 0) → ((r : R) → Dec (P r)) → Dec ((r : R) × (RowFits form r × P r))

begins? : {R : Type 0} (form : RowForm R) → Sought form → (text : List ℕ) → Dec (Begins form text)
begins? form sought text =
    iff (λ h. record { row = h.0; more = h.1.1.0; fits = h.1.0; written = h.1.1.1 }) (λ b. (b.row, (b.fits, (b.more, b.written))))
    (sought (λ r. (more : List ℕ) × (text ≡ row_text form r ++ more)) (λ r. prefix? (row_text form r) text))

five? : (P : ℕ → Type 0) → ((n : ℕ) → Dec (P n)) → Dec ((n : ℕ) × ((n < 10 ^ 5) × P n))
five? P d = some_below P d (10 ^ 5)

kind? : (P : GradeKind → Type 0) → ((k : GradeKind) → Dec (P k)) → Dec ((k : GradeKind) × P k)
kind? P d = iff (λ h. elim h [ inl p ↦ (YesNo, p) | inr p ↦ (StageSets, p) ]) which (either (d YesNo) (d StageSets))
  where
    which : (k : GradeKind) × P k → P YesNo ⊎ P StageSets
    which (YesNo, p) = inl p
    which (StageSets, p) = inr p

hand? : (P : Hand → Type 0) → ((h : Hand) → Dec (P h)) → Dec ((h : Hand) × P h)
hand? P d = iff (λ h. elim h [ inl p ↦ (AsListed, p) | inr p ↦ (Mirrored, p) ]) which (either (d AsListed) (d Mirrored))
  where
    which : (h : Hand) × P h → P AsListed ⊎ P Mirrored
    which (AsListed, p) = inl p
    which (Mirrored, p) = inr p

head_sought : Sought head_form
head_sought P d =
    iff (λ (n, (ln, (a, (la, (b, (lb, (t, (lt, (k, (h, p)))))))))). (record { nodes = n; tags = a; blocks = b; terms = t; grades = k; hand = h }, ((ln, (la, (lb, (lt, tt)))), p)))
    (λ (r, ((ln, (la, (lb, (lt, _)))), p)). (r.nodes, (ln, (r.tags, (la, (r.blocks, (lb, (r.terms, (lt, (r.grades, (r.hand, p)))))))))))
    (five? _ (λ n. five? _ (λ a. five? _ (λ b. five? _ (λ t. kind? _ (λ k. hand? _ (λ h. d (record { nodes = n; tags = a; blocks = b; terms = t; grades = k; hand = h }))))))))

node_sought : Sought node_form
node_sought P d =
    iff (λ (n, (l, p)). (record { depth = n }, ((l, tt), p))) (λ (r, ((l, _), p)). (r.depth, (l, p)))
    (five? _ (λ n. d (record { depth = n })))

block_sought : Sought block_form
block_sought P d =
    iff (λ (k, (lk, (n, (ln, p)))). (record { kind = k; terms = n }, ((lk, (ln, tt)), p))) (λ (r, ((lk, (ln, _)), p)). (r.kind, (lk, (r.terms, (ln, p)))))
    (five? _ (λ k. five? _ (λ n. d (record { kind = k; terms = n }))))

term_sought : Sought term_form
term_sought P d =
    iff (λ (k, (lk, (a, (la, (b, (lb, p)))))). (record { kind = k; a = a; b = b }, ((lk, (la, (lb, tt))), p))) (λ (r, ((lk, (la, (lb, _))), p)). (r.kind, (lk, (r.a, (la, (r.b, (lb, p)))))))
    (five? _ (λ k. five? _ (λ a. five? _ (λ b. d (record { kind = k; a = a; b = b })))))

mark_sought : Sought mark_form
mark_sought P d =
    iff (λ (x, (lx, (a, (la, (g, (lg, p)))))). (record { node = x; tag = a; grade = g }, ((lx, (la, (lg, tt))), p))) (λ (r, ((lx, (la, (lg, _))), p)). (r.node, (lx, (r.tag, (la, (r.grade, (lg, p)))))))
    (five? _ (λ x. five? _ (λ a. some_below _ (λ g. d (record { node = x; tag = a; grade = g })) (10 ^ 10))))

asked_sought : Sought asked_form
asked_sought P d =
    iff (λ (i, (l, p)). (record { term = i }, ((l, tt), p))) (λ (r, ((l, _), p)). (r.term, (l, p)))
    (five? _ (λ i. d (record { term = i })))

pub head? : (text : List ℕ) → Dec (Begins head_form text)
head? = begins? head_form head_sought

pub node? : (text : List ℕ) → Dec (Begins node_form text)
node? = begins? node_form node_sought

pub block? : (text : List ℕ) → Dec (Begins block_form text)
block? = begins? block_form block_sought

pub term? : (text : List ℕ) → Dec (Begins term_form text)
term? = begins? term_form term_sought

pub mark? : (text : List ℕ) → Dec (Begins mark_form text)
mark? = begins? mark_form mark_sought

pub asked? : (text : List ℕ) → Dec (Begins asked_form text)
asked? = begins? asked_form asked_sought
