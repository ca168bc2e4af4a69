-- A survey just opened holds the state at opening.
use Rattle.std.proofs.Common.{◌≡◌, ℕ, ◌*◌, ◌<◌, Bool, true, false, List, length, get_or, replicate, None, refl, ap, subst, ⊎_elim, arith}
use Rattle.std.proofs.lemmas.List.{get_or-replicate, get_or_past, length-replicate}
use Rattle.std.proofs.lemmas.Bool.{cases_lt}
use Rattle.grades.specs.Kind.{Kind}
use Rattle.shapes.specs.Tree.{Tree}
use Rattle.queries.specs.Table.{Table, Admitted}
use Rattle.meaning.specs.Solutions.{Grades}
use Rattle.meaning.proofs.Admitted.{block_stands}
use Rattle.surveys.specs.declared.survey.Survey.{Survey}
use Rattle.surveys.specs.Opens.{stale, Agrees, Opens}
use Rattle.surveys.specs.Promise.{opening}
use Rattle.queues.specs.Within.{Within}
use Rattle.surveys.specs.Resets.{Resets}
use Rattle.surveys.specs.Rules.{opened}
use Rattle.surveys.specs.Standing.{Lent, Roomy, Fits, Stands}
use Rattle.surveys.proofs.Resets.{resets_like, resets_within}

-- every block is stale
all_stale : (b : ℕ) → get_or (replicate 64 false) b false ≡ false
all_stale b = ⊎_elim (λ h. get_or-replicate 64 b false false h) (λ h. get_or_past (replicate 64 false) b false (omega (arith, length-replicate 64 false))) (cases_lt b 64)

module _ {G : Type 0} (k : Kind G) (t : Tree) (q : Table) (admitted : Admitted q) (l l' : Lent G) (roomy : Roomy (stale t q) l) (marks : l'.marks ≡ l.marks) (values : Resets k q t.count (λ b. b < length q.blocks) l.values l'.values) (waiting : length l'.waiting ≡ length l.waiting) (blank : (p : ℕ) → p < length q.terms * t.count → get_or l'.waiting p 0 ≡ 0) where
  stands_opened : (m : Grades G) → Agrees k t q l m → Stands (opening k t q m) (opened (opening k t q m)) (stale t q) l'
  stands_opened m agrees = record {
    counted = record { nodes = refl; tags = refl; terms = refl; blocks = refl };
    roomy = record { marks = omega (arith, roomy.marks, ap length marks); values = omega (arith, roomy.values, values.same_length); waiting = omega (arith, roomy.waiting) };
    marks = rw marks agrees;
    values = λ i x hi hx. values.inside i x hi hx (block_stands admitted i hi);
    flags = length-replicate 64 false;
    settled = λ b h. all_stale b;
    working = record { none_current = refl; queue = refl; blank = λ p _ h. blank p h };
  }

  opens : (v : Survey) → v ≡ stale t q → Opens k t q l l' v
  opens v e = record { survey = e; roomy = roomy; stands = λ m agrees. rw e (stands_opened m agrees) }

-- where a test said yes of each of the blocks, all are reset
pub all_reset : {G : Type 0} (k : Kind G) (q : Table) (n blocks : ℕ) → blocks ≡ length q.blocks → (said : ℕ → Bool) → ((b : ℕ) → b < blocks → said b ≡ true) → (before after : List G) → Resets k q n (λ b. (b < blocks) × (said b ≡ true)) before after → Resets k q n (λ b. b < length q.blocks) before after
all_reset k q n blocks e said each before after r =
    resets_like k q n (λ b. (b < blocks) × (said b ≡ true)) (λ b. b < length q.blocks) (λ b h. omega (arith, e, h.0)) (λ b h. let below : b < blocks = omega (arith, e) in (below, each b below)) before after r

-- the survey by its counts
abbrev counting : ℕ → ℕ → ℕ → ℕ → Survey
counting n a i b = record { nodes = n; tags = a; terms = i; blocks = b; settled = replicate 64 false; current = None }

counts_stale : (t : Tree) (q : Table) (n a i b : ℕ) → n ≡ t.count → a ≡ q.tags → i ≡ length q.terms → b ≡ length q.blocks → counting n a i b ≡ stale t q
counts_stale t q n a i b en ea ei eb = cc

-- what the counts, the reset of all blocks and the clearing of the waiting table come to
module _ {G : Type 0} (k : Kind G) (t : Tree) (q : Table) (n a i b : ℕ) (en : n ≡ t.count) (ea : a ≡ q.tags) (ei : i ≡ length q.terms) (eb : b ≡ length q.blocks) (l l' : Lent G) where
  pub opens_counted : Admitted q → Fits (counting n a i b) t.count (length q.terms) l → l'.marks ≡ l.marks → Resets k q n (λ c. c < length q.blocks) l.values l'.values → length l'.waiting ≡ length l.waiting → ((p : ℕ) → p < i * n → get_or l'.waiting p 0 ≡ 0) → Opens k t q l l' (counting n a i b)
  opens_counted admitted fits marks values waiting blank =
      let e = counts_stale t q n a i b en ea ei eb in
      opens k t q admitted l l' (subst (λ v. Roomy v l) e fits.roomy) marks (rw en at values) waiting (λ p h. blank p (rw (ei, en) h)) (counting n a i b) e

pub values_within : {G : Type 0} (k : Kind G) (q : Table) (n m : ℕ) → n ≡ m → (before after : List G) → Resets k q n (λ b. b < length q.blocks) before after → Within (length q.terms * m) before after
values_within k q n m en before after values = rw en at (resets_within k q n (λ b. b < length q.blocks) before after values)

pub waiting_within : (i n j m : ℕ) → i ≡ j → n ≡ m → (before after : List ℕ) → Within (i * n) before after → Within (j * m) before after
waiting_within i n j m ei en before after within = rw (ei, en) at within
