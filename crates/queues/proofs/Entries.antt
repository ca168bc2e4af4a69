-- Lists of entries: membership, no entry twice, and a rising run.
use Rattle.std.proofs.Common.{◌≡◌, ℕ, zero, suc, ◌+◌, ◌-◌, ◌<◌, ◌≤◌, ◌⊎◌, List, [], ◌∷◌, ◌++◌, refl, ap, inl, inr, ⊎_elim, arith}
use Rattle.std.specs.List.{range_with_len, AllByRecursion}
use Rattle.std.proofs.lemmas.Bool.{cases_eq}
use Rattle.queues.specs.Threads.{In, Distinct, newest}

pub in_or_out : (e : ℕ) (l : List ℕ) → In e l ⊎ (In e l → ⊥)
in_or_out e [] = inr (λ h. h)
in_or_out e (x ∷ l) = ⊎_elim (λ s. inl (inl s)) (λ n. ⊎_elim (λ i. inl (inr i)) (λ o. inr (⊎_elim n o)) (in_or_out e l)) (cases_eq x e)

pub in_append : (e : ℕ) (l m : List ℕ) → In e (l ++ m) → In e l ⊎ In e m
in_append e [] m i = inr i
in_append e (x ∷ l) m (inl s) = inl (inl s)
in_append e (x ∷ l) m (inr i) = ⊎_elim (λ j. inl (inr j)) inr (in_append e l m i)

pub append_in : (e : ℕ) (l m : List ℕ) → In e l ⊎ In e m → In e (l ++ m)
append_in e [] m (inl n) = absurd n
append_in e [] m (inr i) = i
append_in e (x ∷ l) m (inl (inl s)) = inl s
append_in e (x ∷ l) m (inl (inr i)) = inr (append_in e l m (inl i))
append_in e (x ∷ l) m (inr i) = inr (append_in e l m (inr i))

pub all_in : (P : ℕ → Type 0) (l : List ℕ) (e : ℕ) → AllByRecursion P l → In e l → P e
all_in P [] e a i = absurd i
all_in P (x ∷ l) e a (inl s) = rw s at a.0
all_in P (x ∷ l) e a (inr i) = all_in P l e a.1 i

pub distinct_append : (l m : List ℕ) → Distinct l → Distinct m → ((e : ℕ) → In e l → In e m → ⊥) → Distinct (l ++ m)
distinct_append [] m d f o = f
distinct_append (x ∷ l) m d f o =
    (λ i. ⊎_elim d.0 (o x (inl refl)) (in_append x l m i), distinct_append l m d.1 f (λ e i. o e (inr i)))

pub newest_in : (x : ℕ) (l : List ℕ) → In (newest x l) (x ∷ l)
newest_in x [] = inl refl
newest_in x (y ∷ l) = inr (newest_in y l)

pub newest_push : (x : ℕ) (l : List ℕ) (e : ℕ) → newest x (l ++ e ∷ []) ≡ e
newest_push x [] e = refl
newest_push x (y ∷ l) e = newest_push y l e

-- a rising run
pub in_counting : (k a n : ℕ) → In k (range_with_len a n) → (a ≤ k) × (k < a + n)
in_counting k a zero i = absurd i
in_counting k a (suc n) (inl s) = (omega arith, omega arith)
in_counting k a (suc n) (inr i) = let h = in_counting k (a + 1) n i in (omega arith, omega arith)

pub counting_in : (k a n : ℕ) → a ≤ k → k < a + n → In k (range_with_len a n)
counting_in k a zero le lt = absurd (omega arith)
counting_in k a (suc n) le lt = ⊎_elim inl (λ d. inr (counting_in k (a + 1) n (omega arith) (omega arith))) (cases_eq a k)

pub inside_counting : (a n m : ℕ) → a + n ≤ m → AllByRecursion (λ k. k < m) (range_with_len a n)
inside_counting a zero m h = tt
inside_counting a (suc n) m h = (omega arith, inside_counting (a + 1) n m (omega arith))

pub distinct_counting : (a n : ℕ) → Distinct (range_with_len a n)
distinct_counting a zero = tt
distinct_counting a (suc n) = ((λ i. let h = in_counting a (a + 1) n i in omega arith), distinct_counting (a + 1) n)

pub counting_more : (a b : ℕ) → a < b → range_with_len a (b - a) ≡ a ∷ range_with_len (a + 1) (b - (a + 1))
counting_more a b lt = let e : b - a ≡ suc (b - (a + 1)) = omega arith in ap (range_with_len a) e

pub counting_none : (a b : ℕ) → b ≤ a → range_with_len a (b - a) ≡ []
counting_none a b le = let e : b - a ≡ 0 = omega arith in ap (range_with_len a) e
