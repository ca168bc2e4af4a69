-- Lists of readers, as a loop over the terms notes them.
use Rattle.std.proofs.Common.{◌≡◌, ℕ, zero, suc, ◌+◌, ◌<◌, ◌≤◌, Bool, true, false, cond, ◌&&◌, ◌||◌, eqb, List, [], ◌∷◌, ◌++◌, map, length, get_or, set, filter, vec_items, sym, refl, ap, ◌∙◌, subst, inl, inr, add-one, arith}
use Rattle.std.specs.List.{range_with_len, ContainsAt as Has}
use Rattle.std.proofs.lemmas.List.FromFn.{length-range_with_len, get_or-range_with_len, map-range_with_len_more}
use Rattle.std.proofs.lemmas.List.Elements.{filter-append}
use Rattle.std.proofs.lemmas.List.Kept.{AllPairs-filter}
use Rattle.std.proofs.ByRecursion.{All-from_get_or, all-has, all_kept_by, has_append_left, has_append_right, kept_by_passes}
use Rattle.std.proofs.lemmas.List.{length-map, append-nil, get_or_past, get_or-map, get_or-set_same, get_or-set_other, map-id, map-set}
use Rattle.std.proofs.lemmas.Bool.{false≢true, cases_lt, cases_eq, eq-eqb, ne_eqb, and_right}
use Rattle.queries.specs.declared.query.entries.TermEntry.{TermEntry}
use Rattle.queries.specs.declared.workings.DealtTerm.{DealtTerm}
use Rattle.queries.specs.Entries.{dealt_of, readers_at}
use Rattle.queries.specs.Workings.{listed, noted, nth_term, no_term, reads_within}
use Rattle.queries.proofs.Listed.{length_listed, getD_listed}

-- the next term
counting_more : (n : ℕ) → range_with_len 0 (n + 1) ≡ range_with_len 0 n ++ (n ∷ [])
counting_more n = sym (map-id (range_with_len 0 (n + 1))) ∙ map-range_with_len_more (λ k. k) 0 n n (omega arith) ∙ ap (λ l. l ++ (n ∷ [])) (map-id (range_with_len 0 n))

and_true : (x y : Bool) → x ≡ true → (x && y) ≡ y
and_true x y e = ap (λ z. z && y) e

-- one more at the end of the list of `read`
pub noted_set : (lists : List (List ℕ)) (read j t : ℕ) → read < length lists → get_or (set lists read (get_or lists read [] ++ (j ∷ []))) t [] ≡ noted (eqb read t) (get_or lists t []) j
noted_set lists read j t h = elim (cases_eq read t) [ inl e ↦ here e | inr e ↦ other e ]
  where
    here : read ≡ t → get_or (set lists read (get_or lists read [] ++ (j ∷ []))) t [] ≡ noted (eqb read t) (get_or lists t []) j
    here e = rw (eq-eqb read t e, ← e) (get_or-set_same lists read _ [] h)

    other : (read ≡ t → ⊥) → get_or (set lists read (get_or lists read [] ++ (j ∷ []))) t [] ≡ noted (eqb read t) (get_or lists t []) j
    other e = rw (ne_eqb read t e) (get_or-set_other lists read t _ [] (λ z. e (sym z)))

-- at two terms one after the other
pub noted_twice : (a : Bool) (l r t j : ℕ) (xs : List ℕ) → (r ≡ l → ⊥) → noted (a && eqb r t) (noted (a && eqb l t) xs j) j ≡ noted (a && (eqb l t || eqb r t)) xs j
noted_twice false l r t j xs other = refl
noted_twice true l r t j xs other = elim (cases_eq l t) [
  | inl e ↦ rw (eq-eqb l t e, ne_eqb r t (λ z. other (z ∙ sym e))) refl
  | inr e ↦ rw (ne_eqb l t e) refl
]

-- at no term yet
pub none_noted : (lists : List (List ℕ)) (n : ℕ) → lists ≡ listed (λ _. []) n → (t : ℕ) → get_or lists t [] ≡ []
none_noted lists n e t = ap (λ l. get_or l t []) e ∙ elim (cases_lt t n) [
  | inl h ↦ getD_listed (λ _. []) n t [] h
  | inr h ↦ get_or_past (listed (λ _. []) n) t [] (rw length_listed h)
]

-- the test on blocks at what is read is the test on blocks at t, where t is what is read
module _ (blocks : ℕ → ℕ) (read reader t : ℕ) where
  within : blocks reader ≡ blocks read → (eqb (blocks reader) (blocks t) && eqb read t) ≡ eqb read t
  within same = elim (cases_eq read t) [
    | inl e ↦ and_true (eqb (blocks reader) (blocks t)) (eqb read t) (eq-eqb _ _ (same ∙ ap blocks e))
    | inr e ↦ and_right (eqb (blocks reader) (blocks t)) (eqb read t) (ne_eqb read t e) ∙ sym (ne_eqb read t e)
  ]

-- a reader noted at a term of its block
module _ (es : List TermEntry) (read reader : ℕ) (read_in : read < length es) (reader_in : reader < length es) where
  abbrev blocks : ℕ → ℕ
  blocks i = (nth_term (map dealt_of es) i).block

  block_at : (i : ℕ) (d : TermEntry) → i < length es → (nth_term (map dealt_of es) i).block ≡ (get_or es i d).block
  block_at i d h = ap (λ (x : DealtTerm). x.block) (get_or-map dealt_of es i d no_term h)

  pub noted_within : (a b d e : TermEntry) → vec_items e.readers ≡ vec_items (get_or es read d).readers ++ (reader ∷ []) → (get_or es reader a).block ≡ (get_or es read b).block → (t : ℕ) → readers_at (set es read e) t ≡ noted (eqb (nth_term (map dealt_of es) reader).block (nth_term (map dealt_of es) t).block && eqb read t) (readers_at es t) reader
  noted_within a b d e pushed same t =
      let lists = map (λ (x : TermEntry). vec_items x.readers) es in
      let list : vec_items e.readers ≡ get_or lists read [] ++ (reader ∷ []) = pushed ∙ ap (λ l. l ++ (reader ∷ [])) (sym (get_or-map (λ (x : TermEntry). vec_items x.readers) es read d [] read_in)) in
      ap (λ l. get_or l t []) (map-set (λ (x : TermEntry). vec_items x.readers) es read e ∙ ap (set lists read) list)
      ∙ noted_set lists read reader t (rw length-map read_in)
      ∙ ap (λ b. noted b (readers_at es t) reader) (sym (within blocks read reader t (block_at reader a reader_in ∙ same ∙ sym (block_at read b read_in))))

-- of the first n terms, those that are of the block of term t and read it
abbrev pub readers_before : List DealtTerm → ℕ → ℕ → List ℕ
readers_before terms n t = filter (reads_within terms t) (range_with_len 0 n)

pub readers_more : (terms : List DealtTerm) (n t : ℕ) → noted (reads_within terms t n) (readers_before terms n t) n ≡ readers_before terms (n + 1) t
readers_more terms n t = sym (ap (filter test) (counting_more n) ∙ filter-append test (range_with_len 0 n) (n ∷ []) ∙ last (test n) (readers_before terms n t))
  where
    test : ℕ → Bool
    test = reads_within terms t

    last : (b : Bool) (l : List ℕ) → l ++ cond b (n ∷ []) [] ≡ noted b l n
    last true l = refl
    last false l = append-nil l

-- the list of what a test passes among the first n numbers
module _ (p : ℕ → Bool) where
  kept_more : (n : ℕ) → filter p (range_with_len 0 (suc n)) ≡ filter p (range_with_len 0 n) ++ filter p (n ∷ [])
  kept_more n = ap (filter p) (ap (range_with_len 0) (sym (add-one n)) ∙ counting_more n) ∙ filter-append p (range_with_len 0 n) (n ∷ [])

  counted : (n i : ℕ) → i < length (range_with_len 0 n) → get_or (range_with_len 0 n) i 0 < n
  counted n i h = let l : i < n = subst (λ m. i < m) (length-range_with_len 0 n) h in omega (arith, get_or-range_with_len 0 n i 0 l)

  pub kept_only : (n j : ℕ) → Has (filter p (range_with_len 0 n)) j → (j < n) × (p j ≡ true)
  kept_only n j h = (
    all-has (λ k. k < n) (filter p (range_with_len 0 n)) j (all_kept_by p (λ k. k < n) (range_with_len 0 n) (All-from_get_or (λ k. k < n) (range_with_len 0 n) 0 (counted n))) h,
    all-has (λ k. p k ≡ true) (filter p (range_with_len 0 n)) j (kept_by_passes p (range_with_len 0 n)) h,
  )

  passes : (n : ℕ) (b : Bool) → b ≡ true → Has (cond b (n ∷ []) []) n
  passes n true e = (0, omega arith, λ d. refl)
  passes n false e = absurd (false≢true e)

  pub kept_all : (n j : ℕ) → j < n → p j ≡ true → Has (filter p (range_with_len 0 n)) j
  kept_all zero j h e = absurd (omega arith)
  kept_all (suc n) j h e = subst (λ l. Has l j) (sym (kept_more n)) (elim (cases_lt j n) [
    | inl l ↦ has_append_left (filter p (range_with_len 0 n)) (filter p (n ∷ [])) j (kept_all n j l e)
    | inr l ↦ has_append_right (filter p (range_with_len 0 n)) (filter p (n ∷ [])) j (last (same l))
  ])
    where
      same : n ≤ j → n ≡ j
      same l = omega arith

      last : n ≡ j → Has (filter p (n ∷ [])) j
      last s = subst (Has (filter p (n ∷ []))) s (passes n (p n) (ap p s ∙ e))

  -- in rising order, from any number on
  pub kept_rises : (a n x y : ℕ) → x < y → y < length (filter p (range_with_len a n)) → get_or (filter p (range_with_len a n)) x 0 < get_or (filter p (range_with_len a n)) y 0
  kept_rises a n x y = AllPairs-filter (λ b c. b < c) p (range_with_len a n) rises x y 0
    where
      rises : (i j d : ℕ) → i < j → j < length (range_with_len a n) → get_or (range_with_len a n) i d < get_or (range_with_len a n) j d
      rises i j d less h =
          let within : j < n = subst (λ m. j < m) (length-range_with_len a n) h in
          omega (arith, get_or-range_with_len a n i d (omega arith), get_or-range_with_len a n j d within)
