-- Lists of a function of the numbers below a bound.
use Rattle.std.proofs.Common.{◌≡◌, ℕ, zero, suc, ◌+◌, ◌<◌, ◌≤◌, cond, ltb, List, [], ◌∷◌, ◌++◌, map, length, get_or, take, is_some, Some, None, Option, sym, refl, ap, ◌∙◌, ap₂, inl, inr, arith, Bor}
use Rattle.std.specs.List.{slice_get}
use Rattle.std.specs.Option.{option_map}
use Rattle.std.specs.Slice.{IsGetResult}
use Rattle.std.proofs.lemmas.List.FromFn.{length-map-range_with_len, get_or-map-range_with_len, map-range_with_len_more, fill_by_all}
use Rattle.std.proofs.lemmas.List.{map_push, take_more}
use Rattle.std.proofs.lemmas.Option.{slice_get-get_or, slice_get_past}
use Rattle.std.proofs.lemmas.Bool.{false≢true, cases_lt, lt-ltb, le-ltb}
use Rattle.queries.specs.Workings.{listed}

module _ {X : Type 0} (f : ℕ → X) where
  pub length_listed : (n : ℕ) → length (listed f n) ≡ n
  length_listed n = length-map-range_with_len f 0 n

  pub getD_listed : (n i : ℕ) (d : X) → i < n → get_or (listed f n) i d ≡ f i
  getD_listed n i d h = get_or-map-range_with_len f 0 n i i d h (omega arith)

  pub listed_more : (n : ℕ) → listed f (n + 1) ≡ listed f n ++ (f n ∷ [])
  listed_more n = map-range_with_len_more f 0 n n (omega arith)

  pub listed_all : (xs : List X) (n : ℕ) (d : X) → length xs ≡ n → ((k : ℕ) → k < n → get_or xs k d ≡ f k) → xs ≡ listed f n
  listed_all = fill_by_all f

  pub nth_listed : (n i : ℕ) → slice_get (listed f n) i ≡ cond (ltb i n) (Some (f i)) None
  nth_listed n i = elim (cases_lt i n) [ inl h ↦ below h | inr h ↦ past h ]
    where
      below : i < n → slice_get (listed f n) i ≡ cond (ltb i n) (Some (f i)) None
      below h = rw (lt-ltb i n h, slice_get-get_or (listed f n) i (f i) (rw length_listed h), getD_listed n i (f i) h)

      past : n ≤ i → slice_get (listed f n) i ≡ cond (ltb i n) (Some (f i)) None
      past h = rw (le-ltb i n h, slice_get_past (listed f n) i (rw length_listed h))

-- a list whose elements stand for others, that a loop pushes onto
module _ {X Y : Type 0} (f : X → Y) (xs zs : List X) (x : X) (pushed : zs ≡ xs ++ (x ∷ [])) where
  stands_push : (ys : List Y) (y : Y) → map f xs ≡ ys → f x ≡ y → map f zs ≡ ys ++ (y ∷ [])
  stands_push ys y e is = ap (map f) pushed ∙ map_push f xs x ∙ ap₂ (λ l v. l ++ (v ∷ [])) e is

  -- for the elements of a list
  pub taken_push : (ys : List Y) (i : ℕ) (d : Y) → i < length ys → map f xs ≡ take i ys → f x ≡ get_or ys i d → map f zs ≡ take (i + 1) ys
  taken_push ys i d h e is = stands_push (take i ys) (get_or ys i d) e is ∙ sym (take_more ys i d h)

  -- for a listed function
  pub stands_listed_push : (F : ℕ → Y) (n : ℕ) → map f xs ≡ listed F n → f x ≡ F n → map f zs ≡ listed F (n + 1)
  stands_listed_push F n e is = stands_push (listed F n) (F n) e is ∙ sym (listed_more F n)

-- what `get` finds is what stands there
pub picked : {X : Type 0} (xs : List X) (i : ℕ) (o : Option (Bor X)) → IsGetResult xs i i o → option_map (λ x. x.now) o ≡ slice_get xs i
picked xs i None h = sym (slice_get_past xs i h.3)
picked xs i (Some x) h = sym (slice_get-get_or xs i x.now h.3.0 ∙ ap Some (sym (h.3.1 x.now)))

-- what a listed function answers
pub some_listed : {X : Type 0} (n i : ℕ) (v x : X) → Some x ≡ cond (ltb i n) (Some v) None → (i < n) × (x ≡ v)
some_listed n i v x e = elim (cases_lt i n) [ inl h ↦ (h, here (e ∙ rw (lt-ltb i n h) refl)) | inr h ↦ absurd (past (e ∙ rw (le-ltb i n h) refl)) ]
  where
    here : Some x ≡ Some v → x ≡ v
    here f = cc

    past : Some x ≡ None → ⊥
    past f = false≢true (sym (ap is_some f))

pub none_listed : {X : Type 0} (n i : ℕ) (v : X) → None ≡ cond (ltb i n) (Some v) None → n ≤ i
none_listed n i v e = elim (cases_lt i n) [ inl h ↦ absurd (past (e ∙ rw (lt-ltb i n h) refl)) | inr h ↦ h ]
  where
    past : None ≡ Some v → ⊥
    past f = false≢true (ap is_some f)

pub nth_map : {X Y : Type 0} (f : X → Y) (xs : List X) (i : ℕ) → slice_get (map f xs) i ≡ option_map f (slice_get xs i)
nth_map f [] i = refl
nth_map f (x ∷ xs) zero = refl
nth_map f (x ∷ xs) (suc i) = nth_map f xs i

-- the same where the elements stand for others
pub picked_by : {X Y : Type 0} (f : X → Y) (lent xs : List X) {ys : List Y} (i : ℕ) (o : Option (Bor X)) → IsGetResult lent i i o → lent ≡ xs → map f xs ≡ ys → option_map (λ x. f x.now) o ≡ slice_get ys i
picked_by f lent xs i None h same e = ap (option_map f) (picked lent i None h) ∙ ap (λ l. option_map f (slice_get l i)) same ∙ sym (nth_map f xs i) ∙ ap (λ l. slice_get l i) e
picked_by f lent xs i (Some x) h same e = ap (option_map f) (picked lent i (Some x) h) ∙ ap (λ l. option_map f (slice_get l i)) same ∙ sym (nth_map f xs i) ∙ ap (λ l. slice_get l i) e

-- what `get` finds in a list whose elements stand for a listed function
module _ {X Y : Type 0} (f : X → Y) (xs lent : List X) (F : ℕ → Y) (n i : ℕ) (is : map f xs ≡ listed F n) (same : lent ≡ xs) where
  row : (o : Option (Bor X)) → IsGetResult lent i i o → option_map (λ x. f x.now) o ≡ cond (ltb i n) (Some (F i)) None
  row o h = picked_by f lent xs i o h same is ∙ nth_listed F n i

  pub row_found : (x : Bor X) → IsGetResult lent i i (Some x) → (i < n) × (f x.now ≡ F i)
  row_found x h = some_listed n i (F i) (f x.now) (row (Some x) h)

  pub row_missing : IsGetResult lent i i None → n ≤ i
  row_missing h = none_listed n i (F i) (row None h)
