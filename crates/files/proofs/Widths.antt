-- Numbers in columns of given widths: a text tells them, and where it stops telling them.
use Rattle.std.proofs.Common.{◌≡◌, ℕ, suc, ◌+◌, ◌^◌, ◌<◌, ◌≤◌, List, [], ◌∷◌, ◌++◌, length, get_or, take, drop, set, refl, sym, ap, subst, ◌∙◌, append_assoc, arith, rules}
use Rattle.std.proofs.ByRecursion.{All-push}
use Rattle.std.proofs.Math.ListN.{length-set}
use Rattle.std.proofs.Math.Seq.{split_at}
use Rattle.std.proofs.lemmas.List.{take_more, take_more_set, take_all, length-take-le, flat_map_more}
use Rattle.fields.specs.Fields.{field}
use Rattle.fields.specs.Taking.{Begins}
use Rattle.fields.proofs.Columns.{field_apart}
use Rattle.files.specs.Lines.{Column, InColumns, IsWidth, columns_text}
use Rattle.files.specs.Taking.{AreWidths, FitWidths, columns_behind, in_widths}

abbrev column : ℕ → ℕ → Column
column w n = record { width = w; number = n }

abbrev numbers_text : List ℕ → List ℕ → List ℕ
numbers_text widths numbers = columns_text (in_widths widths numbers)

first_apart : (w m n : ℕ) (ms ns ys zs : List ℕ) → IsWidth w → m < 10 ^ w → n < 10 ^ w → (field w m ++ ms) ++ ys ≡ (field w n ++ ns) ++ zs → (m ≡ n) × (ms ++ ys ≡ ns ++ zs)
first_apart w m n ms ns ys zs a p q e = field_apart w m n (ms ++ ys) (ns ++ zs) a.1 p q (sym (append_assoc (field w m) ms ys) ∙ e ∙ append_assoc (field w n) ns zs)

-- numbers in the same columns are told by the text, and so is what stands behind them
pub numbers_apart : (ws ns xs ys zs : List ℕ) → AreWidths ws → FitWidths ws ns → FitWidths ws xs → numbers_text ws ns ++ ys ≡ numbers_text ws xs ++ zs → (ns ≡ xs) × (ys ≡ zs)
numbers_apart [] [] [] ys zs a f g e = (refl, e)
numbers_apart [] [] (x ∷ xs) ys zs a f g e = absurd (omega (arith, g.0))
numbers_apart [] (n ∷ ns) xs ys zs a f g e = absurd (omega (arith, f.0))
numbers_apart (w ∷ ws) [] xs ys zs a f g e = absurd (omega (arith, f.0))
numbers_apart (w ∷ ws) (n ∷ ns) [] ys zs a f g e = absurd (omega (arith, g.0))
numbers_apart (w ∷ ws) (n ∷ ns) (x ∷ xs) ys zs a f g e =
    let first = first_apart w n x (numbers_text ws ns) (numbers_text ws xs) ys zs a.0 f.1.0 g.1.0 e in
    let others = numbers_apart ws ns xs ys zs a.1 (omega (arith, f.0), f.1.1) (omega (arith, g.0), g.1.1) first.1 in
    (cc (first.0, others.0), others.1)

-- where no number stands behind some, no numbers stand in all columns
pub none_behind : (ws vs ns rest : List ℕ) (w : ℕ) → AreWidths (ws ++ (w ∷ vs)) → FitWidths ws ns → ((n : ℕ) (more : List ℕ) → Begins w rest n more → ⊥)
    → (xs more : List ℕ) → FitWidths (ws ++ (w ∷ vs)) xs → numbers_text ws ns ++ rest ≡ numbers_text (ws ++ (w ∷ vs)) xs ++ more → ⊥
none_behind [] vs [] rest w a f none [] more g e = absurd (omega (arith, g.0))
none_behind [] vs [] rest w a f none (x ∷ xs) more g e = none x (numbers_text vs xs ++ more) (record { some = a.0.0; narrow = a.0.1; room = g.1.0; written = e ∙ append_assoc (field w x) (numbers_text vs xs) more })
none_behind [] vs (n ∷ ns) rest w a f none xs more g e = absurd (omega (arith, f.0))
none_behind (u ∷ us) vs [] rest w a f none xs more g e = absurd (omega (arith, f.0))
none_behind (u ∷ us) vs (n ∷ ns) rest w a f none [] more g e = absurd (omega (arith, g.0))
none_behind (u ∷ us) vs (n ∷ ns) rest w a f none (x ∷ xs) more g e =
    let first = first_apart u n x (numbers_text us ns) (numbers_text (us ++ (w ∷ vs)) xs) rest more a.0 f.1.0 g.1.0 e in
    none_behind us vs ns rest w a.1 (omega (arith, f.0), f.1.1) none xs more (omega (arith, g.0), g.1.1) first.1

in_widths_push : (ws ns : List ℕ) (w n : ℕ) → length ns ≡ length ws → in_widths (ws ++ (w ∷ [])) (ns ++ (n ∷ [])) ≡ in_widths ws ns ++ (column w n ∷ [])
in_widths_push [] [] w n e = refl
in_widths_push [] (m ∷ ns) w n e = absurd (omega arith)
in_widths_push (v ∷ ws) [] w n e = absurd (omega arith)
in_widths_push (v ∷ ws) (m ∷ ns) w n e = ap (λ cs. column v m ∷ cs) (in_widths_push ws ns w n (omega arith))

same_taken : (ws ns : List ℕ) (i : ℕ) → i < length ws → length ns ≡ length ws → length (take i ns) ≡ length (take i ws)
same_taken ws ns i lt e = length-take-le i ns (omega arith) ∙ sym (length-take-le i ws (omega arith))

-- behind the letter the first i numbers were taken, and the rest is still to come
pub record TakenTo (letter : ℕ) (text widths numbers : List ℕ) (i : ℕ) (rest : List ℕ) : Type 0 where
  pub size : length numbers ≡ length widths
  pub fit : InColumns (in_widths (take i widths) (take i numbers))
  pub written : text ≡ columns_behind letter (take i widths) (take i numbers) ++ rest

pub taken_none : (letter : ℕ) (text widths numbers rest : List ℕ) → length numbers ≡ length widths → text ≡ letter ∷ rest → TakenTo letter text widths numbers 0 rest
taken_none letter text widths numbers rest size e = record { size = size; fit = search rules; written = search (rules, e) }

pub taken_more : (letter : ℕ) (text widths numbers rest : List ℕ) (i n : ℕ) (behind : List ℕ) → i < length widths → TakenTo letter text widths numbers i rest → Begins (get_or widths i 0) rest n behind → TakenTo letter text widths (set numbers i n) (i + 1) behind
taken_more letter text widths numbers rest i n behind lt t b = record {
  size = length-set numbers i n ∙ t.size;
  fit = rw pushed (All-push (λ c. c.number < 10 ^ c.width) (in_widths (take i widths) (take i numbers)) (column (get_or widths i 0) n) t.fit b.room);
  written = t.written ∙ ap (λ cs. letter ∷ cs) (rw (pushed, b.written) joined);
}
  where
    long : length (take i numbers) ≡ length (take i widths)
    long = same_taken widths numbers i lt t.size

    pushed : in_widths (take (i + 1) widths) (take (i + 1) (set numbers i n)) ≡ in_widths (take i widths) (take i numbers) ++ (column (get_or widths i 0) n ∷ [])
    pushed = rw (take_more widths i 0 lt, take_more_set numbers i n (omega (arith, t.size))) (in_widths_push (take i widths) (take i numbers) (get_or widths i 0) n long)

    joined : columns_text (in_widths (take i widths) (take i numbers)) ++ (field (get_or widths i 0) n ++ behind) ≡ columns_text (in_widths (take i widths) (take i numbers) ++ (column (get_or widths i 0) n ∷ [])) ++ behind
    joined = sym (append_assoc (columns_text (in_widths (take i widths) (take i numbers))) (field (get_or widths i 0) n) behind) ∙ ap (λ cs. cs ++ behind) (flat_map_more (λ c. field c.width c.number) [] (in_widths (take i widths) (take i numbers)) (column (get_or widths i 0) n))

pub taken_all : (letter : ℕ) (text widths numbers rest : List ℕ) (i : ℕ) → length widths ≤ i → TakenTo letter text widths numbers i rest → FitWidths widths numbers × (text ≡ columns_behind letter widths numbers ++ rest)
taken_all letter text widths numbers rest i all t = ((t.size, rw (numbers-is, widths-is) at t.fit), rw (numbers-is, widths-is) at t.written)
  where
    numbers-is : take i numbers ≡ numbers
    numbers-is = take_all i numbers (omega (arith, t.size))

    widths-is : take i widths ≡ widths
    widths-is = take_all i widths all

-- where a number is missing, no numbers stand in all columns
pub taken_no_more : (letter : ℕ) (text widths numbers rest : List ℕ) (i : ℕ) → AreWidths widths → i < length widths → TakenTo letter text widths numbers i rest → ((n : ℕ) (more : List ℕ) → Begins (get_or widths i 0) rest n more → ⊥)
    → (xs more : List ℕ) → FitWidths widths xs → text ≡ columns_behind letter widths xs ++ more → ⊥
taken_no_more letter text widths numbers rest i a lt t none xs more g e =
    none_behind (take i widths) (drop (suc i) widths) (take i numbers) rest (get_or widths i 0) (subst AreWidths split a) (long, t.fit) none xs more
    (subst (λ ws. FitWidths ws xs) split g)
    (subst (λ ws. numbers_text (take i widths) (take i numbers) ++ rest ≡ numbers_text ws xs ++ more) split (ap (drop 1) (sym t.written ∙ e)))
  where
    split : widths ≡ take i widths ++ (get_or widths i 0 ∷ drop (suc i) widths)
    split = split_at widths i 0 lt

    long : length (take i numbers) ≡ length (take i widths)
    long = same_taken widths numbers i lt t.size
