-- What a query keeps worked out: each as a function of its table.
use Rattle.std.specs.Prelude.{ℕ, zero, suc, ◌+◌, Bool, false, cond, ◌&&◌, ◌||◌, List, [], ◌∷◌, ◌++◌, map, length, take, Some, None, filter, Option, ◌==◌, slice_index_or}
use Rattle.std.specs.List.{range_with_len}
use Rattle.queries.specs.declared.block.Span.{Span}
use Rattle.queries.specs.declared.term.Operands.{Operands}
use Rattle.queries.specs.declared.term.Term.{Term}
use Rattle.queries.specs.declared.term.Term.TheVariants.{Lowest}
use Rattle.queries.specs.declared.workings.DealtTerm.{DealtTerm}
use Rattle.queries.specs.Operands.{operands_of, either_is, marks}
use Rattle.queries.specs.Table.{Table, blocks_terms, total}

-- a function of the numbers below n, as a list
abbrev pub listed : {X : Type 0} → (ℕ → X) → ℕ → List X
listed f n = map f (range_with_len 0 n)

-- the terms of a block: from the first up to the end
abbrev pub span_of : Table → ℕ → Span
span_of q b = record { first = total (take b q.blocks); end = total (take b q.blocks) + blocks_terms q b }

-- below, terms has each term with its block

abbrev pub no_term : DealtTerm
no_term = record { term = Lowest; block = 0 }

abbrev pub nth_term : List DealtTerm → ℕ → DealtTerm
nth_term terms i = slice_index_or terms i no_term

-- whether term j is of the block of term t, and reads it
abbrev pub reads_within : List DealtTerm → ℕ → ℕ → Bool
reads_within terms t j = (nth_term terms j).block == (nth_term terms t).block && either_is (operands_of (nth_term terms j).term) t

-- the terms of the block of term t that read it
abbrev pub readers_in : List DealtTerm → ℕ → List ℕ
readers_in terms t = filter (reads_within terms t) (range_with_len 0 (length terms))

-- a list with one more at its end, where a test says so
abbrev pub noted : Bool → List ℕ → ℕ → List ℕ
noted test l j = cond test (l ++ (j ∷ [])) l

-- whether a term reads the tag or, by its operands, a block that is reached
abbrev pub touching : Option Operands → Bool → (ℕ → Bool) → Bool
touching None mark reached = mark
touching (Some o) mark reached = reached o.left || reached o.right

abbrev pub touched : List DealtTerm → ℕ → (ℕ → Bool) → Term → Bool
touched terms tag reached term = touching (operands_of term) (marks term tag) (λ j. reached (nth_term terms j).block)

-- whether a tag reaches a block by the first n terms
abbrev pub reached_before : List DealtTerm → ℕ → ℕ → ℕ → Bool
reached_before terms tag zero b = false
reached_before terms tag (suc n) b = reached_before terms tag n b || ((nth_term terms n).block == b && touched terms tag (reached_before terms tag n) (nth_term terms n).term)
