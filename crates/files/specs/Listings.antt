-- The listing of a row, the line of a refusal, and how a text stands in the output.
use Rattle.std.specs.Prelude.{◌≡◌, ℕ, ◌<◌, List, [], ◌∷◌, ◌++◌, drop, length, ◌≢◌, slice_index}
use Rattle.std.specs.List.{flat_map, ContainsAt as Has}
use Rattle.grades.specs.Kind.{Kind}
use Rattle.files.specs.Lines.{five, ten, line_text}

-- a kind of grade, and the numbers of its grades in files
pub record Filed (G : Type 0) : Type 0 where
  pub kind : Kind G
  pub number : G → ℕ

abbrev pub filed : {G : Type 0} → Kind G → (G → ℕ) → Filed G
filed k number = record { kind = k; number = number }

-- the numbers below n for which P holds, in rising order
pub record ListsBelow (n : ℕ) (P : ℕ → Type 0) (xs : List ℕ) : Type 0 where
  pub rising : (a b : ℕ) → a < b → b < length xs → slice_index xs a < slice_index xs b
  pub only : (x : ℕ) → Has xs x → (x < n) × P x
  pub all : (x : ℕ) → x < n → P x → Has xs x

-- A: how many nodes the model has and how many steps were made
abbrev pub answer_line : ℕ → ℕ → List ℕ
answer_line nodes steps = line_text 65 (five nodes ∷ (ten steps ∷ [])) []

-- S: a node and the number of its grade
abbrev pub selected_line : (ℕ → ℕ) → ℕ → List ℕ
selected_line numbers x = line_text 83 (five x ∷ (ten (numbers x) ∷ [])) []

-- E: how many nodes were listed
abbrev pub end_line : ℕ → List ℕ
end_line count = line_text 69 (five count ∷ []) []

-- F: the number and the line of a refusal
abbrev pub fault_line : ℕ → ℕ → List ℕ
fault_line number line = line_text 70 (five number ∷ (five line ∷ [])) []

abbrev pub listing : ℕ → ℕ → (ℕ → ℕ) → List ℕ → List ℕ
listing nodes steps numbers selected = answer_line nodes steps ++ (flat_map (selected_line numbers) selected ++ end_line (length selected))

-- the text lists each node of a row whose grade is not the lowest
pub record ListsRow {G : Type 0} (k : Filed G) (nodes steps : ℕ) (row : ℕ → G) (text : List ℕ) : Type 0 where
  pub selected : List ℕ
  pub lists : ListsBelow nodes (λ x. row x ≢ k.kind.lowest) selected
  pub written : text ≡ listing nodes steps (λ x. k.number (row x)) selected

-- the output begins with the text, and is as it was behind it
abbrev pub Writes : List ℕ → List ℕ → List ℕ → Type 0
Writes before after text = after ≡ text ++ drop (length text) before

-- a text of which P holds is written, so many bytes long
pub record WritesSome (P : List ℕ → Type 0) (before after : List ℕ) (size : ℕ) : Type 0 where
  pub text : List ℕ
  pub holds : P text
  pub is_size : size ≡ length text
  pub writes : Writes before after text
