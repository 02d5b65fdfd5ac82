-- DIMACS CNF as bytes: clauses printed, and a text read. It knows nothing of maps. Assumes nothing.
use Rattle.std.specs.Prelude.{ℕ, ◌≤◌, ◌<◌, ◌≡◌, Bool, true, false, cond, length, eqb, leb}
use Rattle.std.proofs.Math.Option.{Option, none, some}
use mathlib.Core.List.{List, [], ◌∷◌, ◌++◌, Memᴰ as In}
use Rattle.folds.specs.Folds.{◌and◌}
use Rattle.circuit.specs.Tools.{holds_of_all}
use Rattle.text.specs.Text.{blank, line_end, in_decimal, read_decimal}
use Rattle.dimacs.specs.declared.Literal.{Literal}
use Rattle.dimacs.specs.declared.Literal.TheVariants.{Plain, Negated}
use Rattle.dimacs.specs.Cnf.{variable_of, Clause}

-- ---- printed

-- "p", "cnf" and "0"
abbrev pub word_p : List ℕ
word_p = 112 ∷ []

abbrev pub word_cnf : List ℕ
word_cnf = 99 ∷ 110 ∷ 102 ∷ []

abbrev pub word_zero : List ℕ
word_zero = 48 ∷ []

-- a literal: its variable's number, behind a minus sign where it is negated
abbrev pub print_literal : Literal → List ℕ
print_literal (Plain v) = in_decimal v
print_literal (Negated v) = 45 ∷ in_decimal v

-- "Items stand one blank apart": something of the same line stands behind each literal
abbrev pub print_item : Literal → List ℕ
print_item l = print_literal l ++ blank

-- "each clause is one line with 0 last, a line feed ends each line"
abbrev pub print_clause : Clause → List ℕ
print_clause [] = word_zero ++ line_end
print_clause (l ∷ ls) = print_item l ++ print_clause ls

unfoldable pub print_clauses : List Clause → List ℕ
print_clauses [] = []
print_clauses (c ∷ cs) = print_clause c ++ print_clauses cs

-- "the `p cnf` line": the number of variables, and that of clauses
abbrev pub print_head : ℕ → ℕ → List ℕ
print_head v n = word_p ++ (blank ++ (word_cnf ++ (blank ++ (in_decimal v ++ (blank ++ (in_decimal n ++ line_end))))))

-- "with the `p cnf` line before them", "and no other line is written"
unfoldable pub print : ℕ → List Clause → List ℕ
print v cs = print_head v (length cs) ++ print_clauses cs

-- ---- read

-- the pieces of a text between the bytes b
abbrev pub onto : ℕ → List (List ℕ) → List (List ℕ)
onto x [] = (x ∷ []) ∷ []
onto x (w ∷ ws) = (x ∷ w) ∷ ws

unfoldable pub split : ℕ → List ℕ → List (List ℕ)
split b [] = [] ∷ []
split b (x ∷ xs) = cond (eqb x b) ([] ∷ split b xs) (onto x (split b xs))

-- a number: some digits, nothing else
abbrev pub is_decimal_digit : ℕ → Bool
is_decimal_digit b = leb 48 b and leb b 57

unfoldable pub read_number : List ℕ → Option ℕ
read_number [] = none
read_number (b ∷ bs) = cond (holds_of_all is_decimal_digit (b ∷ bs)) (some (read_decimal (b ∷ bs))) none

-- a literal: a number, behind a minus sign where it is negated
abbrev pub as_plain : Option ℕ → Option Literal
as_plain none = none
as_plain (some v) = some (Plain v)

abbrev pub as_negated : Option ℕ → Option Literal
as_negated none = none
as_negated (some v) = some (Negated v)

unfoldable pub read_literal : List ℕ → Option Literal
read_literal [] = none
read_literal (b ∷ bs) = cond (eqb b 45) (as_negated (read_number bs)) (as_plain (read_number (b ∷ bs)))

module _ {A : Type 0} where
  -- both, one before the other, or none
  abbrev pub before : Option A → Option (List A) → Option (List A)
  before none r = none
  before (some x) none = none
  before (some x) (some xs) = some (x ∷ xs)

abbrev pub same_word : List ℕ → List ℕ → Bool
same_word [] [] = true
same_word [] (c ∷ cs) = false
same_word (b ∷ bs) [] = false
same_word (b ∷ bs) (c ∷ cs) = eqb b c and same_word bs cs

-- a clause: literals, and 0 last
abbrev pub ended : List (List ℕ) → Option Clause
ended [] = some []
ended (w ∷ ws) = none

unfoldable pub read_clause : List (List ℕ) → Option Clause
read_clause [] = none
read_clause (w ∷ ws) = cond (same_word w word_zero) (ended ws) (before (read_literal w) (read_clause ws))

-- clauses: a line each, and nothing behind the last line end
abbrev pub no_more : List ℕ → Option (List Clause)
no_more [] = some []
no_more (b ∷ bs) = none

unfoldable pub read_lines : List (List ℕ) → Option (List Clause)
read_lines [] = none
read_lines (l ∷ []) = no_more l
read_lines (l ∷ m ∷ ls) = before (read_clause (split 32 l)) (read_lines (m ∷ ls))

-- What a text says: how many variables and clauses by its first line, and its clauses
pub record Cnf : Type 0 where
  pub variables : ℕ
  pub count : ℕ
  pub clauses : List Clause

abbrev pub cnf_of : Option ℕ → Option ℕ → Option (List Clause) → Option Cnf
cnf_of none n cs = none
cnf_of (some v) none cs = none
cnf_of (some v) (some n) none = none
cnf_of (some v) (some n) (some cs) = some (record { variables = v; count = n; clauses = cs })

unfoldable pub read_head : List (List ℕ) → Option (List Clause) → Option Cnf
read_head [] cs = none
read_head (a ∷ []) cs = none
read_head (a ∷ b ∷ []) cs = none
read_head (a ∷ b ∷ c ∷ []) cs = none
read_head (p ∷ cnf ∷ v ∷ n ∷ []) cs = cond (same_word p word_p and same_word cnf word_cnf) (cnf_of (read_number v) (read_number n) cs) none
read_head (a ∷ b ∷ c ∷ d ∷ e ∷ ws) cs = none

unfoldable pub read_text : List (List ℕ) → Option Cnf
read_text [] = none
read_text (l ∷ ls) = read_head (split 32 l) (read_lines ls)

unfoldable pub read : List ℕ → Option Cnf
read text = read_text (split 10 text)

-- ---- what is printed reads back

-- numbers that `decimal` can print
abbrev pub Printable : ℕ → Type 0
Printable n = n < 10000000000

-- a variable's number is not 0, which ends a clause
abbrev pub PrintableClauses : List Clause → Type 0
PrintableClauses cs = (c : Clause) → In c cs → (l : Literal) → In l c → (1 ≤ variable_of l) × Printable (variable_of l)

abbrev pub ReadsBack : Type 0
ReadsBack =
    (v : ℕ) (cs : List Clause) → Printable v → Printable (length cs) → PrintableClauses cs
    → read (print v cs) ≡ some (record { variables = v; count = length cs; clauses = cs })
