-- For inner functions: the text of a map piece by piece, and how long the pieces are. Assumes nothing.
use Rattle.std.specs.Prelude.{ℕ, ◌+◌, ◌*◌, ◌≤◌, ◌≡◌, Bool, true, false, not, List, [], ◌∷◌, ◌++◌, map, length, eqb}
use Rattle.circuit.specs.Tools.{up_to}
use Rattle.circuit.specs.declared.Kind.{Kind}
use Rattle.circuit.specs.declared.Kind.TheVariants.{Input, Not, And, Or, Xor, Voter}
use Rattle.map.specs.Map.{fan_in, child_at, code_gate, code_value, kids_of, circuit}
use Rattle.map.specs.Check.{first_failed}
use Rattle.text.specs.Text.{blank, line_end, in_decimal}
use Rattle.dimacs.specs.declared.Literal.{Literal}
use Rattle.dimacs.specs.Cnf.{Clause}
use Rattle.dimacs.specs.Clauses.{variable, at_1, at_0, each, wide, gather, gate_clauses}
use Rattle.dimacs.specs.Dimacs.{word_zero, print_item, print_clause, print_clauses}
use Rattle.export.specs.declared.sizes.Shape.{Shape}
use Rattle.export.specs.Export.{ExportEffect, text_tests, export_by}

-- ---- the text

-- the literal of gate g at 0, negated, or at 1
abbrev pub literal : Bool → ℕ → Literal
literal true g = at_0 g
literal false g = at_1 g

-- literals with their blanks, and what ends a clause behind them
abbrev pub items : Clause → List ℕ
items [] = []
items (l ∷ ls) = print_item l ++ items ls

abbrev pub clause_end : List ℕ
clause_end = word_zero ++ line_end

-- the first n children of gate g
abbrev pub kids_up_to : List ℕ → ℕ → ℕ → List ℕ
kids_up_to m g n = map (λ j. child_at m g j) (up_to n)

-- Clauses of gate g in which its own literal is negated or not, and those of its children are the other way round: one of two literals for each of its first n children; the literals of these children; the
-- clause of all; and one for each pair of three children
unfoldable pub each_text : List ℕ → ℕ → Bool → ℕ → List ℕ
each_text m g negated n = print_clauses (each (literal negated g) (literal (not negated)) (kids_up_to m g n))

unfoldable pub kids_text : List ℕ → ℕ → Bool → ℕ → List ℕ
kids_text m g negated n = items (map (literal (not negated)) (kids_up_to m g n))

unfoldable pub wide_text : List ℕ → ℕ → Bool → List ℕ
wide_text m g negated = print_clause (wide (literal negated g) (literal (not negated)) (kids_of m g))

abbrev pub pair_text : List ℕ → ℕ → Bool → ℕ → ℕ → List ℕ
pair_text m g negated i j = print_clause (literal negated g ∷ literal (not negated) (child_at m g i) ∷ literal (not negated) (child_at m g j) ∷ [])

abbrev pub pairs_text : List ℕ → ℕ → Bool → List ℕ
pairs_text m g negated = (pair_text m g negated 0 1 ++ pair_text m g negated 0 2) ++ pair_text m g negated 1 2

-- the clauses of a gate of each kind but the input, one behind the other. That they are its text is `not_is` to `voter_is` of proofs/Texts.antt.
abbrev pub not_text : List ℕ → ℕ → List ℕ
not_text m g = print_clause (at_0 g ∷ at_0 (child_at m g 0) ∷ []) ++ print_clause (at_1 g ∷ at_1 (child_at m g 0) ∷ [])

abbrev pub and_text : List ℕ → ℕ → List ℕ
and_text m g = each_text m g true (fan_in m g) ++ wide_text m g false

abbrev pub or_text : List ℕ → ℕ → List ℕ
or_text m g = wide_text m g true ++ each_text m g false (fan_in m g)

abbrev pub parity_text : List ℕ → ℕ → Bool → List ℕ
parity_text m g negated =
    print_clause (literal negated g ∷ at_1 (child_at m g 0) ∷ literal (not negated) (child_at m g 1) ∷ [])
    ++ print_clause (literal negated g ∷ at_0 (child_at m g 0) ∷ literal negated (child_at m g 1) ∷ [])

abbrev pub xor_text : List ℕ → ℕ → List ℕ
xor_text m g = parity_text m g true ++ parity_text m g false

abbrev pub voter_text : List ℕ → ℕ → List ℕ
voter_text m g = pairs_text m g true ++ pairs_text m g false

-- the clauses of gate g, and of the first n gates
unfoldable pub gate_text : List ℕ → ℕ → List ℕ
gate_text m g = print_clauses (gate_clauses (circuit m) g)

unfoldable pub gates_text : List ℕ → ℕ → List ℕ
gates_text m n = print_clauses (gather (gate_clauses (circuit m)) n)

-- the unit clause of code r, and of the first n codes
abbrev pub unit_text : List ℕ → ℕ → List ℕ
unit_text m r = print_clause (literal (not (eqb (code_value m r) 1)) (code_gate m r) ∷ [])

unfoldable pub units_text : List ℕ → ℕ → List ℕ
units_text m n = gather (unit_text m) n

-- the head behind its words: its numbers
abbrev pub head_rest : ℕ → ℕ → List ℕ
head_rest v n = ((in_decimal v ++ blank) ++ in_decimal n) ++ line_end

-- ---- how long it is

-- a variable's number in decimal, and a blank
abbrev pub item_size : ℕ → ℕ
item_size g = length (in_decimal (variable g)) + 1

unfoldable pub kids_size : List ℕ → ℕ
kids_size [] = 0
kids_size (x ∷ xs) = item_size x + kids_size xs

-- how many clauses a gate of kind k with n children has, how often they name each child, and how many of their literals are negated: that its text is so long is `size_by` of
-- proofs/Lengths.antt
abbrev pub shape_of : Kind → ℕ → Shape
shape_of Input n = record { clauses = 0; times = 0; negated = 0 }
shape_of Not n = record { clauses = 2; times = 2; negated = 2 }
shape_of And n = record { clauses = n + 1; times = 2; negated = 2 * n }
shape_of Or n = record { clauses = n + 1; times = 2; negated = n + 1 }
shape_of Xor n = record { clauses = 4; times = 4; negated = 6 }
shape_of Voter n = record { clauses = 6; times = 4; negated = 9 }

-- the clauses of gate g are so many, and their text is so long
pub record GateMeasured (m : List ℕ) (g clauses bytes : ℕ) : Type 0 where
  pub count : clauses ≡ length (gate_clauses (circuit m) g)
  pub size : bytes ≡ length (gate_text m g)
  pub few : clauses ≤ 9
  pub short : bytes ≤ 500

-- the clauses of the first n gates are so many, and their text is so long
pub record Measured (m : List ℕ) (n clauses bytes : ℕ) : Type 0 where
  pub count : clauses ≡ length (gather (gate_clauses (circuit m)) n)
  pub size : bytes ≡ length (gates_text m n)
  pub few : clauses ≤ 9 * n
  pub short : bytes ≤ 500 * n

-- ---- the call

-- Export behind the map's tests
unfoldable pub export_on_map : List ℕ → List ℕ → ExportEffect
export_on_map m out = export_by (first_failed (text_tests m out)) m out
