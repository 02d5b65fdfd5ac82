-- Document 01, 'The map': its bytes, and the circuit that they hold. Assumes nothing.
use Rattle.std.specs.Prelude.{ℕ, zero, suc, ◌+◌, ◌*◌, Bool, cond, List, map, get_or, eqb}
use Rattle.std.proofs.Math.Option.{Option, none, some}
use Rattle.circuit.specs.Tools.{up_to}
use Rattle.circuit.specs.Gate.{kind_of}
use Rattle.circuit.specs.Circuit.{Circuit}
use Rattle.circuit.specs.Evaluate.{inputs_before}

-- "A map has 1 to 1,024 gates"
abbrev pub most_gates : ℕ
most_gates = 1024

-- "All numbers are unsigned, little-endian ..; u16 is two bytes.": the u16 at a place
unfoldable pub u16_at : List ℕ → ℕ → ℕ
u16_at m at = get_or m at 0 + 256 * get_or m (at + 1) 0

-- "The contents are six u16: offset and count of gates, offset and count of children, offset and count of codes."
abbrev pub gate_count : List ℕ → ℕ
gate_count m = u16_at m 2

abbrev pub child_count : List ℕ → ℕ
child_count m = u16_at m 6

abbrev pub code_count : List ℕ → ℕ
code_count m = u16_at m 10

-- "Bodies follow in that order without gaps, so the offsets are 12, 12 + 4 × gates, and that plus 2 × children; the length is the last offset plus
-- 4 × codes.": as whole numbers, never modulo 65,536
abbrev pub children_place : List ℕ → ℕ
children_place m = 12 + 4 * gate_count m

abbrev pub codes_place : List ℕ → ℕ
codes_place m = children_place m + 2 * child_count m

abbrev pub length_given : List ℕ → ℕ
length_given m = codes_place m + 4 * code_count m

-- "Gate record, 4 bytes: kind, fan-in, first child position (u16)."
abbrev pub kind_byte : List ℕ → ℕ → ℕ
kind_byte m g = get_or m (12 + 4 * g) 0

abbrev pub fan_in : List ℕ → ℕ → ℕ
fan_in m g = get_or m (13 + 4 * g) 0

abbrev pub first_child : List ℕ → ℕ → ℕ
first_child m g = u16_at m (14 + 4 * g)

-- "the sum of all earlier fan-ins"
unfoldable pub fan_ins_before : List ℕ → ℕ → ℕ
fan_ins_before m zero = 0
fan_ins_before m (suc g) = fan_ins_before m g + fan_in m g

-- "Child: u16, the number of a gate, counted from 0.": gate g's child number j
abbrev pub child_at : List ℕ → ℕ → ℕ → ℕ
child_at m g j = u16_at m (children_place m + 2 * (first_child m g + j))

-- "Code record, 4 bytes: gate (u16), value 0 or 1, and a zero byte.": code number r
abbrev pub code_place : List ℕ → ℕ → ℕ
code_place m r = codes_place m + 4 * r

abbrev pub code_gate : List ℕ → ℕ → ℕ
code_gate m r = u16_at m (code_place m r)

abbrev pub code_value : List ℕ → ℕ → ℕ
code_value m r = get_or m (code_place m r + 2) 0

abbrev pub code_zero : List ℕ → ℕ → ℕ
code_zero m r = get_or m (code_place m r + 3) 0

-- ---- the circuit

-- the value that the code of gate g fixes, among the first n codes
unfoldable pub code_among : List ℕ → ℕ → ℕ → Option Bool
code_among m zero g = none
code_among m (suc r) g = cond (eqb (code_gate m r) g) (some (eqb (code_value m r) 1)) (code_among m r g)

unfoldable pub kids_of : List ℕ → ℕ → List ℕ
kids_of m g = map (λ j. child_at m g j) (up_to (fan_in m g))

abbrev pub circuit : List ℕ → Circuit
circuit m = record { gates = gate_count m; kind = λ g. kind_of (kind_byte m g); kids = kids_of m; code = code_among m (code_count m) }

-- how many inputs it has
abbrev pub input_count : List ℕ → ℕ
input_count m = inputs_before (circuit m) (gate_count m)
