-- For inner functions: what they are given of a map. Assumes nothing.
use Rattle.std.specs.Prelude.{ℕ, ◌+◌, ◌<◌, ◌≤◌, ◌≡◌, true, List, length, get_or}
use Rattle.circuit.specs.Tools.{byte}
use Rattle.circuit.specs.declared.Kind.{Kind}
use Rattle.circuit.specs.Gate.{kind_of}
use Rattle.circuit.specs.Circuit.{is_some}
use Rattle.map.specs.Map.{most_gates, gate_count, child_count, code_count, length_given, kind_byte, fan_in, first_child, child_at, code_gate, code_value, code_among}
use Rattle.map.specs.Check.{kind_test}

-- these are the counts of the table of contents
pub record ContentsOf (m : List ℕ) (gates children codes : ℕ) : Type 0 where
  pub gates_is : gates ≡ gate_count m
  pub children_is : children ≡ child_count m
  pub codes_is : codes ≡ code_count m
  pub words : (gates < 65536) × ((children < 65536) × (codes < 65536))

-- what is used of tests 1 to 3
pub record Shaped (m : List ℕ) : Type 0 where
  pub few : gate_count m ≤ most_gates
  pub long : length m ≡ length_given m

-- what is used of test 5: no gate's children go past the last child
abbrev pub PlacesChildren : List ℕ → Type 0
PlacesChildren m = (g : ℕ) → g < gate_count m → first_child m g + fan_in m g ≤ child_count m

-- of tests 1 to 3 and 5
pub record Placed (m : List ℕ) : Type 0 where
  pub shaped : Shaped m
  pub within : PlacesChildren m

-- and of 6 and 7
pub record Sound (m : List ℕ) : Type 0 where
  pub placed : Placed m
  pub below : (g j : ℕ) → g < gate_count m → j < fan_in m g → child_at m g j < g
  pub coded_gate : (r : ℕ) → r < code_count m → code_gate m r < gate_count m

-- and of 2, 4 and more of 6 and 7: the facts of an accepted map that inner functions go by (`Described` has all)
pub record IsMap (m : List ℕ) : Type 0 where
  pub sound : Sound m
  pub some_gate : 1 ≤ gate_count m
  pub kinds : (g : ℕ) → g < gate_count m → kind_test m g ≡ true
  pub children_ascend : (g j : ℕ) → g < gate_count m → j + 1 < fan_in m g → child_at m g j < child_at m g (j + 1)
  pub codes_ascend : (r : ℕ) → r + 1 < code_count m → code_gate m r < code_gate m (r + 1)
  pub code_values : (r : ℕ) → r < code_count m → code_value m r ≤ 1

-- number, kind and first child position of a gate, as its record gives them
pub record GateOf (m : List ℕ) (g : ℕ) (kind : Kind) (first : ℕ) : Type 0 where
  pub known : g < gate_count m
  pub kind_is : kind ≡ kind_of (kind_byte m g)
  pub first_is : first ≡ first_child m g

-- x is child j of gate g, and it is below g
pub record KidOf (m : List ℕ) (g j x : ℕ) : Type 0 where
  pub is : x ≡ child_at m g j
  pub below : x < g

-- marks has 1 at each gate that one of the first n codes fixes, and 0 elsewhere
abbrev pub CodeMarks : List ℕ → ℕ → List ℕ → Type 0
CodeMarks m n marks = (g : ℕ) → get_or marks g 0 ≡ byte (is_some (code_among m n g))
