-- How long a line is, and that memory of `line_room` bytes holds it. Assumes nothing.
use Prim.Native.Nat.{ℕ, ◌≤◌}
use mathlib.Core.Path.{◌≡◌}
use mathlib.Core.Bool.{true}
use mathlib.Core.Logic.{inl, inr}
use mathlib.Core.List.{List}
use native.Mathlib.Omega.{arith}
use lib.ListN.{length, length-append, length-map}
use Rattle.folds.proofs.Tests.{which}
use Rattle.circuit.specs.Tools.{up_to}
use Rattle.circuit.specs.Gate.{kind_of, is_input}
use Rattle.circuit.specs.Evaluate.{row_of}
use Rattle.circuit.specs.Run.{EndingValues}
use Rattle.circuit.proofs.Lists.{select_length, length_up_to}
use Rattle.map.specs.Map.{gate_count, kind_byte}
use Rattle.map.specs.Inner.{Shaped, IsMap}
use Rattle.search.specs.Run.{RunEffect, ending_values, run_effect}
use Rattle.text.specs.Written.{Fits, Wrote}
use Rattle.text.proofs.Decimal.{decimal_length}
use Rattle.line.specs.Line.{map_part, configuration_part, tape_part, input_test, lent, row_text, refused_line, report, line_of, line_room, LineFits}
use Rattle.line.proofs.Lines.{found_shaped, line_refused, line_runs}

row_length : (m ans : List ℕ) → length (row_text m ans) ≤ gate_count m
unfolding row_of
row_length m ans = simp length-map (omega (arith, select_length (λ g. is_input (kind_of (kind_byte m g))) (up_to (gate_count m)), length_up_to (gate_count m)))

refused_length : (number : ℕ) → length (refused_line number) ≤ line_room
refused_length number = simp length-append (omega (arith, decimal_length 10 number))

report_length : (e : EndingValues) (moves flips : ℕ) (m ans : List ℕ) → (e.found ≡ true → Shaped m) → length (report e moves flips m ans) ≤ line_room
report_length e moves flips m ans s = elim (which e.accepted) [
  | inl q ↦ elim (which e.found) [
    | inl f ↦ rw (q, f) (simp length-append (omega (arith, decimal_length 10 moves, decimal_length 10 flips, row_length m ans, (s f).few)))
    | inr f ↦ elim (which e.stuck) [
      | inl z ↦ rw (q, f, z) (simp length-append (omega (arith, decimal_length 10 moves, decimal_length 10 flips)))
      | inr z ↦ rw (q, f, z) (simp length-append (omega (arith, decimal_length 10 moves, decimal_length 10 flips, decimal_length 10 e.front)))
    ]
  ]
  | inr q ↦ rw q (refused_length e.number)
]

-- the run on an input's parts
abbrev ran : List ℕ → RunEffect
ran x = run_effect (map_part x) (configuration_part x) (tape_part x) lent lent

pub line_fits : LineFits
line_fits x = elim (which (input_test x)) [
  | inl q ↦ rw (← line_runs x q) (report_length (ending_values (ran x)) _ _ _ _ (found_shaped (map_part x) (configuration_part x) (tape_part x) lent lent))
  | inr q ↦ rw (← line_refused x q) (refused_length 0)
]

pub line_inside : (x out after : List ℕ) (n : ℕ) → line_room ≤ length out → Wrote (line_of x) out after n → n ≤ length out
line_inside x out after n h w = omega (arith, h, w.size, line_fits x)

-- so there is room in so much memory, whatever the line says
pub report_fits : (e : EndingValues) (moves flips : ℕ) (m ans out : List ℕ) → IsMap m → line_room ≤ length out → Fits (report e moves flips m ans) out
report_fits e moves flips m ans out i h = omega (arith, h, report_length e moves flips m ans (λ f. i.sound.placed.shaped))

pub refused_fits : (number : ℕ) (out : List ℕ) → line_room ≤ length out → Fits (refused_line number) out
refused_fits number out h = omega (arith, h, refused_length number)
