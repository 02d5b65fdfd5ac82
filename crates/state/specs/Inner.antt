-- For inner functions: Evaluate and Mark behind the map's tests. Assumes nothing.
use Rattle.std.specs.Prelude.{ℕ, ◌<◌, ◌≡◌, Bool, true, List, length, get_or, eqb, Result, IfOk}
use Rattle.std.specs.Borrow.{Bor}
use Rattle.circuit.specs.declared.Refusal.{Refusal}
use Rattle.state.specs.declared.gates.Values.{Values}
use Rattle.folds.specs.Folds.{all_below}
use Rattle.circuit.specs.Gate.{kind_of, is_input}
use Rattle.circuit.specs.Evaluate.{inputs_before, values}
use Rattle.map.specs.Map.{gate_count, kind_byte, circuit, code_count, code_gate, code_value, input_count}
use Rattle.map.specs.declared.accepted.Map.{Map}
use Rattle.map.specs.Check.{first_failed}
use Rattle.state.specs.State.{Bits, row_tests, configuration_tests, EvaluateEffect, evaluate_by, MarkEffect, mark_by}

-- a row of the map that tests 9 and 10 let through
pub record RowTested (m row : List ℕ) : Type 0 where
  pub long : length row ≡ input_count m
  pub bits : Bits row

-- An input's value is asked for by its gate number and its place, which is how many inputs stand before it: this may be done for each.
abbrev pub AsksInputs : (ℕ → ℕ → Type 0) → List ℕ → Type 0
AsksInputs pre m = (g : ℕ) → g < gate_count m → is_input (kind_of (kind_byte m g)) ≡ true → pre g (inputs_before (circuit m) g)

-- w is every gate's value, where each input's is one that was given for it
pub record ValuesBy (post : ℕ → ℕ → Bool → Type 0) (m w : List ℕ) : Type 0 where
  pub at : ℕ → Bool
  pub given : (g : ℕ) → g < gate_count m → is_input (kind_of (kind_byte m g)) ≡ true → post g (inputs_before (circuit m) g) (at g)
  pub are : w ≡ values (circuit m) at (gate_count m)

-- what tests 9 and 10 of a configuration give: where they pass, these bytes as one of the map
abbrev pub IsConfigurationOf : Map → Bor (List ℕ) → Result Values Refusal → Type 0
IsConfigurationOf m b r = IfOk r (λ s. (s.map ≡ m) × (s.bytes ≡ b))

-- Evaluate and Mark behind the map's tests
unfoldable pub evaluate_on_map : List ℕ → List ℕ → List ℕ → EvaluateEffect
evaluate_on_map m row out = evaluate_by (first_failed (row_tests m row out)) m row out

unfoldable pub mark_on_map : List ℕ → List ℕ → MarkEffect
mark_on_map m s = mark_by (first_failed (configuration_tests m s)) m s

-- every coded gate has its code, record by record
unfoldable pub shown_by_record : List ℕ → List ℕ → Bool
shown_by_record m s = all_below (code_count m) (λ r. eqb (get_or s (code_gate m r) 0) (code_value m r))
