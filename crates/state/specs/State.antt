-- Document 01's Evaluate and Mark, on bytes. Assumes nothing.
use Rattle.std.specs.Prelude.{ℕ, ◌≤◌, ◌≡◌, ◌↔◌, Bool, true, false, cond, List, [], ◌∷◌, ◌++◌, length, get_or, take, drop, eqb, leb, Result, Ok, Err}
use Rattle.folds.specs.Folds.{all_below}
use Rattle.circuit.specs.Tools.{over}
use Rattle.circuit.specs.Circuit.{Configuration}
use Rattle.circuit.specs.Evaluate.{Row, evaluate, mark, Evaluated, Satisfying}
use Rattle.map.specs.Map.{gate_count, circuit, input_count}
use Rattle.map.specs.Check.{first_failed, map_tests, verdict, Test, MapNumber}
use Rattle.circuit.specs.declared.Refusal.{Refusal}
use Rattle.circuit.specs.Refusal.{number_of}

-- ---- the tests

-- every byte is 0 or 1
abbrev pub Bits : List ℕ → Type 0
Bits s = (i : ℕ) → get_or s i 0 ≤ 1

-- "10. It has a byte above 1.": true where it has none
unfoldable pub bits_test : List ℕ → Bool
bits_test s = all_below (length s) (λ i. leb (get_or s i 0) 1)

-- Evaluate's tests behind the map's: "9. The row or configuration has the wrong length.", 10, "14. Output .. memory is shorter than the gate count."
unfoldable pub row_tests : List ℕ → List ℕ → List ℕ → List (ℕ × Bool)
row_tests m row out =
    (9, eqb (length row) (input_count m))
    ∷ (10, bits_test row)
    ∷ (14, leb (gate_count m) (length out))
    ∷ []

-- Mark's tests behind the map's: 9 and 10
unfoldable pub configuration_tests : List ℕ → List ℕ → List (ℕ × Bool)
configuration_tests m s = (9, eqb (length s) (gate_count m)) ∷ (10, bits_test s) ∷ []

-- ---- Evaluate

-- What Evaluate does: whether the call is accepted and else its number, and the output memory after the call
pub record EvaluateEffect : Type 0 where
  pub accepted : Bool
  pub number : ℕ
  pub out : List ℕ

-- document 01's number of each case of the answer that is returned, beside the memory
unfoldable pub evaluate_answer : Result (Unit {0}) Refusal → List ℕ → EvaluateEffect
evaluate_answer (Ok x) w = record { accepted = true; number = 0; out = w }
evaluate_answer (Err r) w = record { accepted = false; number = number_of r; out = w }

-- what a call with this number leaves: "Evaluate takes a row and writes the value of every gate."; refused, it "leaves all lent memory untouched"
unfoldable pub evaluate_by : ℕ → List ℕ → List ℕ → List ℕ → EvaluateEffect
evaluate_by n m row out =
    cond (eqb n 0)
    (record { accepted = true; number = 0; out = over (evaluate (circuit m) row) out })
    (record { accepted = false; number = n; out = out })

unfoldable pub evaluate_effect : List ℕ → List ℕ → List ℕ → EvaluateEffect
evaluate_effect m row out = evaluate_by (first_failed (map_tests m ++ row_tests m row out)) m row out

-- ---- Mark

-- What Mark does: whether the call is accepted, else its number, and whether it says yes
pub record MarkEffect : Type 0 where
  pub accepted : Bool
  pub number : ℕ
  pub yes : Bool

-- document 01's number and value of each case of the answer that is returned
unfoldable pub mark_answer : Result Bool Refusal → MarkEffect
mark_answer (Ok v) = record { accepted = true; number = 0; yes = v }
mark_answer (Err r) = record { accepted = false; number = number_of r; yes = false }

unfoldable pub mark_by : ℕ → List ℕ → List ℕ → MarkEffect
mark_by n m s =
    cond (eqb n 0)
    (record { accepted = true; number = 0; yes = mark (circuit m) s })
    (record { accepted = false; number = n; yes = false })

unfoldable pub mark_effect : List ℕ → List ℕ → MarkEffect
mark_effect m s = mark_by (first_failed (map_tests m ++ configuration_tests m s)) m s

-- ---- what they mean

-- The first bytes of the output memory, one per gate, are the one configuration that obeys every gate and has the row's values; the surplus stands.
pub record EvaluateMeans (m row out : List ℕ) (r : EvaluateEffect) : Type 0 where
  pub number : r.number ≡ 0
  pub values : Evaluated (circuit m) row (take (gate_count m) r.out)
  pub only : (s : List ℕ) → Evaluated (circuit m) row s → s ≡ take (gate_count m) r.out
  pub surplus : drop (gate_count m) r.out ≡ drop (gate_count m) out
  pub long : length r.out ≡ length out

abbrev pub EvaluateDoes : Type 0
EvaluateDoes = (m row out : List ℕ) → (evaluate_effect m row out).accepted ≡ true → EvaluateMeans m row out (evaluate_effect m row out)

-- "Such a configuration is a satisfying assignment.": one to which Mark says yes
abbrev pub Satisfies : List ℕ → List ℕ → Type 0
Satisfies m a = (mark_effect m a).yes ≡ true

-- Mark says yes exactly to the satisfying assignments of accepted maps.
abbrev pub MarkDoes : Type 0
MarkDoes = (m s : List ℕ) → Satisfies m s ↔ ((verdict m ≡ 0) × Satisfying (circuit m) s)

-- ---- which calls are accepted

-- number 14 lets this memory through
abbrev pub HasRoom : List ℕ → List ℕ → Type 0
HasRoom m out = gate_count m ≤ length out

-- Evaluate is accepted exactly for accepted maps, rows, and memory that is long enough; Mark for accepted maps and configurations.
abbrev pub EvaluateAccepts : Type 0
EvaluateAccepts =
    (m row out : List ℕ) → ((evaluate_effect m row out).accepted ≡ true) ↔ ((verdict m ≡ 0) × (Row (circuit m) row × HasRoom m out))

abbrev pub MarkAccepts : Type 0
MarkAccepts = (m s : List ℕ) → ((mark_effect m s).accepted ≡ true) ↔ ((verdict m ≡ 0) × Configuration (circuit m) s)

-- Their numbers: 9, 10 and 14 behind the map's, and 9 and 10
abbrev pub RowNumber : ℕ → List ℕ → List ℕ → List ℕ → Type 0
RowNumber n m row out =
    Test n 9 (length row ≡ input_count m) (
    Test n 10 (Bits row) (
    Test n 14 (HasRoom m out) (n ≡ 0)))

abbrev pub EvaluateNumber : Type 0
EvaluateNumber = (m row out : List ℕ) → MapNumber (evaluate_effect m row out).number m (RowNumber (evaluate_effect m row out).number m row out)

abbrev pub ConfigurationNumber : ℕ → List ℕ → List ℕ → Type 0 → Type 0
ConfigurationNumber n m s Rest =
    Test n 9 (length s ≡ gate_count m) (
    Test n 10 (Bits s) Rest)

abbrev pub MarkNumber : Type 0
MarkNumber = (m s : List ℕ) → MapNumber (mark_effect m s).number m (ConfigurationNumber (mark_effect m s).number m s ((mark_effect m s).number ≡ 0))

-- Refused, they give a number, Evaluate "leaves all lent memory untouched", and Mark doesn't say yes.
pub record EvaluateRefused (out : List ℕ) (r : EvaluateEffect) : Type 0 where
  pub numbered : ¬ (r.number ≡ 0)
  pub untouched : r.out ≡ out

abbrev pub EvaluateRefuses : Type 0
EvaluateRefuses = (m row out : List ℕ) → (evaluate_effect m row out).accepted ≡ false → EvaluateRefused out (evaluate_effect m row out)

pub record MarkRefused (r : MarkEffect) : Type 0 where
  pub numbered : ¬ (r.number ≡ 0)
  pub not_yes : r.yes ≡ false

abbrev pub MarkRefuses : Type 0
MarkRefuses = (m s : List ℕ) → (mark_effect m s).accepted ≡ false → MarkRefused (mark_effect m s)
