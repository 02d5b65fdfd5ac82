-- Document 01, 'States, assignments, marking'. Assumes nothing.
use Rattle.std.specs.Prelude.{ℕ, zero, suc, ◌≤◌, ◌<◌, ◌≡◌, ◌↔◌, Bool, true, false, cond, not, List, [], ◌∷◌, ◌++◌, map, length, get_or, eqb}
use Rattle.std.proofs.Math.Option.{Option, none, some}
use Rattle.folds.specs.Folds.{◌and◌, all_below}
use Rattle.circuit.specs.Tools.{byte, same, up_to, select}
use Rattle.circuit.specs.Gate.{is_input}
use Rattle.circuit.specs.Circuit.{Circuit, gates_in, WellFormed, Configuration, on, given, justified}

-- ---- Evaluate

-- the inputs, by gate number, and how many stand before gate g: an input's place in a row
abbrev pub inputs : Circuit → List ℕ
inputs c = gates_in c (λ g. is_input (c.kind g))

unfoldable pub inputs_before : Circuit → ℕ → ℕ
inputs_before c g = length (select (λ x. is_input (c.kind x)) (up_to g))

-- "A row is one byte 0 or 1 for each input, by gate number."
pub record Row (c : Circuit) (row : List ℕ) : Type 0 where
  pub long : length row ≡ length (inputs c)
  pub bits : (i : ℕ) → get_or row i 0 ≤ 1

-- the input values of a configuration, in gate order
unfoldable pub row_of : Circuit → List ℕ → List ℕ
row_of c s = map (λ g. get_or s g 0) (inputs c)

-- the values of the gates below n: an input's as `at` has it, any other gate's as its children give it
unfoldable pub values : Circuit → (ℕ → Bool) → ℕ → List ℕ
values c at zero = []
values c at (suc g) = values c at g ++ (byte (cond (is_input (c.kind g)) (at g) (given c (values c at g) g)) ∷ [])

-- "Evaluate takes a row and writes the value of every gate."
unfoldable pub evaluate : Circuit → List ℕ → List ℕ
evaluate c row = values c (λ g. on row (inputs_before c g)) c.gates

-- ---- Mark

-- does a gate with value v have its code, if it has one
abbrev pub shows_code : Option Bool → Bool → Bool
shows_code none v = true
shows_code (some w) v = same w v

-- "Mark takes a configuration and answers yes if and only if every gate that isn't an input has the value its children give and every coded gate
-- has its code."
unfoldable pub mark : Circuit → List ℕ → Bool
mark c s = all_below c.gates (λ g. justified c s g and shows_code (c.code g) (on s g))

-- every gate that isn't an input has the value its children give
abbrev pub Obeys : Circuit → List ℕ → Type 0
Obeys c s = (g : ℕ) → g < c.gates → is_input (c.kind g) ≡ false → given c s g ≡ on s g

-- every coded gate has its code
abbrev pub ShowsCodes : Circuit → List ℕ → Type 0
ShowsCodes c s = (g : ℕ) → g < c.gates → (v : Bool) → c.code g ≡ some v → on s g ≡ v

-- "Such a configuration is a satisfying assignment."
pub record Satisfying (c : Circuit) (s : List ℕ) : Type 0 where
  pub configuration : Configuration c s
  pub obeys : Obeys c s
  pub shows : ShowsCodes c s

-- "Some state satisfies a map if the map has a satisfying assignment."
abbrev pub Satisfiable : Circuit → Type 0
Satisfiable c = (a : List ℕ) × Satisfying c a

-- ---- starts

-- "A start is the configuration lent to Run; it keeps the codes if every coded gate has its code in it."
pub record KeepsCodes (c : Circuit) (s : List ℕ) : Type 0 where
  pub configuration : Configuration c s
  pub shows : ShowsCodes c s

-- "A start and an assignment differ at a gate if their bytes for it are unequal; every gate counts there, inputs and gates outside the cone too.":
-- at how many gates they differ
unfoldable pub differ : Circuit → List ℕ → List ℕ → ℕ
differ c s a = length (gates_in c (λ g. not (eqb (get_or s g 0) (get_or a g 0))))

-- ---- the statements

-- a configuration that obeys every gate and whose inputs have the row's values
pub record Evaluated (c : Circuit) (row s : List ℕ) : Type 0 where
  pub configuration : Configuration c s
  pub obeys : Obeys c s
  pub agrees : row_of c s ≡ row

-- Evaluate writes such a configuration, and there is no other.
abbrev pub EvaluateIs : Type 0
EvaluateIs =
    (c : Circuit) → WellFormed c → (row : List ℕ) → Row c row
    → Evaluated c row (evaluate c row) × ((s : List ℕ) → Evaluated c row s → s ≡ evaluate c row)

-- Mark says yes to the satisfying assignments.
abbrev pub MarkIs : Type 0
MarkIs = (c : Circuit) (s : List ℕ) → Configuration c s → (mark c s ≡ true) ↔ Satisfying c s
