-- For inner functions: the row's text gate by gate. Assumes nothing.
use Rattle.std.specs.Prelude.{ℕ, zero, suc, cond, List, [], ◌∷◌, ◌++◌, get_or}
use Rattle.circuit.specs.Gate.{kind_of, is_input}
use Rattle.map.specs.Map.{kind_byte}
use Rattle.line.specs.Text.{digit}

-- the digit of gate g's value, if it is an input; and those of the gates below n
unfoldable pub input_text : List ℕ → List ℕ → ℕ → List ℕ
input_text m ans g = cond (is_input (kind_of (kind_byte m g))) (digit (get_or ans g 0) ∷ []) []

unfoldable pub row_below : List ℕ → List ℕ → ℕ → List ℕ
row_below m ans zero = []
row_below m ans (suc g) = row_below m ans g ++ input_text m ans g
