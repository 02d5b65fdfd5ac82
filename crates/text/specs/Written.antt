-- For functions that write text piece by piece. Assumes nothing.
use Rattle.std.specs.Prelude.{ℕ, ◌≤◌, ◌≡◌, List, length}
use Rattle.circuit.specs.Tools.{over}

-- there is room for the text x in the memory w
abbrev pub Fits : List ℕ → List ℕ → Type 0
Fits x w = length x ≤ length w

-- x was written over the first bytes of the memory w, which is `after` then; n says how many they are
pub record Wrote (x w after : List ℕ) (n : ℕ) : Type 0 where
  pub memory : after ≡ over x w
  pub size : n ≡ length x
