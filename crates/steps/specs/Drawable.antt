-- For inner functions: a gate that an entry may draw. Assumes nothing.
use Rattle.std.specs.Prelude.{ℕ, ◌<◌, ◌≡◌, false, List}
use Rattle.circuit.specs.Circuit.{justified}
use Rattle.map.specs.Map.{circuit}

-- an unjustified gate: what functions need of the one that an entry draws
pub record Drawable (m : List ℕ) (gates : ℕ) (s : List ℕ) (g : ℕ) : Type 0 where
  pub below : g < gates
  pub unjustified : justified (circuit m) s g ≡ false
