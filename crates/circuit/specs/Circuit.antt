-- A map without its bytes, and the values of its gates in a configuration. Assumes nothing.
use Rattle.std.specs.Prelude.{ℕ, ◌≤◌, ◌<◌, ◌≡◌, Bool, true, false, length, get_or, eqb}
use Rattle.std.proofs.Math.Option.{Option, none, some}
use mathlib.Core.List.{List, map, Memᴰ as In}
use Rattle.folds.specs.Folds.{◌or◌}
use Rattle.circuit.specs.Tools.{same, up_to, Rising, select}
use Rattle.circuit.specs.declared.Kind.{Kind}
use Rattle.circuit.specs.Gate.{is_input, fan_in_fits, gives}

-- How many gates there are; of each its kind, its children in their order, and the value that its code fixes, if it is coded.
pub record Circuit : Type 0 where
  pub gates : ℕ
  pub kind : ℕ → Kind
  pub kids : ℕ → List ℕ
  pub code : ℕ → Option Bool

abbrev pub is_some : Option Bool → Bool
is_some none = false
is_some (some v) = true

abbrev pub coded : Circuit → ℕ → Bool
coded c g = is_some (c.code g)

-- the gates of a set, by rising number
abbrev pub gates_in : Circuit → (ℕ → Bool) → List ℕ
gates_in c p = select p (up_to c.gates)

-- What Check demands of a map, as far as searching goes by it.
--     fits      "Fan-in: 0 for an input, 1 for NOT, 2 for XOR, 2 to 8 for AND and OR." F-3: "kind 5, with fan-in 3 only"
--     below     "It is below its parent's number"
--     rising    "a gate's children strictly ascend"
-- "a coded gate may now be a child" (F-1): of codes nothing is demanded.
pub record WellFormed (c : Circuit) : Type 0 where
  pub fits : (g : ℕ) → g < c.gates → fan_in_fits (c.kind g) (length (c.kids g)) ≡ true
  pub below : (g : ℕ) → g < c.gates → (x : ℕ) → In x (c.kids g) → x < g
  pub rising : (g : ℕ) → g < c.gates → Rising (c.kids g)

-- "Gate 0 of an accepted map is always an input."
abbrev pub GateZeroIsInput : Type 0
GateZeroIsInput = (c : Circuit) → WellFormed c → 1 ≤ c.gates → is_input (c.kind 0) ≡ true

-- ---- configurations

-- "A configuration is one byte 0 or 1 for each gate."
pub record Configuration (c : Circuit) (s : List ℕ) : Type 0 where
  pub long : length s ≡ c.gates
  pub bits : (g : ℕ) → get_or s g 0 ≤ 1

-- is the byte of gate g in the configuration s 1 (or of place g in a row)
abbrev pub on : List ℕ → ℕ → Bool
on s g = eqb (get_or s g 0) 1

-- the value that its children give gate g
abbrev pub given : Circuit → List ℕ → ℕ → Bool
given c s g = gives (c.kind g) (map (on s) (c.kids g))

-- "A gate is justified if it is an input or its children give its value."
unfoldable pub justified : Circuit → List ℕ → ℕ → Bool
justified c s g = is_input (c.kind g) or same (given c s g) (on s g)
