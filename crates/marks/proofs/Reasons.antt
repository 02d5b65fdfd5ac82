-- The relevant children of a justified gate, as the pass marks them. Assumes nothing.
use Prim.Native.Nat.{ℕ, ◌<◌}
use mathlib.Core.Path.{◌≡◌}
use mathlib.Core.Bool.{true}
use mathlib.Core.List.{List}
use Rattle.folds.specs.Folds.{◌or◌}
use Rattle.circuit.specs.Tools.{same, select}
use Rattle.circuit.specs.Gate.{kind_of}
use Rattle.circuit.specs.Circuit.{on, justified}
use Rattle.circuit.specs.Survey.{reasons}
use Rattle.circuit.proofs.Evaluate.{agrees}
use Rattle.circuit.proofs.Lists.{select_same}
use Rattle.kinds.specs.Kinds.{all_relevant}
use Rattle.kinds.proofs.Relevant.{relevant_by}
use Rattle.map.specs.Map.{gate_count, kind_byte, kids_of, circuit}
use Rattle.map.specs.Inner.{IsMap}
use Rattle.map.proofs.Facts.{well_formed}

pub reasons_by : (m s : List ℕ) (g : ℕ) → IsMap m → g < gate_count m → justified (circuit m) s g ≡ true
    → reasons (circuit m) s g ≡ select (λ y. all_relevant (kind_of (kind_byte m g)) or same (on s y) (on s g)) (kids_of m g)
unfolding reasons
reasons_by m s g k h j =
    let ok = well_formed m k in
    rw j (select_same _ _ (kids_of m g) (λ y i. relevant_by (on s) (kids_of m g) y i (kind_of (kind_byte m g)) (on s g) (ok.fits g h) (λ o. agrees (circuit m) s g o j)))
