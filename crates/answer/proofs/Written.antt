-- Where each input is given what the answer has for it, the answer is what is written. Assumes nothing.
use Rattle.std.proofs.Common.{ℕ, ◌≡◌, ◌<◌, Bool, true, List, ◌∙◌}
use Rattle.folds.specs.Folds.{◌and◌}
use Rattle.circuit.specs.Gate.{kind_of, is_input}
use Rattle.circuit.specs.Circuit.{on}
use Rattle.circuit.specs.Survey.{cone}
use Rattle.circuit.specs.Evaluate.{inputs_before}
use Rattle.circuit.specs.Run.{answer}
use Rattle.map.specs.Map.{gate_count, kind_byte, circuit}
use Rattle.state.specs.Inner.{ValuesBy}
use Rattle.state.proofs.Filling.{values_as}

-- It is of the memory that is left in the end: that it is what was written stays to be shown, so that whatever else is written there is refused by its bytes
pub answer_as : (post : ℕ → ℕ → Bool → Type 0) (m s w left : List ℕ) → ValuesBy post m w
    → ((g : ℕ) (v : Bool) → g < gate_count m → is_input (kind_of (kind_byte m g)) ≡ true → post g (inputs_before (circuit m) g) v → v ≡ (cone (circuit m) s g and on s g))
    → left ≡ w → left ≡ answer (circuit m) s
unfolding answer
answer_as post m s w left b e q = q ∙ values_as post m w (λ g. cone (circuit m) s g and on s g) b e
