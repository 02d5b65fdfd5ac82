-- The code of a gate, by its record. Assumes nothing.
use Prim.Native.Nat.{ℕ, zero, suc, ◌+◌, ◌≤◌, ◌<◌}
use mathlib.Core.Path.{◌≡◌, refl}
use mathlib.Core.Bool.{Bool}
use mathlib.Core.Option.{none, some}
use mathlib.Core.Logic.{inl, inr}
use mathlib.Core.List.{List}
use native.Mathlib.Nat.{le_of_suc-le-suc, eq-or-lt_of_le}
use native.Mathlib.Omega.{arith}
use lib.Dec.{eqb}
use borrow.Author.Tests.{eqb-true, eq-eqb, ne_eqb}
use Rattle.folds.proofs.Tests.{which}
use Rattle.map.specs.Map.{code_count, code_gate, code_value, code_among}
use Rattle.map.proofs.Facts.{steps}

-- a gate's code has a record
pub code_record : (m : List ℕ) (n g : ℕ) (v : Bool) → code_among m n g ≡ some v → (r : ℕ) × (r < n) × (code_gate m r ≡ g) × (v ≡ eqb (code_value m r) 1)
unfolding code_among
code_record m zero g v e = absurd (let z : ◌≡◌ {A = ℕ} 0 1 = cc in omega arith)
code_record m (suc n) g v e = elim (which (eqb (code_gate m n) g)) [
  | inl q ↦ (let w = rw q at e in (n, omega arith, eqb-true (code_gate m n) g q, cc))
  | inr q ↦ (let (r, l, f, h) = code_record m n g v (rw q at e) in (r, omega arith, f, h))
]

-- and a record is the code of its gate, as no other record has this gate
pub code_found : (m : List ℕ) → ((r : ℕ) → r + 1 < code_count m → code_gate m r < code_gate m (r + 1)) → (n r : ℕ) → r < n → n ≤ code_count m → code_among m n (code_gate m r) ≡ some (eqb (code_value m r) 1)
unfolding code_among
code_found m up zero r l h = absurd (omega arith)
code_found m up (suc n) r l h = elim (eq-or-lt_of_le (le_of_suc-le-suc l)) [
  | inl q ↦ rw (← q, eq-eqb (code_gate m r) (code_gate m r) refl)
  | inr q ↦ (let s = steps (λ i. code_gate m i) (code_count m) r n up q (omega arith) in
      rw (ne_eqb (code_gate m n) (code_gate m r) (λ e. omega arith)) (code_found m up n r q (omega arith)))
]

-- a gate that no record has is uncoded
pub code_none : (m : List ℕ) (n g : ℕ) → ((r : ℕ) → r < n → ¬ (code_gate m r ≡ g)) → code_among m n g ≡ none
unfolding code_among
code_none m zero g h = refl
code_none m (suc n) g h = rw (ne_eqb (code_gate m n) g (h n (omega arith))) (code_none m n g (λ r l. h r (omega arith)))
