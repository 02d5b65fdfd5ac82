-- The number 0 is that of accepted calls. Assumes nothing.
use Prim.Native.Nat.{ℕ}
use mathlib.Core.Path.{◌≡◌, refl}
use mathlib.Core.Logic.{◌↔◌, inl, inr}
use mathlib.Core.Bool.{Bool, true, false, cond, false≢true}
use mathlib.Core.List.{◌++◌}
use lib.Dec.{eqb}
use borrow.Author.Tests.{eqb-false}
use Rattle.folds.proofs.Tests.{which}
use Rattle.map.specs.Check.{first_failed, map_tests, verdict, CheckEffect, check_effect}
use Rattle.state.specs.State.{row_tests, configuration_tests, EvaluateEffect, evaluate_by, evaluate_effect, MarkEffect, mark_by, mark_effect}
use Rattle.export.specs.Export.{text_tests, ExportEffect, export_by, export_effect}
use Rattle.abi_state.specs.Numbers.{StateZero}

-- an answer that is r where no test fails, and t where test n does
pub zero_of : {R : Type 0} (accepted : R → Bool) (number : R → ℕ) (n : ℕ) (r t : R) → accepted r ≡ true → number r ≡ 0 → accepted t ≡ false → number t ≡ n
    → (number (cond (eqb n 0) r t) ≡ 0) ↔ (accepted (cond (eqb n 0) r t) ≡ true)
zero_of accepted number n r t a z b k = elim (which (eqb n 0)) [
  | inl q ↦ rw q (λ e. a, λ e. z)
  | inr q ↦ rw (q, b, k) (λ e. absurd (eqb-false n 0 q e), λ e. absurd (false≢true e))
]

pub zero_is_accepted : StateZero
unfolding check_effect evaluate_effect evaluate_by mark_effect mark_by export_effect export_by
zero_is_accepted = record {
  check_zero = λ m. zero_of (λ (r : CheckEffect). r.accepted) (λ r. r.number) (verdict m) _ _ refl refl refl refl;
  evaluate_zero = λ m row out. zero_of (λ (r : EvaluateEffect). r.accepted) (λ r. r.number) (first_failed (map_tests m ++ row_tests m row out)) _ _ refl refl refl refl;
  mark_zero = λ m s. zero_of (λ (r : MarkEffect). r.accepted) (λ r. r.number) (first_failed (map_tests m ++ configuration_tests m s)) _ _ refl refl refl refl;
  export_zero = λ m out. zero_of (λ (r : ExportEffect). r.accepted) (λ r. r.number) (first_failed (map_tests m ++ text_tests m out)) _ _ refl refl refl refl;
}
