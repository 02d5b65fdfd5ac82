-- The number 0 is that of accepted calls, and the first number of a run tells its ending. Assumes nothing.
use Prim.Native.Nat.{ℕ}
use mathlib.Core.Path.{◌≡◌, refl, sym, ap, ◌∙◌}
use mathlib.Core.Logic.{◌⊎◌, inl, inr}
use mathlib.Core.Bool.{true, false, true≢false}
use native.Mathlib.Omega.{arith}
use Rattle.folds.proofs.Tests.{which}
use mathlib.Core.List.{◌++◌}
use Rattle.map.specs.Check.{first_failed, map_tests}
use Rattle.search.specs.Move.{move_tests, MoveEffect, move_by, move_effect}
use Rattle.map.specs.Map.{circuit}
use Rattle.tape.specs.Tape.{entries}
use Rattle.search.specs.Run.{run_tests, RunEffect, run_answer, run_ended, run_by, run_effect}
use Rattle.circuit.specs.Run.{EndingValues}
use Rattle.search.proofs.Endings.{run_ends, stuck_alone}
use Rattle.abi_state.proofs.Zero.{zero_of}
use Rattle.abi_search.specs.Numbers.{SearchZero, EndingTells, EndingsAreTold}

pub zero_is_accepted : SearchZero
unfolding move_effect move_by run_effect run_by run_ended run_answer
zero_is_accepted = record {
  move_zero = λ m s entry work. zero_of (λ (r : MoveEffect). r.accepted) (λ r. r.number) (first_failed (map_tests m ++ move_tests m s entry work)) _ _ refl refl refl refl;
  run_zero = λ m s tape work ans. let e = run_ends (circuit m) s (entries tape) in
      zero_of (λ (r : RunEffect). r.accepted) (λ r. r.number) (first_failed (map_tests m ++ run_tests m s tape work ans)) _ _ (ap (λ (t : EndingValues). t.accepted) e) (ap (λ (t : EndingValues). t.number) e) refl refl;
}

pub endings_are_told : EndingsAreTold
endings_are_told m s tape work ans =
    by_cases (run_effect m s tape work ans) (which (run_effect m s tape work ans).found) (which (run_effect m s tape work ans).stuck) (stuck_alone m s tape work ans)
  where
    by_cases : (r : RunEffect) → (r.found ≡ true) ⊎ (r.found ≡ false) → (r.stuck ≡ true) ⊎ (r.stuck ≡ false) → (r.stuck ≡ true → r.found ≡ false) → EndingTells r
    by_cases r (inl f) (inl z) alone = absurd (true≢false (sym f ∙ alone z))
    by_cases r (inl f) (inr z) alone = record { found = (λ e. f, λ e. rw f); stuck = (λ e. absurd (let q : ◌≡◌ {A = ℕ} 1 2 = rw f at e in omega arith), λ e. absurd (true≢false (sym e ∙ z))) }
    by_cases r (inr f) (inl z) alone = record { found = (λ e. absurd (let q : ◌≡◌ {A = ℕ} 2 1 = rw (f, z) at e in omega arith), λ e. absurd (true≢false (sym e ∙ f))); stuck = (λ e. z, λ e. rw (f, z)) }
    by_cases r (inr f) (inr z) alone = record {
      found = (λ e. absurd (let q : ◌≡◌ {A = ℕ} 0 1 = rw (f, z) at e in omega arith), λ e. absurd (true≢false (sym e ∙ f)));
      stuck = (λ e. absurd (let q : ◌≡◌ {A = ℕ} 0 2 = rw (f, z) at e in omega arith), λ e. absurd (true≢false (sym e ∙ z)));
    }
