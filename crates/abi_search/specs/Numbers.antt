-- What a host sees of Move and Run. Assumes nothing.
use Rattle.std.specs.Prelude.{ℕ, ◌≡◌, ◌↔◌, true, cond, List, [], ◌∷◌}
use Rattle.abi_state.specs.Numbers.{numbers_after, HostEffect, host_answer}
use Rattle.search.specs.Move.{MoveEffect, move_effect}
use Rattle.search.specs.Run.{RunEffect, run_effect}

-- Move "returns the drawn gate and how many values it turned", 0 where it is stuck
abbrev pub move_for_host : MoveEffect → List ℕ → HostEffect
move_for_host r ns = host_answer r.number (r.configuration ∷ r.work ∷ []) (numbers_after r.accepted (r.gate ∷ r.turned ∷ []) ns)

-- Run: 1 for Found, 2 for Stuck and 0 for Spent, moves, flips, and the front's size that Spent carries, else 0
abbrev pub ending_number : RunEffect → ℕ
ending_number r = cond r.found 1 (cond r.stuck 2 0)

abbrev pub run_for_host : RunEffect → List ℕ → HostEffect
run_for_host r ns =
    host_answer r.number (r.configuration ∷ r.work ∷ r.answer ∷ [])
    (numbers_after r.accepted (ending_number r ∷ r.moves ∷ r.flips ∷ r.front ∷ []) ns)

-- they return 0 exactly where they are accepted
pub record SearchZero : Type 0 where
  pub move_zero : (m s entry work : List ℕ) → ((move_effect m s entry work).number ≡ 0) ↔ ((move_effect m s entry work).accepted ≡ true)
  pub run_zero : (m s tape work ans : List ℕ) → ((run_effect m s tape work ans).number ≡ 0) ↔ ((run_effect m s tape work ans).accepted ≡ true)

-- what the first number of a run tells
pub record EndingTells (r : RunEffect) : Type 0 where
  pub found : (ending_number r ≡ 1) ↔ (r.found ≡ true)
  pub stuck : (ending_number r ≡ 2) ↔ (r.stuck ≡ true)

abbrev pub EndingsAreTold : Type 0
EndingsAreTold = (m s tape work ans : List ℕ) → EndingTells (run_effect m s tape work ans)
