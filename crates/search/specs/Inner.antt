-- For inner functions: what Move's and Run's tests 9 to 14 let through, and the calls behind the map's tests. Assumes nothing.
use Rattle.std.specs.Prelude.{ℕ, ◌≡◌, true, List, [], ◌∷◌}
use Rattle.circuit.specs.Evaluate.{KeepsCodes}
use Rattle.map.specs.Map.{circuit}
use Rattle.map.specs.Check.{first_failed}
use Rattle.state.specs.State.{HasRoom}
use Rattle.tape.specs.Tape.{entry_kinds_test}
use Rattle.progress.specs.Advance.{Begins}
use Rattle.search.specs.Move.{front_test, move_tests, MoveEffect, move_by, FourBytes}
use Rattle.search.specs.Run.{run_tests, RunEffect, run_by, Room}

pub record RunTested (m s tape work ans : List ℕ) : Type 0 where
  pub begins : Begins m s tape
  pub kinds : entry_kinds_test tape ≡ true
  pub room : Room m work ans

pub record MoveTested (m s entry work : List ℕ) : Type 0 where
  pub keeps : KeepsCodes (circuit m) s
  pub four : FourBytes entry
  pub kinds : entry_kinds_test entry ≡ true
  pub room : HasRoom m work

-- Move behind the map's tests, and behind all but 15
unfoldable pub move_on_map : List ℕ → List ℕ → List ℕ → List ℕ → MoveEffect
move_on_map m s entry work = move_by (first_failed (move_tests m s entry work)) m s entry work

unfoldable pub move_on_entry : List ℕ → List ℕ → List ℕ → List ℕ → MoveEffect
move_on_entry m s entry work = move_by (first_failed ((15, front_test m s) ∷ [])) m s entry work

-- Run behind the map's tests
unfoldable pub run_on_map : List ℕ → List ℕ → List ℕ → List ℕ → List ℕ → RunEffect
run_on_map m s tape work ans = run_by (first_failed (run_tests m s tape work ans)) m s tape work ans
