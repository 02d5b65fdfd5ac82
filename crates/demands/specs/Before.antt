-- What accepted calls of Move and Run give and leave without a request, to say where it changes nothing. Assumes nothing.
use Rattle.std.specs.Prelude.{ℕ, ◌≡◌, true, List, length}
use Rattle.circuit.specs.Tools.{over}
use Rattle.circuit.specs.Survey.{survey}
use Rattle.circuit.specs.Run.{drawn, turn, turned_by}
use Rattle.circuit.specs.Promise.{entry_of_all, run_of_all, run_with, entry_with_nots}
use Rattle.map.specs.Map.{circuit}
use Rattle.tape.specs.Tape.{entry_at, entries}
use Rattle.search.specs.Move.{MoveEffect, move_effect}
use Rattle.search.specs.Run.{RunEffect, run_ended, run_effect}

-- Move, if its entry turns the gates xs
abbrev pub moved_by : List ℕ → List ℕ → List ℕ → List ℕ → List ℕ → MoveEffect
moved_by xs m s entry work = record {
  accepted = true;
  number = 0;
  gate = drawn (circuit m) s (entry_at entry 0).draw;
  turned = length xs;
  configuration = turn xs s;
  work = over (survey (circuit m) (turn xs s)) work;
}

-- without F-1: all options count
abbrev pub moved_of_all : List ℕ → List ℕ → List ℕ → List ℕ → MoveEffect
moved_of_all m s entry work = moved_by (entry_of_all (circuit m) s (entry_at entry 0)) m s entry work

abbrev pub ran_of_all : List ℕ → List ℕ → List ℕ → List ℕ → List ℕ → RunEffect
ran_of_all m s tape work ans = run_ended (circuit m) (run_of_all (circuit m) s (entries tape)) work ans

-- without F-5: greedy compares sizes in which NOT gates are counted
abbrev pub moved_with_nots : List ℕ → List ℕ → List ℕ → List ℕ → MoveEffect
moved_with_nots m s entry work =
    let e = entry_at entry 0 in
    moved_by (turned_by (drawn (circuit m) s e.draw) (entry_with_nots (circuit m) s e)) m s entry work

abbrev pub ran_with_nots : List ℕ → List ℕ → List ℕ → List ℕ → List ℕ → RunEffect
ran_with_nots m s tape work ans = run_ended (circuit m) (run_with (circuit m) (entry_with_nots (circuit m)) s (entries tape)) work ans

-- if it is accepted, a call of Move does what `moved` says, and one of Run what `ran` says
abbrev pub MoveIsAs : (List ℕ → List ℕ → List ℕ → List ℕ → MoveEffect) → List ℕ → List ℕ → List ℕ → List ℕ → Type 0
MoveIsAs moved m s entry work = (move_effect m s entry work).accepted ≡ true → move_effect m s entry work ≡ moved m s entry work

abbrev pub RunIsAs : (List ℕ → List ℕ → List ℕ → List ℕ → List ℕ → RunEffect) → List ℕ → List ℕ → List ℕ → List ℕ → List ℕ → Type 0
RunIsAs ran m s tape work ans = (run_effect m s tape work ans).accepted ≡ true → run_effect m s tape work ans ≡ ran m s tape work ans
