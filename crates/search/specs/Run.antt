-- Document 01's Run, on bytes, with request F-1. What it means is proved in `demands`. Assumes nothing.
use Rattle.std.specs.Prelude.{ℕ, ◌≡◌, ◌↔◌, Bool, true, false, cond, List, [], ◌∷◌, ◌++◌, length, eqb, leb}
use Rattle.folds.specs.Folds.{◌and◌}
use Rattle.circuit.specs.Tools.{over}
use Rattle.circuit.specs.declared.Ending.{Ending}
use Rattle.circuit.specs.declared.Ending.TheVariants.{Found, Spent, Stuck, Refused}
use Rattle.circuit.specs.declared.Outcome.{Outcome}
use Rattle.circuit.specs.declared.Refusal.{Refusal}
use Rattle.circuit.specs.Circuit.{Circuit}
use Rattle.circuit.specs.Survey.{survey}
use Rattle.circuit.specs.Run.{EndingValues, told, RunResult, run, answer}
use Rattle.map.specs.Map.{gate_count, circuit}
use Rattle.map.specs.Check.{first_failed, map_tests, Test, MapNumber}
use Rattle.state.specs.State.{HasRoom}
use Rattle.survey.specs.Survey.{start_tests, IsStart, StartNumber}
use Rattle.tape.specs.Tape.{entries, tape_length_test, entry_kinds_test, LengthAllowed, EntriesAllowed}

-- ---- the tests

-- "12. The tape's length isn't a multiple of 4, is above 65,532", 13, and "14. .. work or answer memory is shorter than the gate count."
unfoldable pub tape_tests : List ℕ → List ℕ → List ℕ → List ℕ → List (ℕ × Bool)
tape_tests m tape work ans = (12, tape_length_test tape) ∷ (13, entry_kinds_test tape) ∷ (14, leb (gate_count m) (length work) and leb (gate_count m) (length ans)) ∷ []

-- Run's tests behind the map's: 9 to 11, and these
unfoldable pub run_tests : List ℕ → List ℕ → List ℕ → List ℕ → List ℕ → List (ℕ × Bool)
run_tests m s tape work ans = start_tests m s ++ tape_tests m tape work ans

-- ---- Run

-- What Run does: "A run's answer is one record: its ending, its moves and its flips", the ending by its number and values (whether the call is accepted, the number that
-- refuses it, whether it is Found, whether it is Stuck, the front's size that Spent carries), and the three lent memories after the call
pub record RunEffect : Type 0 where
  pub accepted : Bool
  pub number : ℕ
  pub found : Bool
  pub stuck : Bool
  pub front : ℕ
  pub moves : ℕ
  pub flips : ℕ
  pub configuration : List ℕ
  pub work : List ℕ
  pub answer : List ℕ

-- what its ending tells
abbrev pub ending_values : RunEffect → EndingValues
ending_values r = record { accepted = r.accepted; number = r.number; found = r.found; stuck = r.stuck; front = r.front }

-- of the record that is returned, beside the memories: `told` has the number and values of each case of its ending
unfoldable pub run_answer : Outcome → List ℕ → List ℕ → List ℕ → RunEffect
run_answer o s w a = record {
  accepted = (told o.ending).accepted;
  number = (told o.ending).number;
  found = (told o.ending).found;
  stuck = (told o.ending).stuck;
  front = (told o.ending).front;
  moves = o.moves;
  flips = o.flips;
  configuration = s;
  work = w;
  answer = a;
}

-- "Found writes the answer memory .. Spent leaves it untouched.", and Stuck leaves "answer memory untouched" too (F-1): the answer memory after an ending, where x is what
-- Found writes
abbrev pub answer_memory : Ending → List ℕ → List ℕ → List ℕ
answer_memory Found x ans = over x ans
answer_memory (Spent f) x ans = ans
answer_memory Stuck x ans = ans
answer_memory (Refused r) x ans = ans

-- "After either ending the configuration is the last one and the first bytes of the work memory, one per gate, are its survey." F-1: where it is Stuck, "the work memory
-- filled as after Spent"
unfoldable pub run_ended : Circuit → RunResult → List ℕ → List ℕ → RunEffect
run_ended c r work ans = run_answer r.outcome r.last (over (survey c r.last) work) (answer_memory r.outcome.ending (answer c r.last) ans)

-- Run where no test refuses it
abbrev pub run_on_tape : List ℕ → List ℕ → List ℕ → List ℕ → List ℕ → RunEffect
run_on_tape m s tape work ans = run_ended (circuit m) (run (circuit m) s (entries tape)) work ans

-- "the other numbers of its answer, as Run's moves and flips, are then 0"
abbrev pub refused_outcome : Refusal → Outcome
refused_outcome r = record { ending = Refused r; moves = 0; flips = 0 }

-- the effect of a call that is refused with number n
abbrev pub run_refused : ℕ → List ℕ → List ℕ → List ℕ → RunEffect
run_refused n s w a = record {
  accepted = false;
  number = n;
  found = false;
  stuck = false;
  front = 0;
  moves = 0;
  flips = 0;
  configuration = s;
  work = w;
  answer = a;
}

-- what a call with this number gives and leaves; refused, it "leaves all lent memory untouched"
unfoldable pub run_by : ℕ → List ℕ → List ℕ → List ℕ → List ℕ → List ℕ → RunEffect
run_by n m s tape work ans =
    cond (eqb n 0)
    (run_on_tape m s tape work ans)
    (run_refused n s work ans)

unfoldable pub run_effect : List ℕ → List ℕ → List ℕ → List ℕ → List ℕ → RunEffect
run_effect m s tape work ans = run_by (first_failed (map_tests m ++ run_tests m s tape work ans)) m s tape work ans

-- ---- which calls are accepted

-- number 14 lets these memories through
pub record Room (m work ans : List ℕ) : Type 0 where
  pub work_room : HasRoom m work
  pub answer_room : HasRoom m ans

-- Run is accepted exactly for starts, tapes of whole entries, at most 16,383 of them and each of a kind up to 2, and memories that are long enough.
pub record Runnable (m s tape work ans : List ℕ) : Type 0 where
  pub start : IsStart m s
  pub tape_length : LengthAllowed tape
  pub kinds : EntriesAllowed tape
  pub room : Room m work ans

abbrev pub RunAccepts : Type 0
RunAccepts = (m s tape work ans : List ℕ) → ((run_effect m s tape work ans).accepted ≡ true) ↔ Runnable m s tape work ans

-- Its number: 12 to 14 behind those of the map and of a start
abbrev pub TapeNumber : ℕ → List ℕ → List ℕ → List ℕ → List ℕ → Type 0
TapeNumber n m tape work ans =
    Test n 12 (LengthAllowed tape) (
    Test n 13 (EntriesAllowed tape) (
    Test n 14 (Room m work ans) (n ≡ 0)))

abbrev pub RunNumber : Type 0
RunNumber = (m s tape work ans : List ℕ)
    → MapNumber (run_effect m s tape work ans).number m (
    StartNumber (run_effect m s tape work ans).number m s (
    TapeNumber (run_effect m s tape work ans).number m tape work ans))

-- Refused, it gives a number, "leaves all lent memory untouched; the other numbers of its answer .. are then 0".
pub record RunRefused (s work ans : List ℕ) (r : RunEffect) : Type 0 where
  pub numbered : ¬ (r.number ≡ 0)
  pub no_ending : (r.found ≡ false) × (r.stuck ≡ false)
  pub zeros : (r.moves ≡ 0) × ((r.flips ≡ 0) × (r.front ≡ 0))
  pub untouched : (r.configuration ≡ s) × ((r.work ≡ work) × (r.answer ≡ ans))

abbrev pub RunRefuses : Type 0
RunRefuses = (m s tape work ans : List ℕ) → (run_effect m s tape work ans).accepted ≡ false → RunRefused s work ans (run_effect m s tape work ans)
