-- Document 01's Move, on bytes, with request F-1. What it means is proved in `demands`. Assumes nothing.
use Rattle.std.specs.Prelude.{ℕ, ◌≤◌, ◌≡◌, ◌↔◌, Bool, true, false, cond, not, List, [], ◌∷◌, ◌++◌, length, take, drop, eqb, leb, Result, Ok, Err}
use Rattle.circuit.specs.declared.Refusal.{Refusal}
use Rattle.circuit.specs.Refusal.{number_of}
use Rattle.circuit.specs.Tools.{is_empty, over}
use Rattle.circuit.specs.Survey.{front, survey}
use Rattle.circuit.specs.Evaluate.{KeepsCodes, differ}
use Rattle.circuit.specs.Run.{entry_turns, move}
use Rattle.circuit.specs.Source001.{NoFront, Front, TurnsExactly}
use Rattle.circuit.specs.Promise.{StuckAt, EntryDoes}
use Rattle.map.specs.Map.{gate_count, circuit}
use Rattle.map.specs.Check.{first_failed, map_tests, Test, MapNumber}
use Rattle.state.specs.State.{HasRoom}
use Rattle.survey.specs.Survey.{start_tests, IsStart, StartNumber}
use Rattle.steps.specs.declared.MoveReport.{MoveReport}
use Rattle.tape.specs.Tape.{entry_at, EntryRead, entry_kinds_test, EntryKindAllowed}

-- ---- the tests

-- "15. For Move: the front is empty.": true where it is not
unfoldable pub front_test : List ℕ → List ℕ → Bool
front_test m s = not (is_empty (front (circuit m) s))

-- 12 for Move: "The tape's length isn't a multiple of 4, is above 65,532 or, for Move, isn't 4."; 13; and "14. .. work .. memory is shorter than the
-- gate count."
unfoldable pub entry_tests : List ℕ → List ℕ → List ℕ → List (ℕ × Bool)
entry_tests m entry work = (12, eqb (length entry) 4) ∷ (13, entry_kinds_test entry) ∷ (14, leb (gate_count m) (length work)) ∷ []

-- Move's tests behind the map's: 9 to 11, these, and 15
unfoldable pub move_tests : List ℕ → List ℕ → List ℕ → List ℕ → List (ℕ × Bool)
move_tests m s entry work = start_tests m s ++ (entry_tests m entry work ++ ((15, front_test m s) ∷ []))

-- ---- Move

-- What Move does: whether the call is accepted and else its number, "the drawn gate and how many values it turned", and the two lent memories after the call
pub record MoveEffect : Type 0 where
  pub accepted : Bool
  pub number : ℕ
  pub gate : ℕ
  pub turned : ℕ
  pub configuration : List ℕ
  pub work : List ℕ

-- document 01's number and values of each case of the answer that is returned, beside the memories
unfoldable pub move_answer : Result MoveReport Refusal → List ℕ → List ℕ → MoveEffect
move_answer (Ok t) s w = record { accepted = true; number = 0; gate = t.gate; turned = t.turned; configuration = s; work = w }
move_answer (Err r) s w = record { accepted = false; number = number_of r; gate = 0; turned = 0; configuration = s; work = w }

-- what a call with this number gives and leaves: "Move does one entry and returns the drawn gate and how many values it turned (1 to 8). The lent
-- configuration is then the new one, and the first bytes of the work memory, one per gate, are its survey."; F-1: stuck, "with that entry undone .. and the work memory filled as
-- after Spent. Move then returns the drawn gate and 0 turned", as `move` has it; refused, it "leaves all lent memory untouched; the other numbers of its answer .. are then 0"
unfoldable pub move_by : ℕ → List ℕ → List ℕ → List ℕ → List ℕ → MoveEffect
move_by n m s entry work =
    cond (eqb n 0)
    (record {
      accepted = true;
      number = 0;
      gate = (move (circuit m) s (entry_at entry 0)).gate;
      turned = (move (circuit m) s (entry_at entry 0)).flips;
      configuration = (move (circuit m) s (entry_at entry 0)).next;
      work = over (survey (circuit m) (move (circuit m) s (entry_at entry 0)).next) work;
    })
    (record { accepted = false; number = n; gate = 0; turned = 0; configuration = s; work = work })

unfoldable pub move_effect : List ℕ → List ℕ → List ℕ → List ℕ → MoveEffect
move_effect m s entry work = move_by (first_failed (map_tests m ++ move_tests m s entry work)) m s entry work

-- ---- what it means

-- Of an accepted call: what its one entry does is `EntryDoes`, document 01's move with the options of source document 001, those left by F-1 and compared by F-5; the record and the two
-- memories say so. Where it is stuck, nothing is turned, and only there. (What `survey` says of a configuration is 001's: `SurveyIs001`.)
pub record MoveMeans (m s entry work : List ℕ) (r : MoveEffect) : Type 0 where
  pub start : IsStart m s
  pub read : EntryRead entry 0 (entry_at entry 0)
  pub does : EntryDoes (circuit m) s (entry_at entry 0)
  pub number : r.number ≡ 0
  pub gate : (r.gate ≡ (move (circuit m) s (entry_at entry 0)).gate) × Front (circuit m) s r.gate
  pub turns : TurnsExactly (entry_turns (circuit m) s (entry_at entry 0)) s r.configuration
  pub count : (r.turned ≡ differ (circuit m) s r.configuration) × (r.turned ≤ 8)
  pub none : (r.turned ≡ 0) ↔ StuckAt (circuit m) s (entry_at entry 0)
  pub undone : StuckAt (circuit m) s (entry_at entry 0) → r.configuration ≡ s
  pub keeps : KeepsCodes (circuit m) r.configuration
  pub surveyed : take (gate_count m) r.work ≡ survey (circuit m) r.configuration
  pub surplus : drop (gate_count m) r.work ≡ drop (gate_count m) work
  pub long : length r.work ≡ length work

abbrev pub MoveDoes : Type 0
MoveDoes = (m s entry work : List ℕ) → (move_effect m s entry work).accepted ≡ true → MoveMeans m s entry work (move_effect m s entry work)

-- what numbers 12 and 15 let through
abbrev pub FourBytes : List ℕ → Type 0
FourBytes entry = length entry ≡ 4

abbrev pub SomeFront : List ℕ → List ℕ → Type 0
SomeFront m s = ¬ NoFront (circuit m) s

-- Move is accepted exactly for starts, an entry of 4 bytes with a kind up to 2, memory that is long enough, and a front that is not empty.
pub record Movable (m s entry work : List ℕ) : Type 0 where
  pub start : IsStart m s
  pub four_bytes : FourBytes entry
  pub kind : EntryKindAllowed entry 0
  pub room : HasRoom m work
  pub some_front : SomeFront m s

abbrev pub MoveAccepts : Type 0
MoveAccepts = (m s entry work : List ℕ) → ((move_effect m s entry work).accepted ≡ true) ↔ Movable m s entry work

-- Its number: 12 to 15 behind those of the map and of a start
abbrev pub EntryNumber : ℕ → List ℕ → List ℕ → List ℕ → List ℕ → Type 0
EntryNumber n m s entry work =
    Test n 12 (FourBytes entry) (
    Test n 13 (EntryKindAllowed entry 0) (
    Test n 14 (HasRoom m work) (
    Test n 15 (SomeFront m s) (n ≡ 0))))

abbrev pub MoveNumber : Type 0
MoveNumber = (m s entry work : List ℕ)
    → MapNumber (move_effect m s entry work).number m (
    StartNumber (move_effect m s entry work).number m s (
    EntryNumber (move_effect m s entry work).number m s entry work))

-- Refused, it gives a number, "leaves all lent memory untouched; the other numbers of its answer .. are then 0".
pub record MoveRefused (s work : List ℕ) (r : MoveEffect) : Type 0 where
  pub numbered : ¬ (r.number ≡ 0)
  pub zeros : (r.gate ≡ 0) × (r.turned ≡ 0)
  pub untouched : (r.configuration ≡ s) × (r.work ≡ work)

abbrev pub MoveRefuses : Type 0
MoveRefuses = (m s entry work : List ℕ) → (move_effect m s entry work).accepted ≡ false → MoveRefused s work (move_effect m s entry work)
