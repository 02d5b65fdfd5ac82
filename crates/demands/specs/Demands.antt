-- Document 00's demands, on bytes: about the definitions that the calls' contracts cite. Demands 2 and 3 speak of `run_effect`, Run's. Assumes nothing.
use Rattle.std.specs.Prelude.{ℕ, ◌*◌, ◌/◌, ◌%◌, ◌≤◌, ◌<◌, ◌≡◌, true, false, cond, length, get_or, take, drop}
use mathlib.Core.List.{List, [], ◌∷◌, map, Memᴰ as In}
use Rattle.circuit.specs.declared.Entry.{Entry}
use Rattle.circuit.specs.Evaluate.{Row, row_of, evaluate, differ}
use Rattle.circuit.specs.Tools.{is_empty}
use Rattle.circuit.specs.Survey.{front, survey, front_size}
use Rattle.circuit.specs.Source001.{DifferIs}
use Rattle.circuit.specs.Promise.{FoundAnswer, FreeFrom, StuckAt, config, Promised, Demand2OnCircuits}
use Rattle.map.specs.Map.{most_gates, gate_count, code_count, code_gate, code_value, circuit}
use Rattle.map.specs.Check.{MapAccepts, CheckNumber, CheckAccepts, CheckRefuses, CheckDoes, AcceptedMaps}
use Rattle.map.specs.Children.{ChildrenDoes}
use Rattle.state.specs.State.{Satisfies, EvaluateDoes, EvaluateAccepts, EvaluateNumber, EvaluateRefuses, MarkDoes, MarkAccepts, MarkNumber, MarkRefuses}
use Rattle.export.specs.Export.{ExportDoes, ExportAccepts, ExportNumber, ExportRefuses}
use Rattle.survey.specs.Survey.{IsStart, SurveyDoes, SurveyAccepts, SurveyNumber, SurveyRefuses}
use Rattle.tape.specs.Tape.{most_entries, EntryRead, entries}
use Rattle.search.specs.Move.{MoveDoes, MoveAccepts, MoveNumber, MoveRefuses}
use Rattle.search.specs.Run.{RunEffect, ending_values, run_effect, Room, RunAccepts, RunNumber, RunRefuses}
use Rattle.text.specs.Text.{AreBytes}
use Rattle.line.specs.Line.{EveryInput, CutInput}

-- ---- demand 1

-- "A refused call gives the number that document 01 names and leaves all lent bytes untouched; an accepted one leaves what document 01 states."
-- Of each call its number, by document 01's conditions in their order, but for 8, which F-1 took back, and Export's by 16 of document 02 behind the map's; which inputs it accepts; what a refused call gives and leaves beside the
-- number; and what an accepted one does. What Survey, Move and Run do is in demand 2. Of the program which inputs it runs, which it refuses with 0,
-- and that the bytes that it reads are enough. (The demand's first sentence, on the ends of memory and the end of calls, Rattle asks of every function.)
pub record Demand1 : Type 0 where
  pub check_number : CheckNumber
  pub check_accepts : CheckAccepts
  pub check_refuses : CheckRefuses
  pub check_does : CheckDoes
  pub children : ChildrenDoes
  pub evaluate_number : EvaluateNumber
  pub evaluate_accepts : EvaluateAccepts
  pub evaluate_refuses : EvaluateRefuses
  pub evaluate_does : EvaluateDoes
  pub mark_number : MarkNumber
  pub mark_accepts : MarkAccepts
  pub mark_refuses : MarkRefuses
  pub mark_does : MarkDoes
  pub export_number : ExportNumber
  pub export_accepts : ExportAccepts
  pub export_refuses : ExportRefuses
  pub export_does : ExportDoes
  pub survey_number : SurveyNumber
  pub survey_accepts : SurveyAccepts
  pub survey_refuses : SurveyRefuses
  pub move_number : MoveNumber
  pub move_accepts : MoveAccepts
  pub move_refuses : MoveRefuses
  pub run_number : RunNumber
  pub run_accepts : RunAccepts
  pub run_refuses : RunRefuses
  pub program : EveryInput
  pub program_reads : CutInput

-- ---- demand 2

-- What stands in the answer memory after Found, where `last` is the last configuration: its first bytes, one per gate, are 'inputs in the cone keep their
-- values, all other inputs are 0, other gates are evaluated', and Mark says yes to them: they obey every gate and show every code. Each code record of the map
-- finds its value there. Their input values, in gate order, are a row from which Evaluate makes them. Inputs outside the cone are free: with any other values there the
-- codes are shown too. The surplus stands.
pub record FoundWrites (m last ans after : List ℕ) : Type 0 where
  pub answered : FoundAnswer (circuit m) last (take (gate_count m) after)
  pub marked : Satisfies m (take (gate_count m) after)
  pub codes : (r : ℕ) → r < code_count m → get_or after (code_gate m r) 0 ≡ code_value m r
  pub row : Row (circuit m) (row_of (circuit m) after) × (evaluate (circuit m) (row_of (circuit m) after) ≡ take (gate_count m) after)
  pub free : (a : List ℕ) → FreeFrom (circuit m) last a → Satisfies m a
  pub surplus : drop (gate_count m) after ≡ drop (gate_count m) ans
  pub long : length after ≡ length ans

-- Of an accepted call.
--     entries_are           the tape is its entries, four bytes each,
--     entry_is              in that order, with the draws, kinds and options of their bytes
--     promised              the record and the last configuration are those of document 01's run: `Promised` says what that is, with the configurations
--                           `config .. 0`, the start, `config .. 1`, after the first entry, and so on
--     ending                an accepted call's number is 0, it found where the last configuration has no front, and its front is that one's: 0 for Found, and
--                           "Spent also carries the front's size"; Stuck carries none
--     stuck                 "with that entry undone and uncounted": the entry behind those counted is stuck on the configuration that is left
--     bounds                how large these numbers may become
--     surveyed              "the first bytes of the work memory, one per gate, are its survey"; the surplus stands
--     found, not_found      what the answer memory holds
pub record RunMeans (m s tape work ans : List ℕ) (r : RunEffect) : Type 0 where
  pub start : IsStart m s
  pub entries_are : length tape ≡ 4 * length (entries tape)
  pub entry_is : (d : Entry) (i : ℕ) → 4 * i < length tape → EntryRead tape (4 * i) (get_or (entries tape) i d)
  pub promised : Promised (circuit m) s (entries tape) (config (circuit m) s (entries tape)) (ending_values r) r.moves r.flips r.configuration
  pub ending : ending_values r
      ≡ record {
        accepted = true;
        number = 0;
        found = is_empty (front (circuit m) r.configuration);
        stuck = r.stuck;
        front = cond r.stuck 0 (front_size (circuit m) r.configuration);
      }
  pub stuck : r.stuck ≡ true → (d : Entry) → (r.moves < length (entries tape)) × StuckAt (circuit m) r.configuration (get_or (entries tape) r.moves d)
  pub bounds : (r.moves ≤ most_entries) × ((r.flips ≤ 8 * r.moves) × (r.front ≤ most_gates))
  pub surveyed : take (gate_count m) r.work ≡ survey (circuit m) r.configuration
  pub work_surplus : drop (gate_count m) r.work ≡ drop (gate_count m) work
  pub work_long : length r.work ≡ length work
  pub found : r.found ≡ true → FoundWrites m r.configuration ans r.answer
  pub not_found : r.found ≡ false → r.answer ≡ ans

abbrev pub RunDoes : Type 0
RunDoes = (m s tape work ans : List ℕ) → (run_effect m s tape work ans).accepted ≡ true → RunMeans m s tape work ans (run_effect m s tape work ans)

-- "Work and answer memory may hold any bytes and have any length that number 14 lets through: ending, moves and flips are the same for all of them.",
-- and so are the configuration that is left, the survey of an accepted call and the answer of Found.
pub record SameRun (m : List ℕ) (r r' : RunEffect) : Type 0 where
  pub ending : ending_values r ≡ ending_values r'
  pub moves : r.moves ≡ r'.moves
  pub flips : r.flips ≡ r'.flips
  pub configuration : r.configuration ≡ r'.configuration
  pub surveyed : r.accepted ≡ true → take (gate_count m) r.work ≡ take (gate_count m) r'.work
  pub answered : r.found ≡ true → take (gate_count m) r.answer ≡ take (gate_count m) r'.answer

abbrev pub SameForAllMemories : Type 0
SameForAllMemories =
    (m s tape work ans work' ans' : List ℕ) → Room m work ans → Room m work' ans' → SameRun m (run_effect m s tape work ans) (run_effect m s tape work' ans')

-- "Cone, front and interest set are those of source document 001, save two differences that document 01 marks. A run makes the moves of document 01,
-- reports as moves and flips the count of entries done and the sum of values they turned, and ends Found exactly when its front becomes empty within the
-- tape; the state it then gives obeys every gate and shows every code."
--     maps, notions    the circuit of an accepted map is well formed, so what `Demand2OnCircuits` says holds of it
--     survey_accepts, ..    which calls are accepted, and what these do. F-5: "Of demand 2's two differences, the one on NOT gates is now in the mark alone.": in `surveys` the bytes go by all interesting gates,
--                      and the size of the interest set by 001's own set
--     memories         whatever bytes work and answer memory hold
pub record Demand2 : Type 1 where
  pub maps : AcceptedMaps
  pub notions : Demand2OnCircuits
  pub survey_accepts : SurveyAccepts
  pub surveys : SurveyDoes
  pub move_accepts : MoveAccepts
  pub moves : MoveDoes
  pub run_accepts : RunAccepts
  pub runs : RunDoes
  pub memories : SameForAllMemories

-- ---- demand 3

-- "A list of front draws is a list of u16."
abbrev pub AreDraws : List ℕ → Type 0
AreDraws ds = (d : ℕ) → In d ds → d < 65536

-- "a kind and an option byte for each draw"
pub record Way : Type 0 where
  pub kind : ℕ
  pub option : ℕ

-- "no kind among them greedy": down or up
pub record Plain (w : Way) : Type 0 where
  pub kind_is : (1 ≤ w.kind) × (w.kind ≤ 2)
  pub option_is : w.option < 256

-- "the tape whose entries are these draws in that order, each with its two bytes, and no other entry; an empty list gives the empty tape"
abbrev pub tape_of : List ℕ → List Way → List ℕ
tape_of [] ws = []
tape_of (d ∷ ds) [] = []
tape_of (d ∷ ds) (w ∷ ws) = d % 256 ∷ d / 256 ∷ w.kind ∷ w.option ∷ tape_of ds ws

-- a run "ends Found and reports at most that number of moves and at most that number of flips"
pub record FoundWithin (n : ℕ) (r : RunEffect) : Type 0 where
  pub found : r.found ≡ true
  pub moves : r.moves ≤ n
  pub flips : r.flips ≤ n

-- "kind and option bytes exist, no kind among them greedy, with which document 01's run on exactly those draws ends Found ..": the same bytes for all
-- memories. What Run reads on the tape are those draws.
pub record Finishing (m s ds : List ℕ) (n : ℕ) : Type 0 where
  pub ways : List Way
  pub one_each : length ways ≡ length ds
  pub plain : (w : Way) → In w ways → Plain w
  pub bytes : AreBytes (tape_of ds ways)
  pub draws : map (λ (e : Entry). e.draw) (entries (tape_of ds ways)) ≡ ds
  pub run_finds : (work ans : List ℕ) → Room m work ans → FoundWithin n (run_effect m s (tape_of ds ways) work ans)

-- From a start s.
--     only, some_tape    "some tape ends Found exactly when some state satisfies the map"
--     bounded            "For every such start and every satisfying assignment of all gates, count the gates where the two differ. For every list of
--                        front draws of that length, .."
pub record Demand3From (m s : List ℕ) : Type 0 where
  pub only : (tape work ans : List ℕ) → (run_effect m s tape work ans).found ≡ true → (a : List ℕ) × Satisfies m a
  pub some_tape : (a : List ℕ) → Satisfies m a
      → (tape : List ℕ) × AreBytes tape × ((work ans : List ℕ) → Room m work ans → (run_effect m s tape work ans).found ≡ true)
  pub bounded : (a : List ℕ) → Satisfies m a → (ds : List ℕ) → AreDraws ds → length ds ≡ differ (circuit m) s a
      → Finishing m s ds (differ (circuit m) s a)

-- "From every start that keeps an accepted map's codes". Which maps are accepted and what their circuits are, what a satisfying assignment is and what is
-- counted stand beside it.
pub record Demand3 : Type 0 where
  pub maps : MapAccepts
  pub circuits : AcceptedMaps
  pub satisfying : MarkDoes
  pub counted : DifferIs
  pub from : (m s : List ℕ) → IsStart m s → Demand3From m s
