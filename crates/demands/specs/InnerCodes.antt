-- Request F-1 of document 02, 'Codes on inner signals', on bytes: about the definitions that the calls' contracts cite. Assumes nothing.
use Rattle.std.specs.Prelude.{ℕ, ◌≤◌, ◌<◌, ◌≡◌, true, false, List}
use Rattle.circuit.specs.Evaluate.{KeepsCodes}
use Rattle.circuit.specs.Source001.{DownOptionsAre001, DownOptionsInOrder}
use Rattle.circuit.specs.Promise.{GreedyOptionsAre, OptionsLeftAre, AsBefore}
use Rattle.map.specs.Map.{gate_count, code_count, fan_in, child_at, code_gate, circuit}
use Rattle.map.specs.Check.{verdict, CheckAccepts, check_effect}
use Rattle.state.specs.State.{Satisfies, evaluate_effect, mark_effect}
use Rattle.survey.specs.Survey.{survey_effect}
use Rattle.search.specs.Move.{move_effect, MoveDoes}
use Rattle.search.specs.Run.{run_effect}
use Rattle.line.specs.Line.{refused_line, line_of, LinesAre}
use Rattle.demands.specs.Before.{moved_of_all, ran_of_all, MoveIsAs, RunIsAs}
use Rattle.demands.specs.Demands.{RunDoes, Demand3}

-- "Stuck must never occur on a map ..": no run on it, whatever start, tape and memories, ends so, and no move, whatever start and entry, which would then turn nothing.
pub record NeverStuckOn (m : List ℕ) : Type 0 where
  pub runs : (s tape work ans : List ℕ) → (run_effect m s tape work ans).stuck ≡ false
  pub moves : (s entry work : List ℕ) → (move_effect m s entry work).accepted ≡ true → 1 ≤ (move_effect m s entry work).turned

-- ".. that some state satisfies"
abbrev pub SatisfiedNeverStuck : Type 0
SatisfiedNeverStuck = (m a : List ℕ) → Satisfies m a → NeverStuckOn m

-- "8. A coded gate is some gate's child.": document 01's number 8 let these maps through
abbrev pub CodedFree : List ℕ → Type 0
CodedFree m = (g j r : ℕ) → g < gate_count m → j < fan_in m g → r < code_count m → ¬ (child_at m g j ≡ code_gate m r)

-- On those maps F-1 changed nothing: all options are left, accepted moves and runs are those in which all options count, and nothing is ever stuck. (Of the other calls only test 8 went, the
-- last of the map's, which these maps passed.)
pub record UnchangedOn (m : List ℕ) : Type 0 where
  pub circuits : (s : List ℕ) → KeepsCodes (circuit m) s → AsBefore (circuit m) s
  pub moves : (s entry work : List ℕ) → MoveIsAs moved_of_all m s entry work
  pub runs : (s tape work ans : List ℕ) → RunIsAs ran_of_all m s tape work ans
  pub never_stuck : NeverStuckOn m

abbrev pub UnchangedWhereFree : Type 0
UnchangedWhereFree = (m : List ℕ) → verdict m ≡ 0 → CodedFree m → UnchangedOn m

-- "Number 8 is no longer given.", by any call on any input; Children gives no number.
pub record Without8 : Type 0 where
  pub check : (m : List ℕ) → ¬ ((check_effect m).number ≡ 8)
  pub evaluate : (m row out : List ℕ) → ¬ ((evaluate_effect m row out).number ≡ 8)
  pub mark : (m s : List ℕ) → ¬ ((mark_effect m s).number ≡ 8)
  pub survey : (m s out : List ℕ) → ¬ ((survey_effect m s out).number ≡ 8)
  pub move : (m s entry work : List ℕ) → ¬ ((move_effect m s entry work).number ≡ 8)
  pub run : (m s tape work ans : List ℕ) → ¬ ((run_effect m s tape work ans).number ≡ 8)
  pub program : (x : List ℕ) → ¬ (line_of x ≡ refused_line 8)

-- F-1, sentence by sentence.
--     accepts          "a coded gate may now be a child": which maps are accepted; none is refused for that
--     options, order   all down options are 001's, in the order of documents 01 and 02;
--     left, greedy     "A down option counts only if it turns no coded gate": those left are the ones of which that is so, in their order, and greedy picks from these the smallest
--     moves, runs      "numbering and modulo run over those left. If none is left and the drawn gate is uncoded, the gate itself is turned, whatever the kind. If none is left and it is
--                      coded, the run or move ends Stuck, with that entry undone and uncounted, answer memory untouched and the work memory filled as after Spent. Move then returns
--                      the drawn gate and 0 turned"
--     prints           "the program prints `STUCK moves flips`", and no such line otherwise
--     finishing        "The existence of a finishing list must hold for these maps too": demand 3 is about all accepted maps
--     never_stuck      "and Stuck must never occur on a map that some state satisfies."
--     without_8        "Number 8 is no longer given."
--     unchanged        and where no coded gate is a child, all is as before
pub record InnerCodes : Type 0 where
  pub accepts : CheckAccepts
  pub options : DownOptionsAre001
  pub order : DownOptionsInOrder
  pub left : OptionsLeftAre
  pub greedy : GreedyOptionsAre
  pub moves : MoveDoes
  pub runs : RunDoes
  pub prints : LinesAre
  pub finishing : Demand3
  pub never_stuck : SatisfiedNeverStuck
  pub without_8 : Without8
  pub unchanged : UnchangedWhereFree
