-- Request F-5 of document 02, 'NOT gates carry no weight', on bytes: about the definitions that the calls' contracts cite. Assumes nothing.
use Rattle.std.specs.Prelude.{ℕ, ◌≤◌, ◌<◌, ◌≡◌, ◌↔◌, true, List, get_or}
use mathlib.Core.List.{Memᴰ as In}
use Rattle.circuit.specs.declared.Entry.{Entry}
use Rattle.circuit.specs.declared.Choice.TheVariants.{Greedy}
use Rattle.circuit.specs.Run.{turn}
use Rattle.circuit.specs.Source001.{Interesting, InterestSet, Size, SurveyIs001}
use Rattle.circuit.specs.Promise.{GreedyOptionsAre, LeftOption, NotGreedy, AsWithNots}
use Rattle.map.specs.Map.{gate_count, kind_byte, circuit}
use Rattle.map.specs.Check.{verdict}
use Rattle.survey.specs.Survey.{SurveyEffect, survey_effect, SurveyDoes}
use Rattle.tape.specs.Tape.{entry_at, entries}
use Rattle.search.specs.Move.{move_effect}
use Rattle.demands.specs.Before.{moved_with_nots, ran_with_nots, MoveIsAs, RunIsAs}
use Rattle.demands.specs.Demands.{Demand2}
use Rattle.demands.specs.Table.{P1ToP12, ExampleF5}

-- gate g's byte has the 4 (a survey's bytes are at most 7)
abbrev pub HasMark4 : SurveyEffect → ℕ → Type 0
HasMark4 r g = 4 ≤ get_or r.out g 0

-- a NOT gate, by its kind byte
abbrev pub IsNot : List ℕ → ℕ → Type 0
IsNot m g = kind_byte m g ≡ 1

-- What an accepted Survey says of the interest set: mark and size, apart.
--     marks    "though they still get the mark 4": a gate has it exactly if it is in the front or a descendant of a gate of it, whatever its kind
--     set      "Of demand 2's two differences, the one on NOT gates is now in the mark alone": the gates of 001's own set are those that have the mark and are no NOT gates,
--     size     "An interest set's size leaves NOT gates out from now on": and the size is how many these are
pub record MarkAndSize (m s : List ℕ) (r : SurveyEffect) : Type 0 where
  pub marks : (g : ℕ) → g < gate_count m → HasMark4 r g ↔ Interesting (circuit m) s g
  pub set : (g : ℕ) → g < gate_count m → InterestSet (circuit m) s g ↔ (HasMark4 r g × ¬ IsNot m g)
  pub size : Size (λ g. (g < gate_count m) × (HasMark4 r g × ¬ IsNot m g)) r.interest

abbrev pub MarksAndSizes : Type 0
MarksAndSizes = (m s out : List ℕ) → (survey_effect m s out).accepted ≡ true → MarkAndSize m s (survey_effect m s out)

-- "Greedy choices compare the new size.": of the configuration that a greedy entry leaves Survey returns no larger size than of what any option left of the drawn gate would leave.
abbrev pub GreedyCompares : Type 0
GreedyCompares =
    (m s entry work : List ℕ) (i : ℕ) → (entry_at entry 0).choice ≡ Greedy i → (move_effect m s entry work).accepted ≡ true
    → (o : List ℕ) → LeftOption (circuit m) s (move_effect m s entry work).gate o
    → (out : List ℕ) → (survey_effect m (move_effect m s entry work).configuration out).accepted ≡ true → (survey_effect m (turn o s) out).accepted ≡ true
    → (survey_effect m (move_effect m s entry work).configuration out).interest ≤ (survey_effect m (turn o s) out).interest

-- On a map without NOT gates F-5 changed nothing: the size is the number of gates with the mark 4, and accepted moves and runs are those without it.
pub record AsWithNotsOn (m : List ℕ) : Type 0 where
  pub circuits : (s : List ℕ) → AsWithNots (circuit m) s
  pub surveys : (s out : List ℕ) → (survey_effect m s out).accepted ≡ true
      → Size (λ g. (g < gate_count m) × HasMark4 (survey_effect m s out) g) (survey_effect m s out).interest
  pub moves : (s entry work : List ℕ) → MoveIsAs moved_with_nots m s entry work
  pub runs : (s tape work ans : List ℕ) → RunIsAs ran_with_nots m s tape work ans

abbrev pub UnchangedOnMaps : Type 0
UnchangedOnMaps = (m : List ℕ) → verdict m ≡ 0 → ((g : ℕ) → g < gate_count m → ¬ IsNot m g) → AsWithNotsOn m

-- And on any map it changed no move by an entry that isn't greedy, and no run without greedy entries.
pub record UnchangedOnEntries : Type 0 where
  pub moves : (m s entry work : List ℕ) → NotGreedy (entry_at entry 0).choice → MoveIsAs moved_with_nots m s entry work
  pub runs : (m s tape work ans : List ℕ) → ((e : Entry) → In e (entries tape) → NotGreedy e.choice) → RunIsAs ran_with_nots m s tape work ans

-- F-5, sentence by sentence.
--     surveys, apart     "An interest set's size leaves NOT gates out from now on, though they still get the mark 4." The front and its size have NOT gates, and the size of the interest set is 0 exactly where the front's is.
--     compares           "Greedy choices compare the new size.";
--     greedy, sets       among the options left greedy picks from those with the smallest such size, by their order, and it is that of 001's set at every configuration
--     table, example     "P1 to P12 keep their numbers; add one example where the greedy option changes."
--     demand2            "Of demand 2's two differences, the one on NOT gates is now in the mark alone.": its `surveys` and `notions` have it so, and its moves and runs go by these sizes
--     maps, entries      what did not change
pub record Weights : Type 1 where
  pub surveys : SurveyDoes
  pub apart : MarksAndSizes
  pub compares : GreedyCompares
  pub greedy : GreedyOptionsAre
  pub sets : SurveyIs001
  pub table : P1ToP12
  pub example : ExampleF5
  pub demand2 : Demand2
  pub maps : UnchangedOnMaps
  pub entries : UnchangedOnEntries
