-- Document 01's examples P1 to P12 as one table, and F-5's example beside them, on bytes, about the definitions that the contracts cite. antt computes them. Assumes nothing.
use Rattle.std.specs.Prelude.{ℕ, ◌≡◌, true, false, List, [], ◌∷◌, ◌++◌, map, length, take}
use Rattle.circuit.specs.declared.Ending.{Ending}
use Rattle.circuit.specs.declared.Ending.TheVariants.{Found, Spent}
use Rattle.circuit.specs.Tools.{up_to}
use Rattle.circuit.specs.Circuit.{Circuit}
use Rattle.circuit.specs.Evaluate.{row_of}
use Rattle.circuit.specs.Survey.{interest_size}
use Rattle.circuit.specs.Run.{options_left, turn}
use Rattle.circuit.specs.Promise.{config, size_with_nots}
use Rattle.circuit.specs.Bench.{adder, A, B, C, D, circuit_p9, circuit_p10, circuit_p11, circuit_f5}
use Rattle.map.specs.Map.{circuit}
use Rattle.state.specs.State.{mark_effect}
use Rattle.survey.specs.Survey.{SurveyEffect, survey_effect}
use Rattle.search.specs.Move.{MoveEffect, move_effect}
use Rattle.tape.specs.Tape.{entries}
use Rattle.search.specs.Run.{RunEffect, run_answer, run_effect}
use Rattle.line.specs.Text.{found_word, spent_word}
use Rattle.line.specs.Line.{input_of, line_of}
use Rattle.demands.specs.Before.{moved_with_nots, ran_with_nots}

-- ---- the maps

abbrev pub four : ℕ → ℕ → ℕ → ℕ → List ℕ → List ℕ
four a b c d bs = a ∷ b ∷ c ∷ d ∷ bs

-- "Adder map (001, figure 1): gates 0, 1, 2 inputs; 3 XOR(0,1); 4 AND(0,1); 5 AND(2,3); 6 XOR(2,3); 7 OR(4,5); code 7 = 1; 68 bytes": contents, gates,
-- children, code
unfoldable pub adder_bytes : List ℕ
adder_bytes =
    four 12 0 8 0 (four 44 0 10 0 (four 64 0 1 0 (
    four 0 0 0 0 (four 0 0 0 0 (four 0 0 0 0 (four 4 2 0 0 (four 2 2 2 0 (four 2 2 4 0 (four 4 2 6 0 (four 3 2 8 0 (
    four 0 0 1 0 (four 0 0 1 0 (four 2 0 3 0 (four 2 0 3 0 (four 4 0 5 0 (
    four 7 0 1 0 []))))))))))))))))

-- P9's map: "0 input, 1 NOT(0), 2 AND(0,1), code 2 = 1"
unfoldable pub map_p9 : List ℕ
map_p9 =
    four 12 0 3 0 (four 24 0 3 0 (four 30 0 1 0 (
    four 0 0 0 0 (four 1 1 0 0 (four 2 2 1 0 (
    four 0 0 0 0 (1 ∷ 0 ∷ (
    four 2 0 1 0 []))))))))

-- P10's map: "one input, no code"
unfoldable pub map_p10 : List ℕ
map_p10 = four 12 0 1 0 (four 16 0 0 0 (four 16 0 0 0 (four 0 0 0 0 [])))

-- P11's map: "0, 1 inputs, 2 NOT(0), 3 AND(0,2), 4 OR(1,3), code 4 = 1"
unfoldable pub map_p11 : List ℕ
map_p11 =
    four 12 0 5 0 (four 32 0 5 0 (four 42 0 1 0 (
    four 0 0 0 0 (four 0 0 0 0 (four 1 1 0 0 (four 2 2 1 0 (four 3 2 3 0 (
    four 0 0 0 0 (four 2 0 1 0 (3 ∷ 0 ∷ (
    four 4 0 1 0 [])))))))))))

-- F-5's map: 0, 1, 2 inputs; 3 AND(0,1); 4 NOT(2); 5 NOT(4); 6 NOT(5); 7 OR(3,6); code 7 = 1
unfoldable pub map_f5 : List ℕ
map_f5 =
    four 12 0 8 0 (four 44 0 7 0 (four 58 0 1 0 (
    four 0 0 0 0 (four 0 0 0 0 (four 0 0 0 0 (four 2 2 0 0 (four 1 1 2 0 (four 1 1 3 0 (four 1 1 4 0 (four 3 2 5 0 (
    four 0 0 1 0 (four 2 0 4 0 (four 5 0 3 0 (6 ∷ 0 ∷ (
    four 7 0 1 0 [])))))))))))))))

-- two circuits of n gates that are the same, gate by gate
pub record SameCircuit (n : ℕ) (c d : Circuit) : Type 0 where
  pub gates : c.gates ≡ d.gates
  pub kinds : map c.kind (up_to n) ≡ map d.kind (up_to n)
  pub kids : map c.kids (up_to n) ≡ map d.kids (up_to n)
  pub codes : map c.code (up_to n) ≡ map d.code (up_to n)

-- ---- entries and memories

-- entries with draw 0: greedy, down and up with an option
abbrev pub greedy : ℕ → List ℕ
greedy i = four 0 0 0 i []

abbrev pub down : ℕ → List ℕ
down i = four 0 0 1 i []

abbrev pub up : ℕ → List ℕ
up i = four 0 0 2 i []

-- work and answer memory for the adder map and F-5's, for three gates and for five, all 170
abbrev pub memory8 : List ℕ
memory8 = four 170 170 170 170 (four 170 170 170 170 [])

abbrev pub memory3 : List ℕ
memory3 = take 3 memory8

abbrev pub memory5 : List ℕ
memory5 = take 5 memory8

-- ---- answers

-- a survey with these sizes and bytes
abbrev pub survey_gave : ℕ → ℕ → List ℕ → SurveyEffect
survey_gave f i w = record { accepted = true; number = 0; front = f; interest = i; out = w }

-- a move that drew g and turned n values, with the two memories
abbrev pub move_gave : ℕ → ℕ → List ℕ → List ℕ → MoveEffect
move_gave g n s w = record { accepted = true; number = 0; gate = g; turned = n; configuration = s; work = w }

-- the whole outcome of a run: ending, moves and flips, and the configuration, work memory and answer memory after it
abbrev pub run_gave : Ending → ℕ → ℕ → List ℕ → List ℕ → List ℕ → RunEffect
run_gave e moves flips s work ans = run_answer (record { ending = e; moves = moves; flips = flips }) s work ans

-- "Row is the answer's input values in gate order"
abbrev pub row_after : List ℕ → RunEffect → List ℕ
row_after m r = row_of (circuit m) r.answer

-- "Values stand in gate order; every draw is 0; "down 3" is kind down with option 3, and an option not given is 0. Proved examples are P1 to P12."
pub record P1ToP12 : Type 0 where
  -- "Adder map (001, figure 1): gates 0, 1, 2 inputs; 3 XOR(0,1); 4 AND(0,1); 5 AND(2,3); 6 XOR(2,3); 7 OR(4,5); code 7 = 1; 68 bytes."
  pub adder_is : SameCircuit 8 (circuit adder_bytes) adder
  pub adder_length : length adder_bytes ≡ 68
  -- "P1 A = 0 0 1 1 0 1 0 1: survey 4 4 1 7 0 1 0 1, front 1, interest 3."
  pub a_is : A ≡ four 0 0 1 1 (four 0 1 0 1 [])
  pub P1 : survey_effect adder_bytes A memory8 ≡ survey_gave 1 3 (four 4 4 1 7 (four 0 1 0 1 []))
  -- "P2 B = 1 1 1 1 1 0 0 1: survey 1 1 0 0 1 0 0 1, front 0, interest 0."
  pub b_is : B ≡ four 1 1 1 1 (four 1 0 0 1 [])
  pub P2 : survey_effect adder_bytes B memory8 ≡ survey_gave 0 0 (four 1 1 0 0 (four 1 0 0 1 []))
  -- "P3 A, down 0: Found, 1 move, 1 flip, row 1 0 1."
  pub P3 : run_effect adder_bytes A (down 0) memory8 memory8
      ≡ run_gave Found 1 1 (four 1 0 1 1 (four 0 1 0 1 [])) (four 1 1 1 1 (four 0 1 0 1 [])) (four 1 0 1 1 (four 0 1 0 1 []))
  -- "Case P3 gives it 86 bytes and prints `FOUND 1 1 101` and a line end.": the program
  pub p3_bytes : length (input_of adder_bytes A (down 0)) ≡ 86
  pub p3_line : line_of (input_of adder_bytes A (down 0)) ≡ found_word ++ (49 ∷ 32 ∷ 49 ∷ 32 ∷ 49 ∷ 48 ∷ 49 ∷ 10 ∷ [])
  pub p3_word : found_word ≡ 70 ∷ 79 ∷ 85 ∷ 78 ∷ 68 ∷ 32 ∷ []
  pub p3_row : row_after adder_bytes (run_effect adder_bytes A (down 0) memory8 memory8) ≡ 1 ∷ 0 ∷ 1 ∷ []
  -- "P4 A, down 3: as option 1, row 0 1 1."
  pub P4 : run_effect adder_bytes A (down 3) memory8 memory8
      ≡ run_gave Found 1 1 (four 0 1 1 1 (four 0 1 0 1 [])) (four 1 1 1 1 (four 0 1 0 1 [])) (four 0 1 1 1 (four 0 1 0 1 []))
  pub p4_option : run_effect adder_bytes A (down 3) memory8 memory8 ≡ run_effect adder_bytes A (down 1) memory8 memory8
  pub p4_row : row_after adder_bytes (run_effect adder_bytes A (down 3) memory8 memory8) ≡ 0 ∷ 1 ∷ 1 ∷ []
  -- "P5 A, up: 0 0 1 0 0 1 0 1, survey 4 4 4 4 0 7 0 1, Spent, front 1." The answer memory stands.
  pub P5 : run_effect adder_bytes A (up 0) memory8 memory8
      ≡ run_gave (Spent 1) 1 1 (four 0 0 1 0 (four 0 1 0 1 [])) (four 4 4 4 4 (four 0 7 0 1 [])) memory8
  -- "P6 C = 0 0 1 0 0 0 0 1, greedy: turns gate 4 (interest 3; gate 5 would give 5)."
  pub c_is : C ≡ four 0 0 1 0 (four 0 0 0 1 [])
  pub P6 : run_effect adder_bytes C (greedy 0) memory8 memory8
      ≡ run_gave (Spent 1) 1 1 (four 0 0 1 0 (four 1 0 0 1 [])) (four 4 4 0 0 (four 7 0 0 1 [])) memory8
  pub p6_drawn : move_effect adder_bytes C (greedy 0) memory8 ≡ move_gave 7 1 (four 0 0 1 0 (four 1 0 0 1 [])) (four 4 4 0 0 (four 7 0 0 1 []))
  pub p6_interest : (interest_size (circuit adder_bytes) (turn (4 ∷ []) C) ≡ 3) × (interest_size (circuit adder_bytes) (turn (5 ∷ []) C) ≡ 5)
  -- "P7 C, up, option 1: gate 7 is coded, so gate 5 turns."
  pub P7 : run_effect adder_bytes C (up 1) memory8 memory8
      ≡ run_gave (Spent 1) 1 1 (four 0 0 1 0 (four 0 1 0 1 [])) (four 4 4 4 4 (four 0 7 0 1 [])) memory8
  pub p7_drawn : move_effect adder_bytes C (up 1) memory8 ≡ move_gave 7 1 (four 0 0 1 0 (four 0 1 0 1 [])) (four 4 4 4 4 (four 0 7 0 1 []))
  -- "P8 B, empty tape: Found, 0 moves, answer 1 1 0 0 1 0 0 1."
  pub P8 : run_effect adder_bytes B [] memory8 memory8 ≡ run_gave Found 0 0 B (four 1 1 0 0 (four 1 0 0 1 [])) (four 1 1 0 0 (four 1 0 0 1 []))
  -- "P9 0 input, 1 NOT(0), 2 AND(0,1), code 2 = 1, start 0 0 1, two downs: 1 1 1, then 0 1 1; Spent, 3 flips, front 1."
  pub p9_is : SameCircuit 3 (circuit map_p9) circuit_p9
  pub p9_then : config (circuit map_p9) (0 ∷ 0 ∷ 1 ∷ []) (entries (down 0 ++ down 0)) 1 ≡ 1 ∷ 1 ∷ 1 ∷ []
  pub P9 : run_effect map_p9 (0 ∷ 0 ∷ 1 ∷ []) (down 0 ++ down 0) memory3 memory3 ≡ run_gave (Spent 1) 2 3 (0 ∷ 1 ∷ 1 ∷ []) (4 ∷ 4 ∷ 7 ∷ []) memory3
  -- the line of these, in which moves, flips and front differ
  pub p9_line : line_of (input_of map_p9 (0 ∷ 0 ∷ 1 ∷ []) (down 0 ++ down 0)) ≡ spent_word ++ (50 ∷ 32 ∷ 51 ∷ 32 ∷ 49 ∷ 10 ∷ [])
  pub p9_word : spent_word ≡ 83 ∷ 80 ∷ 69 ∷ 78 ∷ 84 ∷ 32 ∷ []
  -- "P10 one input, no code, start 1, empty tape: Found, 0 moves, answer 0."
  pub p10_is : SameCircuit 1 (circuit map_p10) circuit_p10
  pub P10 : run_effect map_p10 (1 ∷ []) [] (170 ∷ []) (170 ∷ []) ≡ run_gave Found 0 0 (1 ∷ []) (0 ∷ []) (0 ∷ [])
  -- "P11 0, 1 inputs, 2 NOT(0), 3 AND(0,2), 4 OR(1,3), code 4 = 1, start 0 0 1 1 1, up then down 0: Found, 2 moves, 2 flips, row 0 1."
  pub p11_is : SameCircuit 5 (circuit map_p11) circuit_p11
  pub P11 : run_effect map_p11 (0 ∷ four 0 1 1 1 []) (up 0 ++ down 0) memory5 memory5
      ≡ run_gave Found 2 2 (0 ∷ four 1 1 0 1 []) (0 ∷ four 1 0 0 1 []) (0 ∷ four 1 1 0 1 [])
  pub p11_row : row_after map_p11 (run_effect map_p11 (0 ∷ four 0 1 1 1 []) (up 0 ++ down 0) memory5 memory5) ≡ 0 ∷ 1 ∷ []
  -- "P12 Mark of A: no."
  pub P12 : mark_effect adder_bytes A ≡ record { accepted = true; number = 0; yes = false }

-- F-5: "add one example where the greedy option changes": from D = 0 0 1 0 0 1 0 1 an entry draws gate 7, whose options turn gate 3 and gate 6. Turned, gate 3 is an
-- unjustified AND over two inputs, and gate 6 an unjustified NOT over two more and an input.
pub record ExampleF5 : Type 0 where
  pub map_is : SameCircuit 8 (circuit map_f5) circuit_f5
  pub d_is : D ≡ four 0 0 1 0 (four 0 1 0 1 [])
  pub options : options_left (circuit map_f5) D 7 ≡ (3 ∷ []) ∷ (6 ∷ []) ∷ []
  -- the sizes compared are 3 and 1, and without F-5 3 and 4
  pub sizes : (interest_size (circuit map_f5) (turn (3 ∷ []) D) ≡ 3) × (interest_size (circuit map_f5) (turn (6 ∷ []) D) ≡ 1)
  pub sizes_before : (size_with_nots (circuit map_f5) (turn (3 ∷ []) D) ≡ 3) × (size_with_nots (circuit map_f5) (turn (6 ∷ []) D) ≡ 4)
  -- so gate 6 turns, and without F-5 gate 3
  pub moved : move_effect map_f5 D (greedy 0) memory8 ≡ move_gave 7 1 (four 0 0 1 0 (four 0 1 1 1 [])) (four 0 0 4 0 (four 4 4 7 1 []))
  pub moved_before : moved_with_nots map_f5 D (greedy 0) memory8 ≡ move_gave 7 1 (four 0 0 1 1 (four 0 1 0 1 [])) (four 4 4 0 7 (four 0 0 0 1 []))
  pub ran : run_effect map_f5 D (greedy 0) memory8 memory8 ≡ run_gave (Spent 1) 1 1 (four 0 0 1 0 (four 0 1 1 1 [])) (four 0 0 4 0 (four 4 4 7 1 [])) memory8
  pub ran_before : ran_with_nots map_f5 D (greedy 0) memory8 memory8 ≡ run_gave (Spent 1) 1 1 (four 0 0 1 1 (four 0 1 0 1 [])) (four 4 4 0 7 (four 0 0 0 1 [])) memory8
  -- Survey of both: gate 6 alone in the front, with three NOT gates that have the mark 4, and the size that of input 2; and gate 3 alone
  pub surveyed : survey_effect map_f5 (four 0 0 1 0 (four 0 1 1 1 [])) memory8 ≡ survey_gave 1 1 (four 0 0 4 0 (four 4 4 7 1 []))
  pub surveyed_before : survey_effect map_f5 (four 0 0 1 1 (four 0 1 0 1 [])) memory8 ≡ survey_gave 1 3 (four 4 4 0 7 (four 0 0 0 1 []))
