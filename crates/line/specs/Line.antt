-- Document 01's program: from the bytes of standard input to the line that it prints. What it means is proved in `demands`. Assumes nothing.
use Rattle.std.specs.Prelude.{ℕ, ◌+◌, ◌-◌, ◌/◌, ◌%◌, ◌<◌, ◌≤◌, ◌≡◌, ◌⊎◌, Bool, true, false, cond, List, ◌∷◌, ◌++◌, map, length, take, drop, replicate, eqb, leb}
use Rattle.folds.specs.Folds.{◌and◌}
use Rattle.circuit.specs.Tools.{over}
use Rattle.circuit.specs.Evaluate.{row_of}
use Rattle.circuit.specs.Run.{EndingValues}
use Rattle.map.specs.Map.{most_gates, u16_at, circuit}
use Rattle.search.specs.Run.{RunEffect, ending_values, run_effect, Room}
use Rattle.text.specs.Text.{AreBytes, blank, line_end, in_decimal}
use Rattle.line.specs.Text.{found_word, spent_word, stuck_word, refused_word, digit}

-- the bytes from place a on, up to before place b
abbrev pub between : ℕ → ℕ → List ℕ → List ℕ
between a b x = take (b - a) (drop a x)

-- "The program reads three u16 lengths (map, configuration, tape) and the three bodies from standard input": where the configuration and the tape begin,
-- and the bytes of each
abbrev pub configuration_place : List ℕ → ℕ
configuration_place x = 6 + u16_at x 0

abbrev pub tape_place : List ℕ → ℕ
tape_place x = 6 + u16_at x 0 + u16_at x 2

abbrev pub map_part : List ℕ → List ℕ
map_part x = between 6 (configuration_place x) x

abbrev pub configuration_part : List ℕ → List ℕ
configuration_part x = between (configuration_place x) (tape_place x) x

abbrev pub tape_part : List ℕ → List ℕ
tape_part x = between (tape_place x) (length x) x

-- the longest input, in bytes
abbrev pub most_input : ℕ
most_input = 65536

-- "the number is 0 if the input passes 65,536 bytes or isn't exactly the 6 bytes and the three lengths together": true where neither is so
unfoldable pub input_test : List ℕ → Bool
input_test x = leb (length x) most_input and eqb (length x) (tape_place x + u16_at x 4)

-- the work and the answer memory that the program lends Run: 1,024 bytes each, enough for every map, all 0; any others that
-- number 14 lets through would do (`SameForAllMemories` in demands/specs/Demands.antt, and `SameLineForAllMemories` below)
unfoldable pub lent : List ℕ
lent = replicate most_gates 0

-- "Row is the answer's input values in gate order, one digit each."
abbrev pub row_text : List ℕ → List ℕ → List ℕ
row_text m ans = map digit (row_of (circuit m) ans)

-- the word, and "moves flips"
abbrev pub counts_text : List ℕ → ℕ → ℕ → List ℕ
counts_text word moves flips = word ++ (in_decimal moves ++ (blank ++ in_decimal flips))

-- "prints a line: `FOUND moves flips row`, `SPENT moves flips front` or `REFUSED number`"
abbrev pub found_line : ℕ → ℕ → List ℕ → List ℕ → List ℕ
found_line moves flips m ans = counts_text found_word moves flips ++ (blank ++ (row_text m ans ++ line_end))

abbrev pub spent_line : ℕ → ℕ → ℕ → List ℕ
spent_line moves flips front = counts_text spent_word moves flips ++ (blank ++ (in_decimal front ++ line_end))

-- F-1: "the program prints `STUCK moves flips`"
abbrev pub stuck_line : ℕ → ℕ → List ℕ
stuck_line moves flips = counts_text stuck_word moves flips ++ line_end

abbrev pub refused_line : ℕ → List ℕ
refused_line number = refused_word ++ (in_decimal number ++ line_end)

-- by what an ending tells, with moves, flips and the answer memory after the run
abbrev pub report : EndingValues → ℕ → ℕ → List ℕ → List ℕ → List ℕ
report e moves flips m ans =
    cond e.accepted
    (cond e.found (found_line moves flips m ans) (cond e.stuck (stuck_line moves flips) (spent_line moves flips e.front)))
    (refused_line e.number)

-- the line of a run's effect
abbrev pub effect_line : List ℕ → RunEffect → List ℕ
effect_line m r = report (ending_values r) r.moves r.flips m r.answer

-- the line of the run on these three bodies
abbrev pub run_line : List ℕ → List ℕ → List ℕ → List ℕ
run_line m s tape = effect_line m (run_effect m s tape lent lent)

-- the line that the program prints for an input
unfoldable pub line_of : List ℕ → List ℕ
line_of x = cond (input_test x) (run_line (map_part x) (configuration_part x) (tape_part x)) (refused_line 0)

-- ---- what the line says

-- standard input with these three bodies: "three u16 lengths (map, configuration, tape) and the three bodies"
abbrev pub input_of : List ℕ → List ℕ → List ℕ → List ℕ
input_of m s tape = length m % 256 ∷ length m / 256 ∷ length s % 256 ∷ length s / 256 ∷ length tape % 256 ∷ length tape / 256 ∷ (m ++ (s ++ tape))

-- The line of the run r on three bodies, by its ending, byte for byte: "`FOUND moves flips row`, `SPENT moves flips front` or `REFUSED number`", and, by F-1, `STUCK moves flips`
pub record LineIs (m s tape : List ℕ) (r : RunEffect) : Type 0 where
  pub found : r.found ≡ true
      → run_line m s tape ≡ found_word ++ (in_decimal r.moves ++ (blank ++ (in_decimal r.flips ++ (blank ++ (row_text m r.answer ++ line_end)))))
  pub spent : r.accepted ≡ true → r.found ≡ false → r.stuck ≡ false
      → run_line m s tape ≡ spent_word ++ (in_decimal r.moves ++ (blank ++ (in_decimal r.flips ++ (blank ++ (in_decimal r.front ++ line_end)))))
  pub stuck : r.stuck ≡ true → run_line m s tape ≡ stuck_word ++ (in_decimal r.moves ++ (blank ++ (in_decimal r.flips ++ line_end)))
  pub refused : r.accepted ≡ false → run_line m s tape ≡ refused_word ++ (in_decimal r.number ++ line_end)

abbrev pub LinesAre : Type 0
LinesAre = (m s tape : List ℕ) → LineIs m s tape (run_effect m s tape lent lent)

-- An input of exactly these bodies, at most 65,536 bytes in all, gives the line of the run on them.
abbrev pub ExactInput : Type 0
ExactInput = (m s tape : List ℕ) → 6 + length m + length s + length tape ≤ most_input → line_of (input_of m s tape) ≡ run_line m s tape

-- Any work and answer memory that number 14 lets through would give the same line.
abbrev pub SameLineForAllMemories : Type 0
SameLineForAllMemories = (m s tape work ans : List ℕ) → Room m work ans → effect_line m (run_effect m s tape work ans) ≡ run_line m s tape

-- An input is exactly three bodies, and has the line of the run on them, or it is refused: "the number is 0 if the input passes 65,536 bytes or isn't exactly the 6 bytes and
-- the three lengths together".
pub data InputIs (x : List ℕ) : Type 0 where
  three_bodies : (m s tape : List ℕ) → x ≡ input_of m s tape → length x ≤ most_input → line_of x ≡ run_line m s tape → InputIs x
  refused_0 : (most_input < length x) ⊎ (¬ (length x ≡ 6 + u16_at x 0 + u16_at x 2 + u16_at x 4)) → line_of x ≡ refused_line 0 → InputIs x

abbrev pub EveryInput : Type 0
EveryInput = (x : List ℕ) → AreBytes x → InputIs x

-- what the program reads at most: a byte more, so that a longer input shows
abbrev pub input_room : ℕ
input_room = most_input + 1

-- The line for the bytes read is the line for the whole input.
abbrev pub CutInput : Type 0
CutInput = (x : List ℕ) → line_of (take input_room x) ≡ line_of x

-- `text` is the line for all of standard input where `read` is what memory of `room` bytes took of it
abbrev pub LineOfAll : ℕ → List ℕ → List ℕ → Type 0
LineOfAll room read text = (x : List ℕ) → read ≡ take room x → text ≡ line_of x

-- memory that holds every line
abbrev pub line_room : ℕ
line_room = 1100

-- The line of every input fits there.
abbrev pub LineFits : Type 0
LineFits = (x : List ℕ) → length (line_of x) ≤ line_room

-- ---- the call

-- how long the line is, and the output memory after the call
pub record LineEffect : Type 0 where
  pub size : ℕ
  pub out : List ℕ

abbrev pub line_answer : ℕ → List ℕ → LineEffect
line_answer n w = record { size = n; out = w }

-- the line stands in the first bytes of the memory and the surplus is untouched; where memory is shorter than `line_room` nothing is written, and the size is 0
unfoldable pub line_effect : List ℕ → List ℕ → LineEffect
line_effect x out = cond (leb line_room (length out)) (line_answer (length (line_of x)) (over (line_of x) out)) (line_answer 0 out)
