-- Document 01, 'Options and moves' and 'Run', with requests F-1 and F-5 of document 02. Assumes nothing.
use Rattle.std.specs.Prelude.{ℕ, suc, ◌+◌, Bool, true, false, cond, not, List, [], ◌∷◌, length, set, leb}
use Rattle.folds.specs.Folds.{◌and◌}
use Rattle.circuit.specs.declared.Choice.{Choice}
use Rattle.circuit.specs.declared.Choice.TheVariants.{Greedy, Down, Up}
use Rattle.circuit.specs.declared.Entry.{Entry}
use Rattle.circuit.specs.declared.Ending.{Ending}
use Rattle.circuit.specs.declared.Ending.TheVariants.{Found, Spent, Stuck, Refused}
use Rattle.circuit.specs.declared.Outcome.{Outcome}
use Rattle.circuit.specs.Refusal.{number_of}
use Rattle.circuit.specs.Tools.{byte, select, holds_of_all, is_empty, pick}
use Rattle.circuit.specs.Gate.{options}
use Rattle.circuit.specs.Circuit.{Circuit, coded, on}
use Rattle.circuit.specs.Evaluate.{values}
use Rattle.circuit.specs.Survey.{cone, front, front_size, interest_size}

-- ---- Options and moves

-- "A tape entry is 4 bytes: draw (u16), kind (0 greedy, 1 down, 2 up), option.": `Entry` has its draw and its choice, which is kind and option.

-- "The front is listed by rising gate number; the gate drawn stands at place draw modulo front size, counted from 0."
unfoldable pub drawn : Circuit → List ℕ → ℕ → ℕ
drawn c s draw = pick (front c s) draw 0

-- "Its down options, numbered from 0"
unfoldable pub down_options : Circuit → List ℕ → ℕ → List (List ℕ)
down_options c s g = options (c.kind g) (on s g) (on s) (c.kids g)

-- F-1: "A down option counts only if it turns no coded gate; numbering and modulo run over those left.": the options left, in their order
abbrev pub turns_no_coded : Circuit → List ℕ → Bool
turns_no_coded c o = holds_of_all (λ x. not (coded c x)) o

unfoldable pub options_left : Circuit → List ℕ → ℕ → List (List ℕ)
options_left c s g = select (turns_no_coded c) (down_options c s g)

-- the configuration s with the gates of a list turned
abbrev pub turn : List ℕ → List ℕ → List ℕ
turn [] s = s
turn (x ∷ xs) s = turn xs (set s x (byte (not (on s x))))

-- the options of the smallest weight, in their order
abbrev pub lightest : (List ℕ → ℕ) → List (List ℕ) → List (List ℕ)
lightest weight os = select (λ o. holds_of_all (λ p. leb (weight o) (weight p)) os) os

-- "the options with the smallest interest set after the move, in rising order". F-5: "Greedy choices compare the new size."
unfoldable pub greedy_options : Circuit → List ℕ → List (List ℕ) → List (List ℕ)
greedy_options c s os = lightest (λ o. interest_size c (turn o s)) os

-- What a choice does where a gate is drawn: it turns the gates of an option, it turns the gate itself, or it is stuck.
pub data Chosen : Type 0 where
  option : List ℕ → Chosen
  itself stuck : Chosen

-- F-1: "If none is left and the drawn gate is uncoded, the gate itself is turned, whatever the kind. If none is left and it is coded, the run or move ends Stuck"
abbrev pub none_left : Circuit → ℕ → Chosen
none_left c g = cond (coded c g) stuck itself

-- the option at place i modulo their number, if there is one
abbrev pub one_of : Circuit → ℕ → List (List ℕ) → ℕ → Chosen
one_of c g [] i = none_left c g
one_of c g (o ∷ os) i = option (pick (o ∷ os) i [])

-- What a choice does where gate g is drawn; the options are those left.
--     Greedy    "of the options with the smallest interest set after the move, in rising order, the one at option modulo their number"
--     Down      "option modulo the number of options"
--     Up        "turn the drawn gate itself, option byte unread. On a coded gate, up acts as down."
unfoldable pub chosen : Circuit → List ℕ → ℕ → Choice → Chosen
chosen c s g (Greedy i) = one_of c g (greedy_options c s (options_left c s g)) i
chosen c s g (Down i) = one_of c g (options_left c s g) i
chosen c s g (Up i) = cond (coded c g) (one_of c g (options_left c s g) i) itself

-- the gates that are turned where gate g is drawn: none where it is stuck
abbrev pub turned_by : ℕ → Chosen → List ℕ
turned_by g (option o) = o
turned_by g itself = g ∷ []
turned_by g stuck = []

abbrev pub is_stuck : Chosen → Bool
is_stuck (option o) = false
is_stuck itself = false
is_stuck stuck = true

-- what an entry does, and the gates that it turns
unfoldable pub entry_chosen : Circuit → List ℕ → Entry → Chosen
entry_chosen c s e = chosen c s (drawn c s e.draw) e.choice

unfoldable pub entry_turns : Circuit → List ℕ → Entry → List ℕ
entry_turns c s e = turned_by (drawn c s e.draw) (entry_chosen c s e)

-- "Move does one entry and returns the drawn gate and how many values it turned (1 to 8). The lent configuration is then the new one". F-1: where it is stuck, "with
-- that entry undone .. Move then returns the drawn gate and 0 turned"
pub record MoveResult : Type 0 where
  pub gate : ℕ
  pub flips : ℕ
  pub next : List ℕ

abbrev pub move : Circuit → List ℕ → Entry → MoveResult
move c s e = record { gate = drawn c s e.draw; flips = length (entry_turns c s e); next = turn (entry_turns c s e) s }

-- ---- Run

-- "If an answer is an enum, a definition states this paper's number and values for each of the enum's cases.": of an ending whether the call is accepted, the number
-- that refuses it, whether it is Found, whether it is Stuck, and the front's size, which "Spent also carries"
pub record EndingValues : Type 0 where
  pub accepted : Bool
  pub number : ℕ
  pub found : Bool
  pub stuck : Bool
  pub front : ℕ

abbrev pub told : Ending → EndingValues
told Found = record { accepted = true; number = 0; found = true; stuck = false; front = 0 }
told (Spent f) = record { accepted = true; number = 0; found = false; stuck = false; front = f }
told Stuck = record { accepted = true; number = 0; found = false; stuck = true; front = 0 }
told (Refused r) = record { accepted = false; number = number_of r; found = false; stuck = false; front = 0 }

-- "A run's answer is one record: its ending, its moves and its flips", here beside the last configuration
pub record RunResult : Type 0 where
  pub outcome : Outcome
  pub last : List ℕ

abbrev pub ends_found : RunResult → Bool
ends_found r = (told r.outcome.ending).found

-- a run that ends at s without an entry done
abbrev pub stop : Ending → List ℕ → RunResult
stop e s = record { outcome = record { ending = e; moves = 0; flips = 0 }; last = s }

-- "Moves is the number of entries done, flips the sum of values turned.": a run whose first entry turned k values and which goes on as r
abbrev pub after : ℕ → RunResult → RunResult
after k r = record {
  outcome = record { ending = r.outcome.ending; moves = suc r.outcome.moves; flips = k + r.outcome.flips };
  last = r.last;
}

-- "Run repeats: survey; if the front is empty, end Found; if the tape is used up, end Spent; else do the next entry." "Spent also carries the
-- front's size." F-1: "the run .. ends Stuck, with that entry undone and uncounted". (Refused is not an ending of a run on a circuit: calls that are refused
-- run nothing. `elim` stands where `cond` would have antt compute a move that is not made.)
unfoldable pub run : Circuit → List ℕ → List Entry → RunResult
run c s [] = cond (is_empty (front c s)) (stop Found s) (stop (Spent (front_size c s)) s)
run c s (e ∷ es) = elim (is_empty (front c s)) [
  | true ↦ stop Found s
  | false ↦ elim (is_stuck (entry_chosen c s e)) [
    | true ↦ stop Stuck s
    | false ↦ after (move c s e).flips (run c (move c s e).next es)
  ]
]

-- "Found writes the answer memory: inputs in the cone keep their values, all other inputs are 0, other gates are evaluated."
unfoldable pub answer : Circuit → List ℕ → List ℕ
answer c s = values c (λ g. cone c s g and on s g) c.gates
