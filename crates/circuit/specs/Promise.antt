-- Demands 2 and 3 of document 00 and requests F-1, F-3 and F-5 of document 02 as lemmas about circuits; proofs/Moves.antt, proofs/Trace.antt, proofs/Finish.antt and proofs/Unchanged.antt prove
-- them. The demands themselves speak of Run on bytes. Assumes nothing.
use Rattle.std.specs.Prelude.{ℕ, zero, suc, ◌+◌, ◌≤◌, ◌<◌, ◌%◌, ◌≡◌, ◌⊎◌, ◌↔◌, Bool, true, false, cond, length, get_or}
use mathlib.Core.List.{List, [], ◌∷◌, map, Memᴰ as In, Sublistᴰ as InOrder}
use Rattle.circuit.specs.declared.Choice.{Choice}
use Rattle.circuit.specs.declared.Choice.TheVariants.{Greedy, Down, Up}
use Rattle.circuit.specs.declared.Ending.TheVariants.{Found, Spent, Stuck}
use Rattle.circuit.specs.declared.Kind.TheVariants.{Not}
use Rattle.circuit.specs.Gate.{is_input}
use Rattle.circuit.specs.Tools.{is_empty, pick}
use Rattle.circuit.specs.Circuit.{Circuit, coded, gates_in, WellFormed, Configuration, on, justified}
use Rattle.circuit.specs.Evaluate.{Obeys, Satisfying, Satisfiable, KeepsCodes, differ}
use Rattle.circuit.specs.Survey.{front, interesting, front_size, interest_size}
use Rattle.circuit.specs.declared.Entry.{Entry}
use Rattle.circuit.specs.Run.{drawn, down_options, options_left, turn, lightest, greedy_options, Chosen, option, itself, stuck, one_of, turned_by, is_stuck, entry_chosen, entry_turns, move, EndingValues, told, RunResult, ends_found, stop, after, run, answer}
use Rattle.circuit.specs.Source001.{OptionOf, Cone, Front, NoFront, TurnsExactly, Size, SmallestIs, Functions, JustifiedIs001, RelevantIs001, DownOptionsAre001, DownOptionsInOrder, PairsAreSet, OptionsJustify, InputsInOrder, DifferIs, SurveyIs001}

-- ---- one move

-- o stands in a list of options at place i modulo their number
abbrev pub StandsAt : List (List ℕ) → ℕ → List ℕ → Type 0
StandsAt os i o = o ≡ get_or os (i % length os) []

-- xs are the options of os of which P holds, in the order in which they stand there (where none stands twice, as among down options, there is one such list)
pub record PickedFrom (os : List (List ℕ)) (P : List ℕ → Type 0) (xs : List (List ℕ)) : Type 0 where
  pub has : (o : List ℕ) → In o xs ↔ (In o os × P o)
  pub in_order : InOrder xs os

-- Greedy picks from "the options with the smallest interest set after the move, in rising order". F-5: "Greedy choices compare the new size.", that of 001's set (`SurveyIs001`).
abbrev pub GreedyOptionsAre : Type 0
GreedyOptionsAre =
    (c : Circuit) (s : List ℕ) (os : List (List ℕ))
    → PickedFrom os (λ o. (p : List ℕ) → In p os → interest_size c (turn o s) ≤ interest_size c (turn p s)) (greedy_options c s os)

-- F-1: "A down option counts only if it turns no coded gate"
abbrev pub TurnsNoCoded : Circuit → List ℕ → Type 0
TurnsNoCoded c o = (x : ℕ) → In x o → coded c x ≡ false

-- The options left are exactly the down options of which that is so, in their order.
abbrev pub OptionsLeftAre : Type 0
OptionsLeftAre = (c : Circuit) (s : List ℕ) (g : ℕ) → PickedFrom (down_options c s g) (TurnsNoCoded c) (options_left c s g)

-- the gates o are an option of gate g that is left: one in 001's words, that turns no coded gate
pub record LeftOption (c : Circuit) (s : List ℕ) (g : ℕ) (o : List ℕ) : Type 0 where
  pub is_option : OptionOf c s g o
  pub uncoded : TurnsNoCoded c o

-- gate g has none left: each of its options turns a coded gate
abbrev pub NoneLeft : Circuit → List ℕ → ℕ → Type 0
NoneLeft c s g = (o : List ℕ) → OptionOf c s g o → (x : ℕ) × In x o × (coded c x ≡ true)

-- the gates o that down with option i turns where gate g is drawn: "numbering and modulo run over those left"
pub record DownTurns (c : Circuit) (s : List ℕ) (g i : ℕ) (o : List ℕ) : Type 0 where
  pub left : LeftOption c s g o
  pub option_place : StandsAt (options_left c s g) i o

-- the gates o that greedy with option i turns: F-5 has the size without NOT gates
pub record GreedyTurns (c : Circuit) (s : List ℕ) (g i : ℕ) (o : List ℕ) : Type 0 where
  pub left : LeftOption c s g o
  pub smallest : (p : List ℕ) → LeftOption c s g p → interest_size c (turn o s) ≤ interest_size c (turn p s)
  pub option_place : StandsAt (greedy_options c s (options_left c s g)) i o

-- the option o that a choice turns where gate g is drawn. "On a coded gate, up acts as down."
abbrev pub OptionTurned : Circuit → List ℕ → ℕ → Choice → List ℕ → Type 0
OptionTurned c s g (Greedy i) o = GreedyTurns c s g i o
OptionTurned c s g (Down i) o = DownTurns c s g i o
OptionTurned c s g (Up i) o = (coded c g ≡ true) × DownTurns c s g i o

abbrev pub IsUp : Choice → Type 0
IsUp (Greedy i) = ⊥
IsUp (Down i) = ⊥
IsUp (Up i) = Unit {0}

-- What a choice does where gate g is drawn, case by case, and the gates xs that it turns.
--     option    one of those left, by its place, whole
--     itself    up on an uncoded gate, and "If none is left and the drawn gate is uncoded, the gate itself is turned, whatever the kind."
--     stuck     "If none is left and it is coded": nothing is turned
abbrev pub ChoiceDoes : Circuit → List ℕ → ℕ → Choice → Chosen → List ℕ → Type 0
ChoiceDoes c s g h (option o) xs = (xs ≡ o) × OptionTurned c s g h o
ChoiceDoes c s g h itself xs = (xs ≡ g ∷ []) × ((coded c g ≡ false) × (IsUp h ⊎ NoneLeft c s g))
ChoiceDoes c s g h stuck xs = (xs ≡ []) × ((coded c g ≡ true) × NoneLeft c s g)

-- An entry is stuck where the gate that it draws is coded and each of its options turns a coded gate.
pub record StuckAt (c : Circuit) (s : List ℕ) (e : Entry) : Type 0 where
  pub is_in_front : Front c s (move c s e).gate
  pub is_coded : coded c (move c s e).gate ≡ true
  pub none_left : NoneLeft c s (move c s e).gate

-- What an entry does.
--     draw_place, is_in_front    it draws a gate of the front by its place
--     does                    and does what its choice says: it turns an option or the gate itself, or it is stuck
--     turns                   the gates that it turns have the other value, all other bytes stand,
--     counts, differs         `flips` is how many they are, which is how many bytes differ,
--     few, none               at most 8, and 0 exactly where it is stuck
--     undone                  "with that entry undone"
--     keeps                   the codes are kept
pub record EntryDoes (c : Circuit) (s : List ℕ) (e : Entry) : Type 0 where
  pub draw_place : (move c s e).gate ≡ get_or (front c s) (e.draw % front_size c s) 0
  pub is_in_front : Front c s (move c s e).gate
  pub does : ChoiceDoes c s (move c s e).gate e.choice (entry_chosen c s e) (entry_turns c s e)
  pub turns : TurnsExactly (entry_turns c s e) s (move c s e).next
  pub counts : (move c s e).flips ≡ length (entry_turns c s e)
  pub differs : differ c s (move c s e).next ≡ (move c s e).flips
  pub few : (move c s e).flips ≤ 8
  pub none : ((move c s e).flips ≡ 0) ↔ StuckAt c s e
  pub undone : StuckAt c s e → (move c s e).next ≡ s
  pub keeps : KeepsCodes c (move c s e).next

abbrev pub MoveIs : Type 0
MoveIs = (c : Circuit) → WellFormed c → (s : List ℕ) → KeepsCodes c s → ¬ NoFront c s → (e : Entry) → EntryDoes c s e

-- ---- the answer of Found

-- "inputs in the cone keep their values, all other inputs are 0, other gates are evaluated"
pub record FoundAnswer (c : Circuit) (s a : List ℕ) : Type 0 where
  pub configuration : Configuration c a
  pub kept : (g : ℕ) → g < c.gates → is_input (c.kind g) ≡ true → Cone c s g → on a g ≡ on s g
  pub others : (g : ℕ) → g < c.gates → is_input (c.kind g) ≡ true → ¬ Cone c s g → on a g ≡ false
  pub obeys : Obeys c a

-- There is one such configuration, and `answer` is it.
abbrev pub AnswerIs : Type 0
AnswerIs = (c : Circuit) → WellFormed c → (s : List ℕ) → FoundAnswer c s (answer c s) × ((a : List ℕ) → FoundAnswer c s a → a ≡ answer c s)

-- Inputs outside the cone are free: where the front is empty, whatever values they have, a configuration that obeys every gate and in which the cone's inputs have their
-- values is a satisfying assignment.
pub record FreeFrom (c : Circuit) (s a : List ℕ) : Type 0 where
  pub configuration : Configuration c a
  pub obeys : Obeys c a
  pub kept : (g : ℕ) → g < c.gates → is_input (c.kind g) ≡ true → Cone c s g → on a g ≡ on s g

abbrev pub InputsAreFree : Type 0
InputsAreFree = (c : Circuit) → WellFormed c → (s : List ℕ) → KeepsCodes c s → NoFront c s → (a : List ℕ) → FreeFrom c s a → Satisfying c a

-- ---- demand 2

-- "Of the entries done, the first works on the start, each later one on the configuration that the entry before left.": the configuration after i
-- entries. (Past an empty front and past an entry that is stuck no entry is done, and nothing is said of it.)
abbrev pub config : Circuit → List ℕ → List Entry → ℕ → List ℕ
config c s es zero = s
config c s [] (suc i) = s
config c s (e ∷ es) (suc i) = config c (move c s e).next es i

-- at how many gates t 0 and t 1, t 1 and t 2, .., t (n - 1) and t n differ, summed
abbrev pub differences : Circuit → (ℕ → List ℕ) → ℕ → ℕ
differences c t zero = 0
differences c t (suc n) = differ c (t 0) (t 1) + differences c (λ i. t (suc i)) n

-- an entry can be done: the front isn't empty, and the entry isn't stuck
pub record CanBeDone (c : Circuit) (s : List ℕ) (e : Entry) : Type 0 where
  pub some_front : ¬ NoFront c s
  pub not_stuck : ¬ StuckAt c s e

-- the first i of the entries es can be done, each where the one before left the configuration
abbrev pub AllBefore : Circuit → List Entry → (ℕ → List ℕ) → ℕ → Type 0
AllBefore c es t i = (d : Entry) (j : ℕ) → j < i → CanBeDone c (t j) (get_or es j d)

-- What each ending says of the place `moves` that was reached, by the two values of `told` that tell Found, Stuck and Spent apart.
--     Found    the front is empty there; no front's size is given
--     Stuck    the entry there, which draws as every entry does, is stuck; "that entry undone and uncounted", and no front's size is given
--     Spent    every entry is done, and the front's size, which isn't 0, is given
pub record AtFound (c : Circuit) (es : List Entry) (t : ℕ → List ℕ) (moves size : ℕ) : Type 0 where
  pub within : moves ≤ length es
  pub empty : NoFront c (t moves)
  pub no_size : size ≡ 0

pub record AtStuck (c : Circuit) (es : List Entry) (t : ℕ → List ℕ) (moves size : ℕ) : Type 0 where
  pub within : moves < length es
  pub entry : (d : Entry) → EntryDoes c (t moves) (get_or es moves d)
  pub sticks : (d : Entry) → StuckAt c (t moves) (get_or es moves d)
  pub no_size : size ≡ 0

pub record AtSpent (c : Circuit) (es : List Entry) (t : ℕ → List ℕ) (moves size : ℕ) : Type 0 where
  pub all_done : moves ≡ length es
  pub size_is : Size (Front c (t moves)) size
  pub some : 1 ≤ size

abbrev pub EndsAt : Circuit → List Entry → (ℕ → List ℕ) → ℕ → ℕ → (found stuck : Bool) → Type 0
EndsAt c es t moves size true true = ⊥
EndsAt c es t moves size true false = AtFound c es t moves size
EndsAt c es t moves size false true = AtStuck c es t moves size
EndsAt c es t moves size false false = AtSpent c es t moves size

-- "A run makes the moves of document 01, reports as moves and flips the count of entries done and the sum of values they turned, and ends Found
-- exactly when its front becomes empty within the tape; the state it then gives obeys every gate and shows every code." Here e, moves, flips and last are what a
-- run from s on the tape es reports, and t are its configurations.
--     accepted           it isn't refused
--     start, moved       each entry done makes its move, the first on the start
--     earlier            no entry is done on an empty front, and none that is stuck
--     ends               what its ending says of the place reached
--     found              Found exactly where the front becomes empty within the tape, behind entries that can be done;
--     sticks             Stuck exactly where an entry is stuck, behind entries that can be done;
--     spent              Spent exactly where all entries can be done and the front isn't empty behind them
--     flips_are          sums the gates at which the configurations changed
--     last_is, keeps     "After either ending the configuration is the last one", after Stuck too, and it keeps the codes
--     shows              what Found writes obeys every gate and shows every code
pub record Promised (c : Circuit) (s : List ℕ) (es : List Entry) (t : ℕ → List ℕ) (e : EndingValues) (moves flips : ℕ) (last : List ℕ) : Type 0 where
  pub accepted : (e.accepted ≡ true) × (e.number ≡ 0)
  pub start : t 0 ≡ s
  pub moved : (d : Entry) (i : ℕ) → i < moves → EntryDoes c (t i) (get_or es i d) × (t (suc i) ≡ (move c (t i) (get_or es i d)).next)
  pub earlier : AllBefore c es t moves
  pub ends : EndsAt c es t moves e.front e.found e.stuck
  pub found : (e.found ≡ true) ↔ ((i : ℕ) × (i ≤ length es) × NoFront c (t i) × AllBefore c es t i)
  pub sticks : (e.stuck ≡ true) ↔ ((i : ℕ) × (i < length es) × ((d : Entry) → StuckAt c (t i) (get_or es i d)) × AllBefore c es t i)
  pub spent : ((e.found ≡ false) × (e.stuck ≡ false)) ↔ ((¬ NoFront c (t (length es))) × AllBefore c es t (length es))
  pub flips_are : flips ≡ differences c t moves
  pub last_is : last ≡ t moves
  pub keeps : KeepsCodes c last
  pub shows : e.found ≡ true → Satisfying c (answer c last)

-- this of a run from s on the tape es
abbrev pub RunPromised : Circuit → List ℕ → List Entry → RunResult → Type 0
RunPromised c s es r = Promised c s es (config c s es) (told r.outcome.ending) r.outcome.moves r.outcome.flips r.last

-- Demand 2 on circuits.
--     functions, justified           "NOT, AND, OR and XOR mean what 001 says", a voter what F-3 says, and so does justified
--     relevant                       the parts of subset-minimal justifications
--     smallest                       what a smallest set is, for the cone
--     surveys                        "Cone, front and interest set are those of source document 001, save two differences", the second by F-5 "in the mark alone": marks and sizes stand apart
--     options, order, pairs,         the down options are 001's, in the order of documents 01 and 02; each of F-3's pairs sets both; each option justifies its gate, and
--     justify                        `turn` turns just its gates
--     left, greedy                   which of them are left, and what greedy picks from
--     inputs                         the list of inputs that rows go by has exactly these, by gate number
--     answers, free                  what Found writes, and that inputs outside the cone are free
--     differs                        what `flips` sums: at how many gates two configurations differ
--     runs                           what runs promise
pub record Demand2OnCircuits : Type 1 where
  pub functions : Functions
  pub justified : JustifiedIs001
  pub relevant : RelevantIs001
  pub smallest : SmallestIs
  pub surveys : SurveyIs001
  pub options : DownOptionsAre001
  pub order : DownOptionsInOrder
  pub pairs : PairsAreSet
  pub justify : OptionsJustify
  pub left : OptionsLeftAre
  pub greedy : GreedyOptionsAre
  pub inputs : InputsInOrder
  pub answers : AnswerIs
  pub free : InputsAreFree
  pub differs : DifferIs
  pub runs : (c : Circuit) → WellFormed c → (s : List ℕ) → KeepsCodes c s → (es : List Entry) → RunPromised c s es (run c s es)

-- ---- demand 3

abbrev pub NotGreedy : Choice → Type 0
NotGreedy (Greedy i) = ⊥
NotGreedy (Down i) = Unit {0}
NotGreedy (Up i) = Unit {0}

abbrev pub option_byte : Choice → ℕ
option_byte (Greedy i) = i
option_byte (Down i) = i
option_byte (Up i) = i

-- 4 bytes can hold this entry
abbrev pub Writable : Entry → Type 0
Writable e = (e.draw < 65536) × (option_byte e.choice < 256)

-- "kind and option bytes exist, no kind among them greedy, with which document 01's run on exactly those draws ends Found and reports at most
-- that number of moves and at most that number of flips": from s, on the draws ds, for the number n. "The run on such a list .. is Run on the tape whose
-- entries are these draws in that order, each with its two bytes, and no other entry". The draws may be any numbers, not u16 alone.
pub record FinishingTape (c : Circuit) (s : List ℕ) (ds : List ℕ) (n : ℕ) : Type 0 where
  pub tape : List Entry
  pub draws : map (λ (e : Entry). e.draw) tape ≡ ds
  pub plain : (e : Entry) → In e tape → NotGreedy e.choice × (option_byte e.choice < 256)
  pub ends_found : ends_found (run c s tape) ≡ true
  pub moves : (run c s tape).outcome.moves ≤ n
  pub flips : (run c s tape).outcome.flips ≤ n

-- From a start s.
--     only, some_tape    "some tape ends Found exactly when some state satisfies the map", a tape that bytes can hold, with
--                        at most as many entries as the map has gates
--     bounded            "For every such start and every satisfying assignment of all gates, count the gates where the two differ. For every list of
--                        front draws of that length .."
pub record FoundFrom (c : Circuit) (s : List ℕ) : Type 0 where
  pub only : (tape : List Entry) → ends_found (run c s tape) ≡ true → Satisfiable c
  pub some_tape : Satisfiable c
      → (tape : List Entry) × ((e : Entry) → In e tape → Writable e) × (length tape ≤ c.gates) × (ends_found (run c s tape) ≡ true)
  pub bounded : (a : List ℕ) → Satisfying c a → (ds : List ℕ) → length ds ≡ differ c s a → FinishingTape c s ds (differ c s a)

abbrev pub Demand3OnCircuits : Type 0
Demand3OnCircuits = (c : Circuit) → WellFormed c → (s : List ℕ) → KeepsCodes c s → FoundFrom c s

-- ---- runs of other moves, to say what a request did not change

-- a run as `run`, but that an entry does what `does` says at the configuration on which it works (`run` goes by `entry_chosen`)
unfoldable pub run_with : Circuit → (List ℕ → Entry → Chosen) → List ℕ → List Entry → RunResult
run_with c does s [] = cond (is_empty (front c s)) (stop Found s) (stop (Spent (front_size c s)) s)
run_with c does s (e ∷ es) = elim (is_empty (front c s)) [
  | true ↦ stop Found s
  | false ↦ elim (is_stuck (does s e)) [
    | true ↦ stop Stuck s
    | false ↦ (let xs = turned_by (drawn c s e.draw) (does s e) in after (length xs) (run_with c does (turn xs s) es))
  ]
]

-- ---- request F-1

-- "Stuck must never occur on a map that some state satisfies.": no entry is stuck, and no run ends so, from any start that keeps the codes.
pub record NeverStuck (c : Circuit) (s : List ℕ) : Type 0 where
  pub entries : (e : Entry) → ¬ StuckAt c s e
  pub runs : (es : List Entry) → (told (run c s es).outcome.ending).stuck ≡ false

abbrev pub SatisfiableNeverStuck : Type 0
SatisfiableNeverStuck = (c : Circuit) → WellFormed c → Satisfiable c → (s : List ℕ) → KeepsCodes c s → NeverStuck c s

-- no coded gate is a child
abbrev pub NoCodedChild : Circuit → Type 0
NoCodedChild c = (g : ℕ) → g < c.gates → (x : ℕ) → In x (c.kids g) → coded c x ≡ false

-- the gates that a choice turns where gate g is drawn and all options count, and a run of such moves, as they are by document 01 and the other requests, without F-1
abbrev pub turned_of_all : Circuit → List ℕ → ℕ → Choice → List ℕ
turned_of_all c s g (Greedy i) = pick (greedy_options c s (down_options c s g)) i []
turned_of_all c s g (Down i) = pick (down_options c s g) i []
turned_of_all c s g (Up i) = cond (coded c g) (pick (down_options c s g) i []) (g ∷ [])

unfoldable pub entry_of_all : Circuit → List ℕ → Entry → List ℕ
entry_of_all c s e = turned_of_all c s (drawn c s e.draw) e.choice

abbrev pub run_of_all : Circuit → List ℕ → List Entry → RunResult
run_of_all c = run_with c (λ s e. option (entry_of_all c s e))

-- Where no coded gate is a child F-1 changes nothing, from any start s that keeps the codes.
--     all_left     all options are left
--     entries      where the front isn't empty every entry turns what it turns without F-1,
--     runs         and every run goes as it goes without it;
--     no_stuck     nothing is stuck
pub record AsBefore (c : Circuit) (s : List ℕ) : Type 0 where
  pub all_left : (g : ℕ) → g < c.gates → justified c s g ≡ false → options_left c s g ≡ down_options c s g
  pub entries : ¬ NoFront c s → (e : Entry) → entry_turns c s e ≡ entry_of_all c s e
  pub runs : (es : List Entry) → run c s es ≡ run_of_all c s es
  pub no_stuck : NeverStuck c s

abbrev pub UnchangedWithoutCodedChildren : Type 0
UnchangedWithoutCodedChildren = (c : Circuit) → WellFormed c → NoCodedChild c → (s : List ℕ) → KeepsCodes c s → AsBefore c s

-- ---- request F-5

-- no gate of the circuit is a NOT gate
abbrev pub NoNots : Circuit → Type 0
NoNots c = (g : ℕ) → g < c.gates → ¬ (c.kind g ≡ Not)

-- an interest set's size as it was before F-5: as many gates as have the mark 4
unfoldable pub size_with_nots : Circuit → List ℕ → ℕ
size_with_nots c s = length (gates_in c (interesting c s))

-- what a choice did where gate g is drawn, greedy comparing that size
abbrev pub chosen_with_nots : Circuit → List ℕ → ℕ → Choice → Chosen
chosen_with_nots c s g (Greedy i) = one_of c g (lightest (λ o. size_with_nots c (turn o s)) (options_left c s g)) i
chosen_with_nots c s g (Down i) = one_of c g (options_left c s g) i
chosen_with_nots c s g (Up i) = cond (coded c g) (one_of c g (options_left c s g) i) itself

unfoldable pub entry_with_nots : Circuit → List ℕ → Entry → Chosen
entry_with_nots c s e = chosen_with_nots c s (drawn c s e.draw) e.choice

-- Where there is no NOT gate F-5 changes nothing, at any configuration,
pub record AsWithNots (c : Circuit) (s : List ℕ) : Type 0 where
  pub size : interest_size c s ≡ size_with_nots c s
  pub entries : (e : Entry) → entry_chosen c s e ≡ entry_with_nots c s e
  pub runs : (es : List Entry) → run c s es ≡ run_with c (entry_with_nots c) s es

abbrev pub UnchangedWithoutNots : Type 0
UnchangedWithoutNots = (c : Circuit) → NoNots c → (s : List ℕ) → AsWithNots c s

-- and on any circuit it changes no entry that isn't greedy, and no run without greedy entries.
pub record UnchangedWithoutGreedy : Type 0 where
  pub entries : (c : Circuit) (s : List ℕ) (e : Entry) → NotGreedy e.choice → entry_chosen c s e ≡ entry_with_nots c s e
  pub runs : (c : Circuit) (s : List ℕ) (es : List Entry) → ((e : Entry) → In e es → NotGreedy e.choice) → run c s es ≡ run_with c (entry_with_nots c) s es
