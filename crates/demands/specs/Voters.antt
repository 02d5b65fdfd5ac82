-- Request F-3 of document 02, 'Two-out-of-three voters', on bytes: about the definitions that the calls' contracts cite. Nothing goes by this file: elsewhere voters are told apart in circuit's
-- Gate alone. Assumes nothing.
use Rattle.std.specs.Prelude.{ℕ, ◌<◌, ◌≡◌, ◌↔◌, true, false, List, [], ◌∷◌}
use mathlib.Core.List.{Memᴰ as In}
use Rattle.circuit.specs.Gate.{wrong}
use Rattle.circuit.specs.Circuit.{Configuration, on, given, justified}
use Rattle.circuit.specs.Survey.{reasons}
use Rattle.circuit.specs.Run.{down_options}
use Rattle.circuit.specs.Source001.{AtLeastTwo, SetsBoth, RelevantIs001, DownOptionsAre001}
use Rattle.map.specs.Map.{gate_count, kind_byte, fan_in, child_at, kids_of, circuit}
use Rattle.map.specs.Check.{verdict, CheckNumber, CheckAccepts}
use Rattle.demands.specs.Demands.{Demand1, Demand2, Demand3}
use Rattle.demands.specs.InnerCodes.{SatisfiedNeverStuck}

-- What is so of gate g of the map m, and where it is a voter. Its children are, by gate number, the three that stand in the map.
--     value       "is 1 when at least two are 1": what its children give it
--     relevant    "The children relevant to a justified voter are all those with its value."
--     options     "Its options are the pairs first-second, first-third, second-third", at an unjustified voter: of each the children that have not its value
--     sets        "each setting both to the voter's value; so an option may turn one or two children"
pub record IsVoter (m : List ℕ) (g : ℕ) : Type 0 where
  pub three : fan_in m g ≡ 3
  pub value : (s : List ℕ)
      → (given (circuit m) s g ≡ true) ↔ AtLeastTwo (on s (child_at m g 0) ≡ true) (on s (child_at m g 1) ≡ true) (on s (child_at m g 2) ≡ true)
  pub relevant : (s : List ℕ) → justified (circuit m) s g ≡ true → (x : ℕ) → In x (reasons (circuit m) s g) ↔ (In x (kids_of m g) × (on s x ≡ on s g))
  pub options : (s : List ℕ) → justified (circuit m) s g ≡ false
      → down_options (circuit m) s g
      ≡ wrong (on s g) (on s) (child_at m g 0 ∷ child_at m g 1 ∷ []) ∷ wrong (on s g) (on s) (child_at m g 0 ∷ child_at m g 2 ∷ [])
      ∷ wrong (on s g) (on s) (child_at m g 1 ∷ child_at m g 2 ∷ []) ∷ []
  pub sets : (s : List ℕ) → Configuration (circuit m) s → justified (circuit m) s g ≡ false → (i j : ℕ) → i < j → j < 3
      → SetsBoth (circuit m) s g (child_at m g i) (child_at m g j) (wrong (on s g) (on s) (child_at m g i ∷ child_at m g j ∷ []))

abbrev pub VotersAre : Type 0
VotersAre = (m : List ℕ) → verdict m ≡ 0 → (g : ℕ) → g < gate_count m → kind_byte m g ≡ 5 → IsVoter m g

-- F-3, sentence by sentence.
--     voters             "Kind 5 has three children and is 1 when at least two are 1. Its options are the pairs .. The children relevant to a justified voter are all those with its value."
--     options, relevant  these are 001's, as for every gate: the moves of the subset minimal justifications, each once, and the children of those that agree
--     number, accepts    "Number 4 now allows kind 5, with fan-in 3 only."
--     demand1, demand2, demand3, never_stuck    "Maps with voters come under everything promised for runs.": all this is about all accepted maps
pub record Voters : Type 1 where
  pub voters : VotersAre
  pub options : DownOptionsAre001
  pub relevant : RelevantIs001
  pub number : CheckNumber
  pub accepts : CheckAccepts
  pub demand1 : Demand1
  pub demand2 : Demand2
  pub demand3 : Demand3
  pub never_stuck : SatisfiedNeverStuck
