-- For inner functions: an option by the places of its children, the options left by their places, and what greedy weighs an option by. Assumes nothing.
use Rattle.std.specs.Prelude.{ℕ, Bool, not, List, map, Option, Some, None}
use Rattle.folds.specs.Folds.{◌and◌, all_below}
use Rattle.circuit.specs.Tools.{up_to, select}
use Rattle.circuit.specs.Gate.{kind_of}
use Rattle.circuit.specs.Circuit.{coded, on}
use Rattle.circuit.specs.Survey.{interest_size}
use Rattle.circuit.specs.Run.{turn, Chosen, option, none_left}
use Rattle.map.specs.Map.{kind_byte, fan_in, child_at, circuit}
use Rattle.kinds.specs.Kinds.{option_count, option_turns}

-- how many options gate g of the map m has in s
unfoldable pub option_count_of : List ℕ → List ℕ → ℕ → ℕ
option_count_of m s g = option_count (kind_of (kind_byte m g)) (on s g) (fan_in m g)

-- does option i of gate g turn its child j
unfoldable pub option_has : List ℕ → List ℕ → ℕ → ℕ → ℕ → Bool
option_has m s g i j = option_turns (kind_of (kind_byte m g)) (on s g) i j (on s (child_at m g j))

-- the gates of option i among the first n children
unfoldable pub option_up_to : List ℕ → List ℕ → ℕ → ℕ → ℕ → List ℕ
option_up_to m s g i n = map (λ j. child_at m g j) (select (option_has m s g i) (up_to n))

abbrev pub option_gates : List ℕ → List ℕ → ℕ → ℕ → List ℕ
option_gates m s g i = option_up_to m s g i (fan_in m g)

-- ---- the options left

-- is option i left, child by child: it turns none that is coded
unfoldable pub child_allowed : List ℕ → List ℕ → ℕ → ℕ → ℕ → Bool
child_allowed m s g i j = not (coded (circuit m) (child_at m g j) and option_has m s g i j)

unfoldable pub option_left : List ℕ → List ℕ → ℕ → ℕ → Bool
option_left m s g i = all_below (fan_in m g) (child_allowed m s g i)

-- the places of those left among the first n options
unfoldable pub left_up_to : List ℕ → List ℕ → ℕ → ℕ → List ℕ
left_up_to m s g n = select (option_left m s g) (up_to n)

abbrev pub left_of : List ℕ → List ℕ → ℕ → List ℕ
left_of m s g = left_up_to m s g (option_count_of m s g)

-- what is done by the answer of a search for an option
abbrev pub sought_chosen : List ℕ → List ℕ → ℕ → Option ℕ → Chosen
sought_chosen m s g (Some i) = option (option_gates m s g i)
sought_chosen m s g None = none_left (circuit m) g

-- ---- greedy

-- the weights of some options
abbrev pub weights_of : (List ℕ → ℕ) → List ℕ → List ℕ → ℕ → List ℕ → List ℕ
weights_of weight m s g options = map (λ i. weight (option_gates m s g i)) options

-- what greedy weighs an option by: the size of the interest set after it
abbrev pub interest_after : List ℕ → List ℕ → List ℕ → ℕ
interest_after m s o = interest_size (circuit m) (turn o s)
