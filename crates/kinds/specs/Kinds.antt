-- What test 4 goes by; and for inner functions the fan-in of a kind that allows one alone, what a gate gives, by the number of its children at 1, and how many of these it needs, whether all its children are relevant whatever
-- their values are, and what its options turn, by place. Assumes nothing.
use Rattle.std.specs.Prelude.{ℕ, ◌+◌, ◌≡◌, Bool, true, false, not, List, length, eqb, leb, Option, Some, None}
use Rattle.folds.specs.Folds.{◌and◌}
use Rattle.circuit.specs.Tools.{same}
use Rattle.circuit.specs.declared.Kind.{Kind}
use Rattle.circuit.specs.declared.Kind.TheVariants.{Input, Not, And, Or, Xor, Voter}
use Rattle.circuit.specs.Gate.{last_kind, kind_of, fan_in_fits, count_on, gives}

-- "4. A kind is above 4 or a fan-in isn't allowed for its kind.", and F-3: "Number 4 now allows kind 5, with fan-in 3 only.": true where neither is so of a kind byte and a fan-in
unfoldable pub kind_fits : ℕ → ℕ → Bool
kind_fits k n = leb k last_kind and fan_in_fits (kind_of k) n

-- the fan-in of a kind that allows one alone; none for an input and for kinds of several
abbrev pub only_fan_in : Kind → Option ℕ
only_fan_in Input = None
only_fan_in Not = Some 1
only_fan_in And = None
only_fan_in Or = None
only_fan_in Xor = Some 2
only_fan_in Voter = Some 3

-- v is what a gate of kind k gives to any n values of which `ones` are 1
abbrev pub GivesBy : Kind → ℕ → ℕ → Bool → Type 0
GivesBy k n ones v = (vs : List Bool) → length vs ≡ n → count_on vs ≡ ones → v ≡ gives k vs

-- How many children at 1 a gate of kind k with n children needs to be at 1, where that is all that counts: an AND, an OR or a voter. That it is so is `kinds_give` of
-- proofs/Count.antt. (The other kinds' clauses are used nowhere: NOT and XOR go by parity, and an input has no children.)
abbrev pub needed : Kind → ℕ → ℕ
needed Input n = 1
needed Not n = 1
needed And n = n
needed Or n = 1
needed Xor n = 1
needed Voter n = 2

-- Are all children of a justified gate of kind k relevant, whatever their values are? Else those with the gate's value are. That this is `relevant` of Gate.antt is `relevant_by` of
-- proofs/Relevant.antt.
abbrev pub all_relevant : Kind → Bool
all_relevant Input = false
all_relevant Not = true
all_relevant And = false
all_relevant Or = false
all_relevant Xor = true
all_relevant Voter = false

-- A gate's down options by the places of its children: how many a gate of this kind with value v and n children has, and whether option i turns child
-- j, whose value is x. That these are `options` of Gate.antt is `options_by` of proofs/ByPlace.antt.
abbrev pub option_count : Kind → Bool → ℕ → ℕ
option_count Input v n = 0
option_count Not v n = n
option_count And true n = 1
option_count And false n = n
option_count Or true n = n
option_count Or false n = 1
option_count Xor v n = n
option_count Voter v n = 3

-- is child j of three in pair i: first-second, first-third, second-third? (Pair i leaves out child 2 - i.)
abbrev pub in_pair : ℕ → ℕ → Bool
in_pair i j = not (eqb (i + j) 2)

abbrev pub option_turns : Kind → Bool → ℕ → ℕ → Bool → Bool
option_turns Input v i j x = false
option_turns Not v i j x = eqb i j
option_turns And true i j x = not x
option_turns And false i j x = eqb i j
option_turns Or true i j x = eqb i j
option_turns Or false i j x = x
option_turns Xor v i j x = eqb i j
option_turns Voter v i j x = in_pair i j and not (same x v)
