-- The kinds of gate. All that documents 01 and 02 say of one kind and not of another stands here: a new kind is a new clause of each definition. (What code goes by, as options
-- by their places and only fan-ins, is in `kinds`.)
-- A gate is seen by its kind, its own value and its children with their values. Assumes nothing.
use Rattle.std.specs.Prelude.{ℕ, zero, suc, ◌+◌, ◌≤◌, ◌<◌, ◌≡◌, Bool, true, false, not, List, [], ◌∷◌, map, eqb, leb, Result, MatchResult}
use Rattle.folds.specs.Folds.{◌and◌, ◌or◌}
use Rattle.circuit.specs.declared.Kind.{Kind}
use Rattle.circuit.specs.declared.Kind.TheVariants.{Input, Not, And, Or, Xor, Voter}
use Rattle.circuit.specs.declared.UnknownKind.{UnknownKind}
use Rattle.circuit.specs.Tools.{byte, same, select, singles, pairs}

-- "Kinds: 0 input, 1 NOT, 2 AND, 3 OR, 4 XOR." F-3: "Kind 5", the voter
-- `Kind` is a type of src/; `kind_of` and `kind_number` say which byte is which kind's.

abbrev pub last_kind : ℕ
last_kind = 5

-- the kind of a kind byte. Those above the last have none: test 4 excludes them, and the last clause stands for them.
abbrev pub kind_of : ℕ → Kind
kind_of zero = Input
kind_of (suc zero) = Not
kind_of (suc (suc zero)) = And
kind_of (suc (suc (suc zero))) = Or
kind_of (suc (suc (suc (suc zero)))) = Xor
kind_of (suc (suc (suc (suc (suc k))))) = Voter

abbrev pub kind_number : Kind → ℕ
kind_number Input = 0
kind_number Not = 1
kind_number And = 2
kind_number Or = 3
kind_number Xor = 4
kind_number Voter = 5

-- what reading a kind byte gives: its kind, or that it has none
abbrev pub KindRead : ℕ → Result Kind UnknownKind → Type 0
KindRead b r = MatchResult r (λ k. (b ≤ last_kind) × (k ≡ kind_of b)) (λ _. last_kind < b)

abbrev pub is_input : Kind → Bool
is_input Input = true
is_input Not = false
is_input And = false
is_input Or = false
is_input Xor = false
is_input Voter = false

-- "Fan-in: 0 for an input, 1 for NOT, 2 for XOR, 2 to 8 for AND and OR." F-3: "Number 4 now allows kind 5, with fan-in 3 only."
abbrev pub fan_in_fits : Kind → ℕ → Bool
fan_in_fits Input n = eqb n 0
fan_in_fits Not n = eqb n 1
fan_in_fits And n = leb 2 n and leb n 8
fan_in_fits Or n = leb 2 n and leb n 8
fan_in_fits Xor n = eqb n 2
fan_in_fits Voter n = eqb n 3

-- the same sentences without tests: the fan-ins that a kind byte allows
abbrev pub FanInAllowed : ℕ → ℕ → Type 0
FanInAllowed zero n = n ≡ 0
FanInAllowed (suc zero) n = n ≡ 1
FanInAllowed (suc (suc zero)) n = (2 ≤ n) × (n ≤ 8)
FanInAllowed (suc (suc (suc zero))) n = (2 ≤ n) × (n ≤ 8)
FanInAllowed (suc (suc (suc (suc zero)))) n = n ≡ 2
FanInAllowed (suc (suc (suc (suc (suc zero))))) n = n ≡ 3
FanInAllowed (suc (suc (suc (suc (suc (suc k)))))) n = ⊥

-- ---- States, assignments, marking

-- are all, is one, is an odd number of the values 1, and how many are
abbrev pub all_on : List Bool → Bool
all_on [] = true
all_on (v ∷ vs) = v and all_on vs

abbrev pub some_on : List Bool → Bool
some_on [] = false
some_on (v ∷ vs) = v or some_on vs

abbrev pub odd_on : List Bool → Bool
odd_on [] = false
odd_on (v ∷ vs) = not (same v (odd_on vs))

abbrev pub count_on : List Bool → ℕ
count_on [] = 0
count_on (v ∷ vs) = byte v + count_on vs

-- "NOT, AND, OR and XOR mean what 001 says": the value that the children's values give. NOT has one child and gives its opposite, XOR has two and
-- says whether an odd number of them is 1: both go by parity, and share their laws. An input has no children, and its clause is used nowhere.
-- F-3: "Kind 5 has three children and is 1 when at least two are 1."
-- That this is what 001 says is `Functions` of Source001.antt.
abbrev pub gives : Kind → List Bool → Bool
gives Input vs = false
gives Not vs = not (odd_on vs)
gives And vs = all_on vs
gives Or vs = some_on vs
gives Xor vs = odd_on vs
gives Voter vs = leb 2 (count_on vs)

-- ---- Survey

-- "AND at 1 and OR at 0, all children; AND at 0, each child at 0; OR at 1, each child at 1; NOT, its child; XOR, both" F-3: "The children relevant to a
-- justified voter are all those with its value.": is a child with value x relevant to a justified gate with value v? That these are 001's is `RelevantIs001` of
-- Source001.antt.
abbrev pub relevant : Kind → Bool → Bool → Bool
relevant Input v x = false
relevant Not v x = true
relevant And true x = true
relevant And false x = same x false
relevant Or true x = same x true
relevant Or false x = true
relevant Xor v x = true
relevant Voter v x = same x v

-- F-5: "An interest set's size leaves NOT gates out": does a gate of this kind count in it?
abbrev pub carries_weight : Kind → Bool
carries_weight Input = true
carries_weight Not = false
carries_weight And = true
carries_weight Or = true
carries_weight Xor = true
carries_weight Voter = true

-- ---- Options and moves

-- the children that have not the value v, in order
abbrev pub wrong : Bool → (ℕ → Bool) → List ℕ → List ℕ
wrong v at xs = select (λ x. not (same (at x) v)) xs

-- How a gate's options are made of its children, and in which order they stand. (Another way is one case more, and one clause more of `ordered` and of `StandIn` in
-- Source001.antt.)
--     together    "a single option that turns every wrong child"
--     singly      "one per child in order, turning that child"
--     in_pairs    F-3: "the pairs first-second, first-third, second-third, each setting both to the voter's value"
pub data Order : Type 0 where
  together : Order
  singly : Order
  in_pairs : Order

-- the options so made, of an unjustified gate with value v and children xs. "A gate belongs to an option only if the option turns it": an option is the list of the gates
-- that it turns.
abbrev pub ordered : Order → Bool → (ℕ → Bool) → List ℕ → List (List ℕ)
ordered together v at xs = wrong v at xs ∷ []
ordered singly v at xs = singles xs
ordered in_pairs v at xs = map (wrong v at) (pairs xs)

-- "Its down options, numbered from 0: AND at 1 or OR at 0, a single option that turns every wrong child; AND at 0 or OR at 1, one per child in
-- order, turning that child; NOT, its child; XOR, first child or second child." F-3: of a voter "Its options are the pairs first-second, first-third, second-third".
-- (An input has no children, so it has none.)
abbrev pub order : Kind → Bool → Order
order Input v = singly
order Not v = singly
order And true = together
order And false = singly
order Or true = singly
order Or false = together
order Xor v = singly
order Voter v = in_pairs

abbrev pub options : Kind → Bool → (ℕ → Bool) → List ℕ → List (List ℕ)
options k v at xs = ordered (order k v) v at xs
