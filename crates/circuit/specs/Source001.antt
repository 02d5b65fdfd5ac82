-- Section 2 of source document 001 in its own words: justification, cone, front, interest set; and, of section 3, the move of a justification.
-- Document 01's two differences are marked; since request F-5 the second is in the mark alone. 001 has no voters, but its notions are for any Boolean function ("can be
-- adapted for a wider range of types"). After it, as statements, that the functions, tables, options and survey of documents 01 and 02 are these:
-- proofs/Gate.antt, proofs/Source001.antt and proofs/Survey.antt prove them. Assumes nothing.
use Rattle.std.specs.Prelude.{ℕ, ◌+◌, ◌*◌, ◌≤◌, ◌<◌, ◌≡◌, ◌⊎◌, ◌↔◌, Bool, true, false, cond, not, length, get_or}
use Rattle.std.proofs.Math.Option.{Option, none, some}
use mathlib.Core.List.{List, [], ◌∷◌, map, Memᴰ as In}
use Rattle.circuit.specs.Tools.{byte, same, member, Rising, Distinct, pairs, select}
use Rattle.circuit.specs.declared.Kind.TheVariants.{Not, And, Or, Xor, Voter}
use Rattle.circuit.specs.Gate.{is_input, gives, wrong, Order, together, singly, in_pairs, order}
use Rattle.circuit.specs.Circuit.{Circuit, coded, WellFormed, Configuration, on, justified}
use Rattle.circuit.specs.Evaluate.{inputs, differ}
use Rattle.circuit.specs.Survey.{reasons, cone, in_front, front, interesting, survey, front_size, interest_size}
use Rattle.circuit.specs.Run.{down_options, turn}

-- ---- assignments

-- a partial assignment: some gates have a value
abbrev pub Partial : Type 0
Partial = ℕ → Option Bool

-- the pair of x and b is in σ
abbrev pub Has : Partial → ℕ → Bool → Type 0
Has σ x b = σ x ≡ some b

abbrev pub Subset : Partial → Partial → Type 0
Subset ρ σ = (x : ℕ) (b : Bool) → Has ρ x b → Has σ x b

-- a total assignment τ that extends σ
abbrev pub Extends : (ℕ → Bool) → Partial → Type 0
Extends τ σ = (x : ℕ) (b : Bool) → Has σ x b → τ x ≡ b

-- the restriction of τ to the gates xs
abbrev pub restrict : (ℕ → Bool) → List ℕ → Partial
restrict τ xs x = cond (member x xs) (some (τ x)) none

-- ---- justifications, for any Boolean function f and children xs

-- "Given a non-input gate g := f(..) and a value v .., a justification for the pair <g, v> is a partial assignment .. to the children of g such
-- that f(..) = v holds for all extensions .."
pub record Justification (f : List Bool → Bool) (xs : List ℕ) (v : Bool) (σ : Partial) : Type 0 where
  pub children : (x : ℕ) (b : Bool) → Has σ x b → In x xs
  pub forces : (τ : ℕ → Bool) → Extends τ σ → f (map τ xs) ≡ v

-- a subset minimal one
pub record Minimal (f : List Bool → Bool) (xs : List ℕ) (v : Bool) (σ : Partial) : Type 0 where
  pub justifies : Justification f xs v σ
  pub no_smaller : (ρ : Partial) → Justification f xs v ρ → Subset ρ σ → Subset σ ρ

-- 001's own example, to try these two by: "consider the gate t1 in Fig. 1. The possible justifications for <t1, f> are {<t3, f>}, {<t3, f>, <c0, t>}, {<t3, f>,
-- <c0, f>}, {<c0, f>}, and {<t3, t>, <c0, f>}; of these the first and fourth one are subset minimal ones." In document 01's adder map t1 is gate 5, AND of c0, gate 2,
-- and t3, gate 3. A pair is what an assignment gives t3 and c0.
abbrev pub justifications_of_t1 : List (Option Bool × Option Bool)
justifications_of_t1 = (some false, none) ∷ (some false, some true) ∷ (some false, some false) ∷ (none, some false) ∷ (some true, some false) ∷ []

abbrev pub minimal_of_t1 : List (Option Bool × Option Bool)
minimal_of_t1 = (some false, none) ∷ (none, some false) ∷ []

abbrev pub children_of_t1 : List ℕ
children_of_t1 = 2 ∷ 3 ∷ []

-- Of the assignments to its children, just these are justifications, and just these are minimal.
pub record Example001 (σ : Partial) : Type 0 where
  pub justifications : Justification (gives And) children_of_t1 false σ ↔ In (σ 3, σ 2) justifications_of_t1
  pub minimal : Minimal (gives And) children_of_t1 false σ ↔ In (σ 3, σ 2) minimal_of_t1

abbrev pub ExampleIs001 : Type 0
ExampleIs001 = (σ : Partial) → ((x : ℕ) (b : Bool) → Has σ x b → In x children_of_t1) → Example001 σ

-- Child x is in some subset minimal justification. Difference 1: "001's written condition doesn't say that the justification must agree with the
-- configuration; its worked example does, and the example decides."
pub record TakesPart (f : List Bool → Bool) (xs : List ℕ) (v : Bool) (at : ℕ → Bool) (x : ℕ) : Type 0 where
  pub by : Partial
  pub minimal : Minimal f xs v by
  pub agrees : Extends at by
  pub value : Bool
  pub has : Has by x value

-- is a value given, and another than b
abbrev pub contrary : Option Bool → Bool → Bool
contrary none b = false
contrary (some a) b = not (same a b)

-- the children to which σ gives another value than the configuration
abbrev pub changed : Partial → (ℕ → Bool) → List ℕ → List ℕ
changed σ at xs = select (λ x. contrary (σ x) (at x)) xs

-- The move of a subset minimal justification, 001's "flips the values of a subset of g's children so that g becomes locally justified": o are the
-- children that get another value by it. (001's Algorithm 1 takes any justification; its section 3.1 and document 01 take the minimal ones.)
pub record MoveOf (f : List Bool → Bool) (xs : List ℕ) (v : Bool) (at : ℕ → Bool) (o : List ℕ) : Type 0 where
  pub by : Partial
  pub minimal : Minimal f xs v by
  pub is : o ≡ changed by at xs

-- the gates o are a down option of gate g in 001's words: the move of a subset minimal justification for its value
abbrev pub OptionOf : Circuit → List ℕ → ℕ → List ℕ → Type 0
OptionOf c s g o = MoveOf (gives (c.kind g)) (c.kids g) (on s g) (on s) o

-- ---- cone, front, interest set

-- The smallest set that has what `First` has, and with each gate g each x for which `Next g x`.
pub data Smallest (First : ℕ → Type 0) (Next : ℕ → ℕ → Type 0) : ℕ → Type 0 where
  first : {x : ℕ} → First x → Smallest First Next x
  then : {g x : ℕ} → Smallest First Next g → Next g x → Smallest First Next x

-- "The descendant .. relations are defined in the usual way as the transitive closures of the child .. relations": x is a descendant of g
pub data Descendant (c : Circuit) (g : ℕ) : ℕ → Type 0 where
  child : {x : ℕ} → In x (c.kids g) → Descendant c g x
  further : {y x : ℕ} → Descendant c g y → In x (c.kids y) → Descendant c g x

module _ (c : Circuit) where
  -- "1. If <g, v> ∈ α, then g ∈ S."
  abbrev pub Constrained : ℕ → Type 0
  Constrained g = (g < c.gates) × (coded c g ≡ true)

  module _ (s : List ℕ) where
    -- "A gate g is justified in an assignment τ if it is assigned .. and (i) it is an input gate, or (ii) g := f(..) ∈ C and τ|{..} is a
    -- justification for <g, τ(g)>." A configuration assigns every gate. This is so for NOT gates too.
    abbrev pub Justified : ℕ → Type 0
    Justified g =
        (is_input (c.kind g) ≡ true)
        ⊎ ((is_input (c.kind g) ≡ false) × Justification (gives (c.kind g)) (c.kids g) (on s g) (restrict (on s) (c.kids g)))

    -- "2. If g ∈ S and (i) g is a non-input gate, (ii) g is justified in τ, and (iii) <gi, vi> ∈ σ for some subset minimal justification σ for
    -- <g, τ(g)>, then gi ∈ S."
    pub record Brings (g x : ℕ) : Type 0 where
      pub gate : is_input (c.kind g) ≡ false
      pub justified : Justified g
      pub part : TakesPart (gives (c.kind g)) (c.kids g) (on s g) (on s) x

    -- "the smallest one of those sets S of gates which satisfy the following properties"
    abbrev pub Cone : ℕ → Type 0
    Cone = Smallest Constrained Brings

    -- "those gates in the cone that are not justified": the justification frontier
    abbrev pub Front : ℕ → Type 0
    Front g = Cone g × ¬ Justified g

    -- "A gate g is interesting in τ if it belongs to the frontier .. or is a descendant of a gate in it". Difference 2, since F-5 "in the mark alone": "NOT gates count
    -- like others (001 leaves them out)". The mark 4 goes by this.
    abbrev pub Interesting : ℕ → Type 0
    Interesting x = Front x ⊎ ((g : ℕ) × Front g × Descendant c g x)

    -- "the set of all gates that are interesting in τ is denoted by interest(..)", and by "A Note on Negations" "NOT-gates are .. never counted in an interest set". The
    -- size goes by this.
    abbrev pub InterestSet : ℕ → Type 0
    InterestSet x = Interesting x × ¬ (c.kind x ≡ Not)

    abbrev pub NoFront : Type 0
    NoFront = (g : ℕ) → ¬ Front g

-- ---- the statements

-- `Smallest` has what it starts with, is closed, and is in every set that is so.
pub record IsClosed (First : ℕ → Type 0) (Next : ℕ → ℕ → Type 0) (S : ℕ → Type 0) : Type 0 where
  pub has : (x : ℕ) → First x → S x
  pub closed : (g x : ℕ) → S g → Next g x → S x

abbrev pub SmallestIs : Type 1
SmallestIs =
    (First : ℕ → Type 0) (Next : ℕ → ℕ → Type 0)
    → IsClosed First Next (Smallest First Next) × ((S : ℕ → Type 0) → IsClosed First Next S → (x : ℕ) → Smallest First Next x → S x)

-- at least two of three are so
abbrev pub AtLeastTwo : Type 0 → Type 0 → Type 0 → Type 0
AtLeastTwo A B C = (A × B) ⊎ (A × C) ⊎ (B × C)

-- "NOT(v) is t iff v is f", "OR(..) is t iff at least one of .. is t", "AND(..) is t iff all .. are t", "XOR(..) is t iff exactly one of .. is t". F-3: "Kind 5 has three
-- children and is 1 when at least two are 1."
pub record Functions : Type 0 where
  pub not_is : (b : Bool) → (gives Not (b ∷ []) ≡ true) ↔ (b ≡ false)
  pub or_is : (vs : List Bool) → (gives Or vs ≡ true) ↔ In true vs
  pub and_is : (vs : List Bool) → (gives And vs ≡ true) ↔ ((b : Bool) → In b vs → b ≡ true)
  pub xor_is : (a b : Bool) → (gives Xor (a ∷ b ∷ []) ≡ true) ↔ (((a ≡ true) × (b ≡ false)) ⊎ ((a ≡ false) × (b ≡ true)))
  pub voter_is : (a b c : Bool) → (gives Voter (a ∷ b ∷ c ∷ []) ≡ true) ↔ AtLeastTwo (a ≡ true) (b ≡ true) (c ≡ true)

-- Document 01's justified gates are 001's.
abbrev pub JustifiedIs001 : Type 0
JustifiedIs001 = (c : Circuit) (s : List ℕ) (g : ℕ) → (justified c s g ≡ true) ↔ Justified c s g

-- The table of relevant children has exactly the children in some subset minimal justification that agrees: those that a justified gate brings into the cone.
abbrev pub RelevantIs001 : Type 0
RelevantIs001 =
    (c : Circuit) → WellFormed c → (s : List ℕ) (g : ℕ) → g < c.gates
    → (x : ℕ) → In x (reasons c s g) ↔ Brings c s g x

-- The down options, at an unjustified gate, are exactly the moves of the subset minimal justifications, each once. ("Only these minimal
-- justifications are used.")
abbrev pub DownOptionsAre001 : Type 0
DownOptionsAre001 =
    (c : Circuit) → WellFormed c → (s : List ℕ) (g : ℕ) → g < c.gates → justified c s g ≡ false
    → ((o : List ℕ) → In o (down_options c s g) ↔ OptionOf c s g o) × Distinct (down_options c s g)

-- Options os, of a gate with value v and children xs, stand in an order that the documents name: "numbered from 0: .. a single option that turns every wrong child; .. one per
-- child in order". F-3: "the pairs first-second, first-third, second-third, each setting both to the voter's value; so an option may turn one or two children"
abbrev pub StandIn : Order → Bool → (ℕ → Bool) → List ℕ → List (List ℕ) → Type 0
StandIn together v at xs os = os ≡ wrong v at xs ∷ []
StandIn singly v at xs os = os ≡ map (λ x. x ∷ []) xs
StandIn in_pairs v at xs os = (x y z : ℕ) × (xs ≡ x ∷ y ∷ z ∷ []) × (os ≡ wrong v at (x ∷ y ∷ []) ∷ wrong v at (x ∷ z ∷ []) ∷ wrong v at (y ∷ z ∷ []) ∷ [])

-- A gate's kind and value tell in which.
abbrev pub DownOptionsInOrder : Type 0
DownOptionsInOrder =
    (c : Circuit) → WellFormed c → (s : List ℕ) (g : ℕ) → g < c.gates → justified c s g ≡ false
    → StandIn (order (c.kind g) (on s g)) (on s g) (on s) (c.kids g) (down_options c s g)

-- F-3: "the pairs .. each setting both to the voter's value; so an option may turn one or two children": of children x and y, at gate g
pub record SetsBoth (c : Circuit) (s : List ℕ) (g x y : ℕ) (o : List ℕ) : Type 0 where
  pub is_option : In o (down_options c s g)
  pub first : on (turn o s) x ≡ on s g
  pub second : on (turn o s) y ≡ on s g
  pub turned : (1 ≤ length o) × (length o ≤ 2)

abbrev pub PairsAreSet : Type 0
PairsAreSet =
    (c : Circuit) → WellFormed c → (s : List ℕ) → Configuration c s → (g : ℕ) → g < c.gates → justified c s g ≡ false → order (c.kind g) (on s g) ≡ in_pairs
    → (x y : ℕ) → In (x ∷ y ∷ []) (pairs (c.kids g)) → SetsBoth c s g x y (wrong (on s g) (on s) (x ∷ y ∷ []))

-- from s to t the gates o have turned, and no other byte is another
pub record TurnsExactly (o s t : List ℕ) : Type 0 where
  pub these : (x : ℕ) → In x o → on t x ≡ not (on s x)
  pub others : (x : ℕ) → ¬ In x o → get_or t x 0 ≡ get_or s x 0

-- Each option makes its gate justified, which keeps its value.
pub record Justifies (c : Circuit) (s : List ℕ) (g : ℕ) (o : List ℕ) : Type 0 where
  pub turns : TurnsExactly o s (turn o s)
  pub not_itself : ¬ In g o
  pub justified : Justified c (turn o s) g

abbrev pub OptionsJustify : Type 0
OptionsJustify =
    (c : Circuit) → WellFormed c → (s : List ℕ) → Configuration c s → (g : ℕ) → g < c.gates → justified c s g ≡ false
    → (o : List ℕ) → In o (down_options c s g) → Justifies c s g o

-- xs lists the set P by rising number
pub record Lists (P : ℕ → Type 0) (xs : List ℕ) : Type 0 where
  pub rising : Rising xs
  pub has : (x : ℕ) → In x xs ↔ P x

-- `inputs` lists exactly the inputs, "by gate number".
abbrev pub InputsInOrder : Type 0
InputsInOrder = (c : Circuit) → Lists (λ g. (g < c.gates) × (is_input (c.kind g) ≡ true)) (inputs c)

-- the set P has n elements
pub record Size (P : ℕ → Type 0) (n : ℕ) : Type 0 where
  pub elements : List ℕ
  pub lists : Lists P elements
  pub many : n ≡ length elements

-- `differ` is the number of gates whose bytes are unequal.
abbrev pub DifferIs : Type 0
DifferIs = (c : Circuit) (s a : List ℕ) → Size (λ g. (g < c.gates) × ¬ (get_or s g 0 ≡ get_or a g 0)) (differ c s a)

-- Cone, front and interesting gates as sets, Survey's bytes and sizes, and the list from which a move draws. By F-5 mark and size stand apart: a NOT gate that is interesting
-- has the mark 4, and the size is that of 001's own set. It is 0 exactly where the front is empty.
pub record SurveyOf001 (c : Circuit) (s : List ℕ) : Type 0 where
  pub cone_is : (g : ℕ) → g < c.gates → (cone c s g ≡ true) ↔ Cone c s g
  pub front_is : (g : ℕ) → g < c.gates → (in_front c s g ≡ true) ↔ Front c s g
  pub interesting_is : (g : ℕ) → g < c.gates → (interesting c s g ≡ true) ↔ Interesting c s g
  pub long : length (survey c s) ≡ c.gates
  pub bytes : (g : ℕ) → g < c.gates → get_or (survey c s) g 0 ≡ byte (cone c s g) + 2 * byte (in_front c s g) + 4 * byte (interesting c s g)
  pub listed : Lists (Front c s) (front c s)
  pub size_of_front : Size (Front c s) (front_size c s)
  pub size_of_interest : Size (InterestSet c s) (interest_size c s)
  pub no_interest : (interest_size c s ≡ 0) ↔ NoFront c s

abbrev pub SurveyIs001 : Type 0
SurveyIs001 = (c : Circuit) → WellFormed c → (s : List ℕ) → SurveyOf001 c s
