-- The clauses of gates and circuits, as F-4 of document 02 orders them. Assumes nothing.
use Rattle.std.specs.Prelude.{ℕ, zero, suc, ◌+◌, ◌-◌, ◌≡◌, Bool, true, false, List, [], ◌∷◌, ◌++◌, map, get_or}
use Rattle.std.proofs.Math.Option.{Option, none, some}
use Rattle.circuit.specs.declared.Kind.{Kind}
use Rattle.circuit.specs.declared.Kind.TheVariants.{Input, Not, And, Or, Xor, Voter}
use Rattle.circuit.specs.Tools.{singles, pairs}
use Rattle.circuit.specs.Circuit.{Circuit, WellFormed, on}
use Rattle.circuit.specs.Evaluate.{mark}
use Rattle.dimacs.specs.declared.Literal.{Literal}
use Rattle.dimacs.specs.declared.Literal.TheVariants.{Plain, Negated}
use Rattle.dimacs.specs.Cnf.{Clause, clauses_hold}

-- ---- the clauses of a gate

-- "variable number = gate number + 1"
abbrev pub variable : ℕ → ℕ
variable g = g + 1

-- the literals that say that gate g is 1, and that it is 0
abbrev pub at_1 : ℕ → Literal
at_1 g = Plain (variable g)

abbrev pub at_0 : ℕ → Literal
at_0 g = Negated (variable g)

-- one clause: the gate's literal, then those of these children
abbrev pub wide : Literal → (ℕ → Literal) → List ℕ → Clause
wide first f xs = first ∷ map f xs

-- such a clause for each child, and for each pair of children
abbrev pub each : Literal → (ℕ → Literal) → List ℕ → List Clause
each first f xs = map (wide first f) (singles xs)

abbrev pub each_pair : Literal → (ℕ → Literal) → List ℕ → List Clause
each_pair first f xs = map (wide first f) (pairs xs)

abbrev pub xor_clauses : ℕ → ℕ → ℕ → List Clause
xor_clauses g a b =
    (at_0 g ∷ at_1 a ∷ at_1 b ∷ [])
    ∷ (at_0 g ∷ at_0 a ∷ at_0 b ∷ [])
    ∷ (at_1 g ∷ at_1 a ∷ at_0 b ∷ [])
    ∷ (at_1 g ∷ at_0 a ∷ at_1 b ∷ [])
    ∷ []

-- "each gate's standard Tseitin clauses": "A clause names the gate first, then children ascending; those negating the gate come first, each sign by child or F-3's pairs, XOR's
-- with the first child plain before the other." "For a voter they are the six of two literals of children and one of the gate." An input has none. A new kind is a new clause here.
abbrev pub tseitin : Kind → ℕ → List ℕ → List Clause
tseitin Input g xs = []
tseitin Not g xs = wide (at_0 g) at_0 xs ∷ wide (at_1 g) at_1 xs ∷ []
tseitin And g xs = each (at_0 g) at_1 xs ++ (wide (at_1 g) at_0 xs ∷ [])
tseitin Or g xs = wide (at_0 g) at_1 xs ∷ each (at_1 g) at_0 xs
tseitin Xor g xs = xor_clauses g (get_or xs 0 0) (get_or xs 1 0)
tseitin Voter g xs = each_pair (at_0 g) at_1 xs ++ each_pair (at_1 g) at_0 xs

-- "a unit clause per code"
abbrev pub unit : Option Bool → ℕ → List Clause
unit none g = []
unit (some true) g = (at_1 g ∷ []) ∷ []
unit (some false) g = (at_0 g ∷ []) ∷ []

-- ---- the clauses of a circuit

module _ {A : Type 0} where
  -- f 0, f 1, .., f (n - 1), one behind the other
  unfoldable pub gather : (ℕ → List A) → ℕ → List A
  gather f zero = []
  gather f (suc n) = gather f n ++ f n

abbrev pub gate_clauses : Circuit → ℕ → List Clause
gate_clauses c g = tseitin (c.kind g) g (c.kids g)

abbrev pub unit_clauses : Circuit → ℕ → List Clause
unit_clauses c g = unit (c.code g) g

-- "each gate's standard Tseitin clauses in gate order, then a unit clause per code"
unfoldable pub clauses : Circuit → List Clause
clauses c = gather (gate_clauses c) c.gates ++ gather (unit_clauses c) c.gates

-- ---- what they mean

-- the values of the variables in a configuration
abbrev pub assigned : List ℕ → ℕ → Bool
assigned s v = on s (v - 1)

-- "An assignment satisfies the clauses if and only if Mark says yes to it."
abbrev pub ClausesAreMark : Type 0
ClausesAreMark = (c : Circuit) → WellFormed c → (s : List ℕ) → clauses_hold (assigned s) (clauses c) ≡ mark c s
