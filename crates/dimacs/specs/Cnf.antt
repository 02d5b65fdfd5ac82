-- Clauses, by the numbers of their variables. It knows nothing of maps. Assumes nothing.
use Rattle.std.specs.Prelude.{ℕ, Bool, not, List, map}
use Rattle.circuit.specs.Tools.{holds_of_all}
use Rattle.circuit.specs.Gate.{some_on}
use Rattle.dimacs.specs.declared.Literal.{Literal}
use Rattle.dimacs.specs.declared.Literal.TheVariants.{Plain, Negated}

-- `Literal` is a type of src/: a variable, plain or negated.
abbrev pub variable_of : Literal → ℕ
variable_of (Plain v) = v
variable_of (Negated v) = v

abbrev pub Clause : Type 0
Clause = List Literal

-- Is a literal, a clause, a list of clauses true where the variables have these values? A clause is where one of its literals is, a list where all its clauses are.
abbrev pub literal_holds : (ℕ → Bool) → Literal → Bool
literal_holds α (Plain v) = α v
literal_holds α (Negated v) = not (α v)

abbrev pub clause_holds : (ℕ → Bool) → Clause → Bool
clause_holds α c = some_on (map (literal_holds α) c)

abbrev pub clauses_hold : (ℕ → Bool) → List Clause → Bool
clauses_hold α cs = holds_of_all (clause_holds α) cs
