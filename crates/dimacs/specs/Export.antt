-- F-4 of document 02 on circuits: the text of a circuit, and what it says. Assumes nothing.
use Rattle.std.specs.Prelude.{ℕ, ◌≤◌, ◌≡◌, ◌↔◌, Bool, true, length, map}
use Rattle.std.proofs.Math.Option.{some}
use mathlib.Core.List.{List, Memᴰ as In}
use Rattle.circuit.specs.Tools.{byte, up_to}
use Rattle.circuit.specs.Circuit.{Circuit, WellFormed}
use Rattle.circuit.specs.Evaluate.{mark, Satisfiable}
use Rattle.dimacs.specs.declared.Literal.{Literal}
use Rattle.dimacs.specs.Cnf.{variable_of, Clause, clauses_hold}
use Rattle.dimacs.specs.Clauses.{variable, clauses, assigned}
use Rattle.dimacs.specs.Dimacs.{print, Cnf, read}

-- "Write a map as DIMACS CNF"
unfoldable pub export_text : Circuit → List ℕ
export_text c = print c.gates (clauses c)

-- the configuration that values of the variables are, as a clause solver gives them: the value of gate g is that of variable g + 1
abbrev pub configuration_of : Circuit → (ℕ → Bool) → List ℕ
configuration_of c α = map (λ g. byte (α (variable g))) (up_to c.gates)

-- What a text says of a circuit, by reading it: this is about the bytes alone.
--     variables      the head's first number is that of the gates,
--     count          its second that of the clauses,
--     range          and these name variables 1 to the number of gates;
--     satisfied      "An assignment satisfies the clauses if and only if Mark says yes to it.";
--     solved         values of the variables satisfy the clauses exactly if Mark says yes to the configuration that they are;
--     satisfiable    so some values do exactly if some state satisfies the map
pub record Says (c : Circuit) (cnf : Cnf) : Type 0 where
  pub variables : cnf.variables ≡ c.gates
  pub count : cnf.count ≡ length cnf.clauses
  pub range : (d : Clause) → In d cnf.clauses → (l : Literal) → In l d → (1 ≤ variable_of l) × (variable_of l ≤ cnf.variables)
  pub satisfied : (s : List ℕ) → clauses_hold (assigned s) cnf.clauses ≡ mark c s
  pub solved : (α : ℕ → Bool) → clauses_hold α cnf.clauses ≡ mark c (configuration_of c α)
  pub satisfiable : ((α : ℕ → Bool) × (clauses_hold α cnf.clauses ≡ true)) ↔ Satisfiable c

abbrev pub ExportSays : Type 0
ExportSays = (c : Circuit) → WellFormed c → c.gates ≤ 1024 → (cnf : Cnf) × (read (export_text c) ≡ some cnf) × Says c cnf
