-- F-4 of document 02 on bytes: Export. Assumes nothing.
use Rattle.std.specs.Prelude.{ℕ, ◌≤◌, ◌≡◌, ◌↔◌, Bool, true, false, cond, length, take, drop, eqb, leb, Result, Ok, Err}
use Rattle.std.proofs.Math.Option.{some}
use mathlib.Core.List.{List, [], ◌∷◌, ◌++◌, Memᴰ as In}
use Rattle.circuit.specs.declared.Refusal.{Refusal}
use Rattle.circuit.specs.Refusal.{number_of}
use Rattle.circuit.specs.Tools.{over}
use Rattle.circuit.specs.Circuit.{Configuration}
use Rattle.map.specs.Map.{gate_count, circuit}
use Rattle.map.specs.Check.{first_failed, map_tests, verdict, Test, MapNumber}
use Rattle.state.specs.State.{mark_effect, Satisfies}
use Rattle.dimacs.specs.declared.Literal.{Literal}
use Rattle.dimacs.specs.Cnf.{variable_of, Clause, clauses_hold}
use Rattle.dimacs.specs.Clauses.{assigned}
use Rattle.dimacs.specs.Dimacs.{Cnf, read}
use Rattle.dimacs.specs.Export.{export_text, configuration_of}

-- "Write a map as DIMACS CNF"
abbrev pub text_of : List ℕ → List ℕ
text_of m = export_text (circuit m)

-- the longest text, in bytes
abbrev pub most_text : ℕ
most_text = 141716

-- Memory of so many bytes has room for the text of every accepted map.
abbrev pub TextFits : Type 0
TextFits = (m : List ℕ) → verdict m ≡ 0 → length (text_of m) ≤ most_text

-- "A text memory shorter than the text gives 16 in the place of test 14.": behind the map's tests
unfoldable pub text_tests : List ℕ → List ℕ → List (ℕ × Bool)
text_tests m out = (16, leb (length (text_of m)) (length out)) ∷ []

-- What Export does: whether the call is accepted and else its number, "the text's length", and the text memory after the call
pub record ExportEffect : Type 0 where
  pub accepted : Bool
  pub number : ℕ
  pub size : ℕ
  pub out : List ℕ

-- document 02's number and value of each case of the answer that is returned, beside the memory
unfoldable pub export_answer : Result ℕ Refusal → List ℕ → ExportEffect
export_answer (Ok n) w = record { accepted = true; number = 0; size = n; out = w }
export_answer (Err r) w = record { accepted = false; number = number_of r; size = 0; out = w }

-- what a call with this number leaves: "The call returns the text's length."; refused, it "leaves all lent memory untouched; the other numbers of its answer .. are then 0"
unfoldable pub export_by : ℕ → List ℕ → List ℕ → ExportEffect
export_by n m out =
    cond (eqb n 0)
    (record { accepted = true; number = 0; size = length (text_of m); out = over (text_of m) out })
    (record { accepted = false; number = n; size = 0; out = out })

unfoldable pub export_effect : List ℕ → List ℕ → ExportEffect
export_effect m out = export_by (first_failed (map_tests m ++ text_tests m out)) m out

-- ---- what it means

-- Of an accepted call.
--     text           the first bytes of the memory, as many as are returned, are the map's text;
--     reads          they read as clauses, by a reader that knows nothing of maps
--     variables      with as many variables as the map has gates,
--     count          as many clauses as the head says,
--     range          and in these no other variables
--     marked         "An assignment satisfies the clauses if and only if Mark says yes to it.": Mark is the call on bytes
--     solved         values of the variables, as a clause solver gives them, satisfy the clauses exactly if Mark says yes to the configuration that they are
--     satisfiable    so some values do exactly if some state satisfies the map
--     surplus, long  the surplus stands
pub record ExportMeans (m out : List ℕ) (r : ExportEffect) : Type 0 where
  pub number : r.number ≡ 0
  pub text : take r.size r.out ≡ text_of m
  pub cnf : Cnf
  pub reads : read (take r.size r.out) ≡ some cnf
  pub variables : cnf.variables ≡ gate_count m
  pub count : cnf.count ≡ length cnf.clauses
  pub range : (d : Clause) → In d cnf.clauses → (l : Literal) → In l d → (1 ≤ variable_of l) × (variable_of l ≤ gate_count m)
  pub marked : (s : List ℕ) → Configuration (circuit m) s → clauses_hold (assigned s) cnf.clauses ≡ (mark_effect m s).yes
  pub solved : (α : ℕ → Bool) → clauses_hold α cnf.clauses ≡ (mark_effect m (configuration_of (circuit m) α)).yes
  pub satisfiable : ((α : ℕ → Bool) × (clauses_hold α cnf.clauses ≡ true)) ↔ ((a : List ℕ) × Satisfies m a)
  pub surplus : drop r.size r.out ≡ drop r.size out
  pub long : length r.out ≡ length out

abbrev pub ExportDoes : Type 0
ExportDoes = (m out : List ℕ) → (export_effect m out).accepted ≡ true → ExportMeans m out (export_effect m out)

-- ---- which calls are accepted

-- number 16 lets this memory through
abbrev pub HasTextRoom : List ℕ → List ℕ → Type 0
HasTextRoom m out = length (text_of m) ≤ length out

abbrev pub ExportAccepts : Type 0
ExportAccepts = (m out : List ℕ) → ((export_effect m out).accepted ≡ true) ↔ ((verdict m ≡ 0) × HasTextRoom m out)

-- its number: 16 behind the map's
abbrev pub ExportNumber : Type 0
ExportNumber = (m out : List ℕ) → MapNumber (export_effect m out).number m (
    Test (export_effect m out).number 16 (HasTextRoom m out) ((export_effect m out).number ≡ 0))

-- Refused, it gives a number, returns no length and leaves the memory.
pub record ExportRefused (out : List ℕ) (r : ExportEffect) : Type 0 where
  pub numbered : ¬ (r.number ≡ 0)
  pub no_size : r.size ≡ 0
  pub untouched : r.out ≡ out

abbrev pub ExportRefuses : Type 0
ExportRefuses = (m out : List ℕ) → (export_effect m out).accepted ≡ false → ExportRefused out (export_effect m out)
