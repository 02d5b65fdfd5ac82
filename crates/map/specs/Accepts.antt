-- For inner functions: what the tests of a map give. Assumes nothing.
use Rattle.std.specs.Prelude.{ℕ, ◌≡◌, List, Result, IfOk, MatchResult}
use Rattle.std.specs.Borrow.{Bor}
use Rattle.circuit.specs.declared.Refusal.{Refusal}
use Rattle.circuit.specs.Refusal.{number_of}
use Rattle.map.specs.Check.{verdict}
use Rattle.map.specs.declared.decode.Table.{Table}
use Rattle.map.specs.declared.accepted.Map.{Map}

-- what tests 1 to 3 give: where they pass, the table of contents of these bytes
abbrev pub IsTableOf : Bor (List ℕ) → Result Table Refusal → Type 0
IsTableOf b r = IfOk r (λ t. t.bytes ≡ b)

-- what tests 1 to 7 give: these bytes as a map if Check accepts them, else Check's number
abbrev pub IsAccepted : Bor (List ℕ) → Result Map Refusal → Type 0
IsAccepted b r = MatchResult r (λ m. (m.bytes ≡ b) × (verdict b.now ≡ 0)) (λ e. number_of e ≡ verdict b.now)
