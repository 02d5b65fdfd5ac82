-- The numbers of refusals. Assumes nothing.
use Rattle.std.proofs.Common.{◌≤◌, arith}
use Rattle.circuit.specs.declared.Refusal.{Refusal}
use Rattle.circuit.specs.Refusal.{number_of}

-- no refusal has the number 0
pub number_some : (e : Refusal) → 1 ≤ number_of e
number_some e = grind arith
