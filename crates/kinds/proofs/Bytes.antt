-- Which kind a kind byte is, and which is an input's. Assumes nothing.
use Prim.Native.Nat.{ℕ, zero, suc, ◌<◌}
use mathlib.Core.Path.{◌≡◌, refl}
use mathlib.Core.Bool.{false}
use native.Mathlib.Omega.{arith}
use denote.Enum.Bare.{sameb}
use Rattle.circuit.specs.declared.Kind.{Kind}
use Rattle.circuit.specs.declared.Kind.TheVariants.{Input, Not, And, Or, Xor, Voter}
use Rattle.circuit.specs.contracts.Kind.{the_type}
use Rattle.circuit.specs.Gate.{last_kind, is_input, kind_of}

pub gate_kind : (k : ℕ) → (k ≡ 0 → ⊥) → is_input (kind_of k) ≡ false
gate_kind zero h = absurd (h refl)
gate_kind (suc zero) h = refl
gate_kind (suc (suc zero)) h = refl
gate_kind (suc (suc (suc zero))) h = refl
gate_kind (suc (suc (suc (suc zero)))) h = refl
gate_kind (suc (suc (suc (suc (suc k))))) h = refl

-- a byte above the last kind's counts as that
pub past_last : (b : ℕ) → last_kind < b → Voter ≡ kind_of b
past_last zero h = absurd (omega arith)
past_last (suc zero) h = absurd (omega arith)
past_last (suc (suc zero)) h = absurd (omega arith)
past_last (suc (suc (suc zero))) h = absurd (omega arith)
past_last (suc (suc (suc (suc zero)))) h = absurd (omega arith)
past_last (suc (suc (suc (suc (suc b))))) h = refl

-- an input by the code's test
pub same_input : (k : Kind) → sameb the_type k Input ≡ is_input k
same_input Input = refl
same_input Not = refl
same_input And = refl
same_input Or = refl
same_input Xor = refl
same_input Voter = refl
