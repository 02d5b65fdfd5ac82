-- Facts on values: `not`, `same`, and a value as a byte. Assumes nothing.
use Prim.Native.Nat.{ℕ, zero, suc, ◌≤◌}
use mathlib.Core.Path.{◌≡◌, refl, sym, ap, ◌∙◌}
use mathlib.Core.Logic.{◌⊎◌, inl, inr}
use mathlib.Core.Bool.{Bool, true, false, not, true≢false, not-not}
use native.Mathlib.Omega.{arith}
use lib.Dec.{eqb}
use Rattle.std.proofs.Math.Bool.{beq}
use mir.Val.{bool_byte}
use Rattle.circuit.specs.Tools.{byte, same}

-- two values agree or are opposite
pub agree : (b c : Bool) → (c ≡ b) ⊎ (c ≡ not b)
agree true true = inl refl
agree true false = inr refl
agree false true = inr refl
agree false false = inl refl

pub opposite : (b v : Bool) → b ≡ not v → v ≡ not b
opposite b v e = sym (not-not v) ∙ sym (ap not e)

pub unequal : (b v : Bool) → b ≡ v → not b ≡ v → ⊥
unequal true v p q = true≢false (p ∙ sym q)
unequal false v p q = true≢false (q ∙ sym p)

-- ---- same

pub same_true : (b v : Bool) → same b v ≡ true → b ≡ v
same_true true v e = sym e
same_true false v e = sym (opposite true v (sym e))

pub same_false : (b v : Bool) → same b v ≡ false → v ≡ not b
same_false true v e = e
same_false false v e = sym (not-not v) ∙ ap not e

pub same_refl : (b : Bool) → same b b ≡ true
same_refl true = refl
same_refl false = refl

pub same_swap : (a b : Bool) → same a b ≡ same b a
same_swap true true = refl
same_swap true false = refl
same_swap false true = refl
same_swap false false = refl

pub same_not : (b : Bool) → same (not b) b ≡ false
same_not true = refl
same_not false = refl

-- what code compares two values by
pub beq_same : (a b : Bool) → beq a b ≡ same a b
beq_same true true = refl
beq_same true false = refl
beq_same false true = refl
beq_same false false = refl

-- ---- bytes

pub byte_bit : (b : Bool) → byte b ≤ 1
byte_bit true = omega arith
byte_bit false = omega arith

pub on_byte : (b : Bool) → eqb (byte b) 1 ≡ b
on_byte true = refl
on_byte false = refl

pub bit_byte : (n : ℕ) → n ≤ 1 → n ≡ byte (eqb n 1)
bit_byte zero h = refl
bit_byte (suc zero) h = refl
bit_byte (suc (suc n)) h = absurd (omega arith)

-- two bytes of a value are equal if the values are
pub bit_same : (m n : ℕ) → m ≤ 1 → n ≤ 1 → eqb m 1 ≡ eqb n 1 → m ≡ n
bit_same m n h l e = bit_byte m h ∙ ap byte e ∙ sym (bit_byte n l)

pub bit_turned : (n : ℕ) → n ≤ 1 → eqb n (byte (not (eqb n 1))) ≡ false
bit_turned zero h = refl
bit_turned (suc zero) h = refl
bit_turned (suc (suc n)) h = absurd (omega arith)

-- the number that code makes of a bool, as `usize::from` does
pub bit_is : (b : Bool) → bool_byte b ≡ byte b
bit_is true = refl
bit_is false = refl
