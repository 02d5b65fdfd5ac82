-- Definitions that mirror a loop: a test of every number below n, and a state carried down from n - 1 to 0.
-- Assumes nothing.
use Rattle.std.specs.Prelude.{ℕ, zero, suc, Bool, true, false}

-- Both, and either. Unlike the library's && and || they unfold only where a proof asks for it, so that antt finds the arguments of laws about them.
infixl 35 ◌and◌
infixl 30 ◌or◌
unfoldable pub ◌and◌ : Bool → Bool → Bool
true and b = b
false and b = false

unfoldable pub ◌or◌ : Bool → Bool → Bool
true or b = true
false or b = b

-- p holds of every number below n
unfoldable pub all_below : ℕ → (ℕ → Bool) → Bool
all_below zero p = true
all_below (suc n) p = all_below n p and p n

module _ {S : Type 0} where
  -- s after f at n - 1, then at n - 2, down to 0
  unfoldable pub descend : ℕ → (ℕ → S → S) → S → S
  descend zero f s = s
  descend (suc n) f s = descend n f (f n s)
