-- The laws of the folds, at the code's i + 1 and i - 1. Assumes nothing.
use Prim.Native.Nat.{ℕ, zero, suc, ◌+◌, ◌<◌}
use mathlib.Core.Bool.{Bool, true, false}
use mathlib.Core.Path.{◌≡◌, refl}
use mathlib.Core.Logic.{inl, inr}
use native.Mathlib.Nat.{le_of_suc-le-suc, eq-or-lt_of_le}
use native.Mathlib.Numerals.{add-one}
use native.Mathlib.Omega.{arith}
use Rattle.folds.specs.Folds.{◌and◌, all_below}
use Rattle.folds.proofs.Tests.{and_left, and_right, and_both, and_first_false, and_second_false}

-- ---- a test of every number below n

module _ (p : ℕ → Bool) where
  pub all_none : all_below 0 p ≡ true
  unfolding all_below
  all_none = refl

  pub all_more : (n : ℕ) → all_below n p ≡ true → p n ≡ true → all_below (n + 1) p ≡ true
  unfolding all_below
  all_more n a h = rw (add-one n) (and_both (all_below n p) (p n) a h)

  pub all_next : (n : ℕ) → all_below (n + 1) p ≡ (all_below n p and p n)
  unfolding all_below
  all_next n = rw (add-one n)

  -- one number at which p fails
  pub all_fails : (n i : ℕ) → i < n → p i ≡ false → all_below n p ≡ false
  unfolding all_below
  all_fails zero i l h = absurd (omega arith)
  all_fails (suc n) i l h = elim (eq-or-lt_of_le (le_of_suc-le-suc l)) [
    | inl e ↦ and_second_false (all_below n p) (p n) (rw (← e) h)
    | inr s ↦ and_first_false (all_below n p) (p n) (all_fails n i s h)
  ]

  -- what p says at each number below n
  pub all_at : (n i : ℕ) → all_below n p ≡ true → i < n → p i ≡ true
  unfolding all_below
  all_at zero i a l = absurd (omega arith)
  all_at (suc n) i a l = elim (eq-or-lt_of_le (le_of_suc-le-suc l)) [
    | inl e ↦ rw e (and_right (all_below n p) (p n) a)
    | inr s ↦ all_at n i (and_left (all_below n p) (p n) a) s
  ]

  pub all_of : (n : ℕ) → ((i : ℕ) → i < n → p i ≡ true) → all_below n p ≡ true
  unfolding all_below
  all_of zero f = refl
  all_of (suc n) f = and_both (all_below n p) (p n) (all_of n (λ i l. f i (omega arith))) (f n (omega arith))
