-- The relevant children of a justified gate: all, or those with its value. (All children of an AND at 1 and of an OR at 0 have its value.) A new kind is a new clause. Assumes nothing.
use Prim.Native.Nat.{ℕ}
use mathlib.Core.Path.{◌≡◌, refl, sym, ◌∙◌}
use mathlib.Core.Bool.{Bool, true, false, true≢false}
use mathlib.Core.Logic.{inl, inr}
use mathlib.Core.List.{List, map, Memᴰ as In}
use mathlib.Core.List.Memᴰ.{map as map-in}
use native.Mathlib.Omega.{arith}
use lib.ListN.{length}
use borrow.Author.Tests.{eqb-true}
use Rattle.folds.specs.Folds.{◌or◌}
use Rattle.folds.proofs.Tests.{which}
use Rattle.circuit.specs.Tools.{same}
use Rattle.circuit.specs.declared.Kind.{Kind}
use Rattle.circuit.specs.declared.Kind.TheVariants.{Input, Not, And, Or, Xor, Voter}
use Rattle.circuit.specs.Gate.{is_input, fan_in_fits, gives, relevant}
use Rattle.circuit.proofs.Gate.{functions}
use Rattle.circuit.proofs.Lists.{in_length}
use Rattle.kinds.specs.Kinds.{all_relevant}

module _ (at : ℕ → Bool) (xs : List ℕ) (x : ℕ) (m : In x xs) where
  pub relevant_by : (k : Kind) (v : Bool) → fan_in_fits k (length xs) ≡ true → (is_input k ≡ false → gives k (map at xs) ≡ v) → relevant k v (at x) ≡ (all_relevant k or same (at x) v)
  unfolding ◌or◌
  relevant_by Input v f e = absurd (omega (arith, eqb-true (length xs) 0 f, in_length x xs m))
  relevant_by Not v f e = refl
  relevant_by And true f e = let q : at x ≡ true = (functions.and_is (map at xs)).0 (e refl) (at x) (map-in at m) in rw q
  relevant_by And false f e = refl
  relevant_by Or true f e = refl
  relevant_by Or false f e = elim (which (at x)) [
    | inl q ↦ absurd (true≢false (sym ((functions.or_is (map at xs)).1 (rw q at (map-in at m))) ∙ e refl))
    | inr q ↦ rw q
  ]
  relevant_by Xor v f e = refl
  relevant_by Voter v f e = refl
