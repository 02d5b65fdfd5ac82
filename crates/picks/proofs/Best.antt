-- The smallest of some weights, and the places where it stands. Assumes nothing.
use Prim.Native.Nat.{ℕ, zero, suc, ◌<◌, ◌≤◌, ◌%◌}
use mathlib.Core.Path.{◌≡◌, refl, ap}
use mathlib.Core.Logic.{inl, inr}
use mathlib.Core.List.{List}
use native.Mathlib.Omega.{arith}
use native.Mathlib.Nat.{mod-lt}
use native.Mathlib.Numerals.{add-one}
use lib.ListN.{length, get_or}
use lib.Dec.{eqb, leb}
use borrow.Author.Count.{below_more}
use borrow.Author.Tests.{eqb-true, eq-eqb, leb-true, leb-false, le-leb}
use Rattle.folds.proofs.Tests.{which, same_test}
use Rattle.circuit.specs.Tools.{up_to, select, holds_of_all, pick}
use Rattle.circuit.proofs.Lists.{in_up_to, up_to_in, all_in, in_all, select_same, select_in, in_select, in_length, at_place}
use Rattle.picks.specs.Picks.{best_at, equal_to, Least}

module _ (w : List ℕ) (n v : ℕ) (k : Least w n v) where
  -- a weight is no larger than any other exactly where it is the smallest
  is_least : (j : ℕ) → j < n → holds_of_all (λ x. leb (get_or w j 0) (get_or w x 0)) (up_to n) ≡ eqb (get_or w j 0) v
  is_least j l = same_test _ _
      (λ q. (let a = leb-true (get_or w j 0) (get_or w k.stands.0 0) (all_in _ (up_to n) q k.stands.0 (up_to_in k.stands.0 n k.stands.1)) in
      eq-eqb (get_or w j 0) v (omega (arith, k.lowest j l, k.stands.2))))
      (λ q. in_all _ (up_to n) (λ x m. le-leb (get_or w j 0) (get_or w x 0) (omega (arith, eqb-true (get_or w j 0) v q, k.lowest x (in_up_to x n m)))))

  pub some_least : 1 ≤ length (equal_to w n v)
  unfolding equal_to
  some_least = in_length k.stands.0 _ (in_select _ k.stands.0 (up_to n) (up_to_in k.stands.0 n k.stands.1) (eq-eqb _ _ k.stands.2))

  best_list : select (λ j. holds_of_all (λ x. leb (get_or w j 0) (get_or w x 0)) (up_to n)) (up_to n) ≡ equal_to w n v
  unfolding equal_to
  best_list = select_same _ _ (up_to n) (λ j m. is_least j (in_up_to j n m))

  pub best_is : (i : ℕ) → best_at w n i ≡ get_or (equal_to w n v) (i % length (equal_to w n v)) 0
  unfolding best_at
  best_is i = ap (λ (l : List ℕ). pick l i 0) best_list

-- some weight is the smallest
a_least : (w : List ℕ) (n : ℕ) → (v : ℕ) × Least w (suc n) v
a_least w zero = (get_or w 0 0, record { lowest = λ k l. (let e : k ≡ 0 = omega arith in rw e (omega arith)); stands = (0, omega arith, refl) })
a_least w (suc n) =
    let (v, k) = a_least w n in
    let x = get_or w (suc n) 0 in
    rw (← add-one (suc n)) (elim (which (leb v x)) [
      | inl q ↦ (v, record { lowest = below_more _ (suc n) k.lowest (leb-true v x q); stands = (k.stands.0, omega (arith, k.stands.1), k.stands.2) })
      | inr q ↦ (x, record { lowest = below_more _ (suc n) (λ j l. omega (arith, k.lowest j l, leb-false v x q)) (omega arith); stands = (suc n, omega arith, refl) })
    ])

pub some_best : (w : List ℕ) (n : ℕ) → 1 ≤ n → 1 ≤ length (select (λ j. holds_of_all (λ x. leb (get_or w j 0) (get_or w x 0)) (up_to n)) (up_to n))
some_best w zero h = absurd (omega arith)
some_best w (suc n) h = let (v, k) = a_least w n in rw (best_list w (suc n) v k) (some_least w (suc n) v k)

pub best_below : (w : List ℕ) (n i : ℕ) → 1 ≤ n → best_at w n i < n
unfolding best_at
best_below w n i h = in_up_to _ n (select_in _ _ (up_to n) (at_place 0 _ _ (mod-lt i (some_best w n h)))).0
