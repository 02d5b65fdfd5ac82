-- A gate's options, by the places of its children. A new kind is a new clause of `options_by`. Assumes nothing.
use Prim.Native.Nat.{ℕ, zero, suc, ◌+◌, ◌-◌, ◌^◌, ◌<◌, min}
use mathlib.Core.Path.{◌≡◌, refl, sym, ap, ◌∙◌}
use mathlib.Core.Logic.{inl, inr}
use mathlib.Core.Bool.{Bool, true, false, not, not-not}
use mathlib.Core.List.{List, [], ◌∷◌, map}
use native.Mathlib.Omega.{arith}
use lib.Dec.{eqb}
use borrow.Author.Tests.{eqb-true, eqb-false, eq-eqb, ne_eqb}
use Rattle.folds.specs.Folds.{◌and◌}
use Rattle.folds.proofs.Tests.{which, same_test}
use Rattle.circuit.specs.Tools.{same, up_to, singles, pairs, select}
use Rattle.circuit.specs.declared.Kind.{Kind}
use Rattle.circuit.specs.declared.Kind.TheVariants.{Input, Not, And, Or, Xor, Voter}
use Rattle.circuit.specs.Gate.{fan_in_fits, options}
use Rattle.circuit.proofs.Values.{same_swap}
use Rattle.circuit.proofs.Lists.{map_same, in_up_to, select_same, select_append, select_none, select_images}
use Rattle.kinds.specs.Kinds.{option_count, in_pair, option_turns}

-- the gates of option i, where child j is `child j` with value `at (child j)`
abbrev pub option_by : Kind → Bool → (ℕ → Bool) → (ℕ → ℕ) → ℕ → ℕ → List ℕ
option_by k v at child n i = map child (select (λ j. option_turns k v i j (at (child j))) (up_to n))

-- the one place that is i
only : (n i : ℕ) → i < n → select (λ j. eqb i j) (up_to n) ≡ i ∷ []
only zero i l = absurd (omega arith)
only (suc n) i l = select_append (λ j. eqb i j) (up_to n) (n ∷ []) ∙ elim (which (eqb i n)) [
  | inl q ↦ rw (q, select_none (λ j. eqb i j) (up_to n) (λ j m. ne_eqb i j (λ e. omega (arith, eqb-true i n q, in_up_to j n m))), eqb-true i n q)
  | inr q ↦ rw (q, only n i (omega (arith, eqb-false i n q)))
]

-- one option per child
each : (child : ℕ → ℕ) (n : ℕ) → singles (map child (up_to n)) ≡ map (λ i. map child (select (λ j. eqb i j) (up_to n))) (up_to n)
each child n = alone (up_to n) ∙ map_same _ _ (up_to n) (λ i m. ap (map child) (sym (only n i (in_up_to i n m))))
  where
    alone : (is : List ℕ) → singles (map child is) ≡ map (λ i. child i ∷ []) is
    alone [] = refl
    alone (i ∷ is) = ap (λ (l : List (List ℕ)). (child i ∷ []) ∷ l) (alone is)

-- a single option, of the children that p tells
joint : (child : ℕ → ℕ) (p q : ℕ → Bool) (n : ℕ) → ((x : ℕ) → p x ≡ q x) → ◌≡◌ {A = List (List ℕ)} (select p (map child (up_to n)) ∷ []) (map child (select (λ j. q (child j)) (up_to n)) ∷ [])
joint child p q n h =
    let e : select p (map child (up_to n)) ≡ map child (select (λ j. q (child j)) (up_to n)) = select_images child p (up_to n) ∙ ap (map child) (select_same _ _ (up_to n) (λ j m. h (child j))) in
    rw e

-- of each two of three children those that p tells
by_pairs : (child : ℕ → ℕ) (p : ℕ → Bool) → map (select p) (pairs (map child (up_to 3))) ≡ map (λ i. map child (select (λ j. in_pair i j and p (child j)) (up_to 3))) (up_to 3)
unfolding ◌and◌
by_pairs child p =
    let a = select_images child p (0 ∷ 1 ∷ []) in
    let b = select_images child p (0 ∷ 2 ∷ []) in
    let c = select_images child p (1 ∷ 2 ∷ []) in
    cc (a, b, c)

pub options_by : (k : Kind) (v : Bool) (at : ℕ → Bool) (child : ℕ → ℕ) (n : ℕ) → fan_in_fits k n ≡ true
    → options k v at (map child (up_to n)) ≡ map (option_by k v at child n) (up_to (option_count k v n))
options_by Input v at child n f = rw (eqb-true n 0 f)
options_by Not v at child n f = each child n
options_by And true at child n f = joint child _ (λ x. not (at x)) n (λ x. ap not (same_swap (at x) true))
options_by And false at child n f = each child n
options_by Or true at child n f = each child n
options_by Or false at child n f = joint child _ at n (λ x. ap not (same_swap (at x) false) ∙ not-not (at x))
options_by Xor v at child n f = each child n
options_by Voter v at child n f = rw (eqb-true n 3 f) (by_pairs child (λ x. not (same (at x) v)))

-- a sum of which more than a word holds is cut off
pub two_by_sum : (i j r : ℕ) → r ≡ min (i + j) (2 ^ 64 - 1) → not (eqb r 2) ≡ in_pair i j
two_by_sum i j r e = ap not (same_test (eqb r 2) (eqb (i + j) 2)
    (λ q. eq-eqb (i + j) 2 (omega (arith, eqb-true r 2 q)))
    (λ q. eq-eqb r 2 (omega (arith, eqb-true (i + j) 2 q))))
