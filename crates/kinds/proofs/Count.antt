-- What a kind makes of how many of its children are at 1: a new kind is a law more. Assumes nothing.
use Prim.Native.Nat.{ℕ, zero, suc, ◌+◌, ◌%◌, ◌≤◌}
use mathlib.Core.Path.{◌≡◌, refl, sym, ap, ◌∙◌}
use mathlib.Core.Logic.{inl, inr}
use mathlib.Core.Bool.{Bool, true, false, not, not-not}
use mathlib.Core.List.{List, [], ◌∷◌, ◌++◌, map, map-append}
use native.Mathlib.Omega.{arith}
use native.Mathlib.Nat.{zero-add}
use lib.ListN.{length}
use lib.Dec.{eqb, leb}
use borrow.Author.Tests.{eqb-true, eqb-false, eq-eqb, ne_eqb, leb-true, le-leb}
use Rattle.folds.proofs.Tests.{which, same_test}
use Rattle.circuit.specs.Tools.{up_to, select}
use Rattle.circuit.specs.declared.Kind.TheVariants.{Not, And, Or, Xor, Voter}
use Rattle.circuit.specs.Gate.{odd_on, count_on}
use Rattle.circuit.proofs.Lists.{place_more}
use Rattle.circuit.proofs.Gate.{count_all, count_some}
use Rattle.kinds.specs.Kinds.{GivesBy}

-- ---- counting

count_append : (vs ws : List Bool) → count_on (vs ++ ws) ≡ count_on vs + count_on ws
count_append [] ws = sym (zero-add (count_on ws))
count_append (v ∷ vs) ws = let ih = count_append vs ws in omega arith

-- the loop's count is that of the values
pub count_is : (p : ℕ → Bool) (n : ℕ) → count_on (map p (up_to n)) ≡ length (select p (up_to n))
count_is p zero = refl
count_is p (suc n) = rw (map-append p (up_to n) (n ∷ []), count_append (map p (up_to n)) (p n ∷ []), place_more p n, count_is p n) (omega arith)

-- ---- the kinds

count_odd : (vs : List Bool) → eqb (count_on vs % 2) 1 ≡ odd_on vs
count_odd [] = refl
count_odd (true ∷ vs) = elim (which (eqb (count_on vs % 2) 1)) [
  | inl q ↦ ne_eqb ((1 + count_on vs) % 2) 1 (λ e. omega (arith, eqb-true (count_on vs % 2) 1 q)) ∙ ap not (sym q ∙ count_odd vs)
  | inr q ↦ eq-eqb ((1 + count_on vs) % 2) 1 (omega (arith, eqb-false (count_on vs % 2) 1 q)) ∙ ap not (sym q ∙ count_odd vs)
]
count_odd (false ∷ vs) = rw (zero-add (count_on vs)) (count_odd vs ∙ sym (not-not (odd_on vs)))

count_even : (vs : List Bool) → eqb (count_on vs % 2) 0 ≡ not (odd_on vs)
count_even vs = elim (which (eqb (count_on vs % 2) 1)) [
  | inl q ↦ ne_eqb (count_on vs % 2) 0 (λ e. omega (arith, eqb-true (count_on vs % 2) 1 q)) ∙ ap not (sym q ∙ count_odd vs)
  | inr q ↦ eq-eqb (count_on vs % 2) 0 (omega (arith, eqb-false (count_on vs % 2) 1 q)) ∙ ap not (sym q ∙ count_odd vs)
]

-- what the code answers for each kind
module _ (n ones : ℕ) where
  pub not_gives : GivesBy Not n ones (eqb (ones % 2) 0)
  not_gives vs l e = rw (← e) (count_even vs)

  pub xor_gives : GivesBy Xor n ones (eqb (ones % 2) 1)
  xor_gives vs l e = rw (← e) (count_odd vs)

  pub and_gives : ones ≤ n → GivesBy And n ones (leb n ones)
  and_gives h vs l e = same_test (leb n ones) (eqb ones n) (λ q. eq-eqb ones n (omega (arith, leb-true n ones q))) (λ q. le-leb n ones (omega (arith, eqb-true ones n q))) ∙ rw (← e, ← l) (count_all vs)

  pub or_gives : GivesBy Or n ones (leb 1 ones)
  or_gives vs l e = rw (← e) (count_some vs)

  pub voter_gives : GivesBy Voter n ones (leb 2 ones)
  voter_gives vs l e = rw e

pub ruleset kinds_give = (not_gives, and_gives, or_gives, xor_gives, voter_gives)
