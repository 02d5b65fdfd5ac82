-- Test 4 by kinds, and the fan-in of a gate whose kind allows one alone. Assumes nothing.
use Prim.Native.Nat.{ℕ, zero, suc, ◌≤◌, ◌<◌}
use mathlib.Core.Path.{◌≡◌, refl, ◌∙◌, sym}
use native.Mathlib.Omega.{arith}
use mathlib.Core.Bool.{true, false, false≢true}
use borrow.Author.Tests.{eqb-true, eq-eqb, leb-true, le-leb, lt-leb}
use Rattle.std.specs.Prelude.{Some}
use Rattle.std.proofs.lemmas.Option.{none-some}
use Rattle.folds.proofs.Tests.{and_left, and_right, and_both, and_past, and_first_false}
use Rattle.circuit.specs.declared.Kind.{Kind}
use Rattle.circuit.specs.Gate.{last_kind, kind_of, kind_number, is_input, fan_in_fits, FanInAllowed}
use Rattle.kinds.specs.Kinds.{kind_fits, only_fan_in}

pub only_fan : (k n r : ℕ) → kind_fits k n ≡ true → only_fan_in (kind_of k) ≡ Some r → n ≡ r
unfolding kind_fits
only_fan zero n r f e = absurd (none-some _ e)
only_fan (suc zero) n r f e = eqb-true _ _ (and_right _ _ f) ∙ cc e
only_fan (suc (suc zero)) n r f e = absurd (none-some _ e)
only_fan (suc (suc (suc zero))) n r f e = absurd (none-some _ e)
only_fan (suc (suc (suc (suc zero)))) n r f e = eqb-true _ _ (and_right _ _ f) ∙ cc e
only_fan (suc (suc (suc (suc (suc k))))) n r f e = eqb-true _ _ (and_right _ _ f) ∙ cc e

-- a byte that is a kind's, and one that is none's
pub fits_by : (b n : ℕ) (k : Kind) → b ≤ last_kind → k ≡ kind_of b → fan_in_fits k n ≡ kind_fits b n
unfolding kind_fits
fits_by b n k l e = rw e (sym (and_past _ _ (le-leb b last_kind l)))

pub no_kind_fits : (b n : ℕ) → last_kind < b → false ≡ kind_fits b n
unfolding kind_fits
no_kind_fits b n l = sym (and_first_false _ _ (lt-leb b last_kind l))

-- a kind byte and a fan-in
pub fits_allowed : (k n : ℕ) → kind_fits k n ≡ true → FanInAllowed k n
unfolding kind_fits
fits_allowed zero n e = eqb-true n 0 (and_right _ _ e)
fits_allowed (suc zero) n e = eqb-true n 1 (and_right _ _ e)
fits_allowed (suc (suc zero)) n e = (let f = and_right _ _ e in (leb-true 2 n (and_left _ _ f), leb-true n 8 (and_right _ _ f)))
fits_allowed (suc (suc (suc zero))) n e = (let f = and_right _ _ e in (leb-true 2 n (and_left _ _ f), leb-true n 8 (and_right _ _ f)))
fits_allowed (suc (suc (suc (suc zero)))) n e = eqb-true n 2 (and_right _ _ e)
fits_allowed (suc (suc (suc (suc (suc zero))))) n e = eqb-true n 3 (and_right _ _ e)
fits_allowed (suc (suc (suc (suc (suc (suc k)))))) n e = (let h : suc (suc (suc (suc (suc (suc k))))) ≤ last_kind = leb-true _ _ (and_left _ _ e) in omega arith)

pub allowed_fits : (k n : ℕ) → FanInAllowed k n → kind_fits k n ≡ true
unfolding kind_fits
allowed_fits zero n a = and_both _ _ (le-leb 0 last_kind (omega arith)) (eq-eqb n 0 a)
allowed_fits (suc zero) n a = and_both _ _ (le-leb 1 last_kind (omega arith)) (eq-eqb n 1 a)
allowed_fits (suc (suc zero)) n a = and_both _ _ (le-leb 2 last_kind (omega arith)) (and_both _ _ (le-leb 2 n a.0) (le-leb n 8 a.1))
allowed_fits (suc (suc (suc zero))) n a = and_both _ _ (le-leb 3 last_kind (omega arith)) (and_both _ _ (le-leb 2 n a.0) (le-leb n 8 a.1))
allowed_fits (suc (suc (suc (suc zero)))) n a = and_both _ _ (le-leb 4 last_kind (omega arith)) (eq-eqb n 2 a)
allowed_fits (suc (suc (suc (suc (suc zero))))) n a = and_both _ _ (le-leb 5 last_kind (omega arith)) (eq-eqb n 3 a)
allowed_fits (suc (suc (suc (suc (suc (suc k)))))) n a = absurd a

pub kind_is : (k n : ℕ) → FanInAllowed k n → kind_number (kind_of k) ≡ k
kind_is zero n a = refl
kind_is (suc zero) n a = refl
kind_is (suc (suc zero)) n a = refl
kind_is (suc (suc (suc zero))) n a = refl
kind_is (suc (suc (suc (suc zero)))) n a = refl
kind_is (suc (suc (suc (suc (suc zero))))) n a = refl
kind_is (suc (suc (suc (suc (suc (suc k)))))) n a = absurd a

-- an input has no children
pub input_alone : (k n : ℕ) → is_input (kind_of k) ≡ true → kind_fits k n ≡ true → n ≡ 0
unfolding kind_fits
input_alone zero n i e = eqb-true _ _ (and_right _ _ e)
input_alone (suc zero) n i e = absurd (false≢true i)
input_alone (suc (suc zero)) n i e = absurd (false≢true i)
input_alone (suc (suc (suc zero))) n i e = absurd (false≢true i)
input_alone (suc (suc (suc (suc zero)))) n i e = absurd (false≢true i)
input_alone (suc (suc (suc (suc (suc k))))) n i e = absurd (false≢true i)
