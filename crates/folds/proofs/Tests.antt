-- The laws of `and` and `or`. Assumes nothing.
use mathlib.Core.Bool.{Bool, true, false, true≢false, false≢true}
use mathlib.Core.Path.{◌≡◌, refl, sym}
use mathlib.Core.Logic.{◌⊎◌, inl, inr}
use borrow.Author.Tests.{lt-ltb, le-ltb, le-leb, lt-leb, eq-eqb, ne_eqb}
use Rattle.folds.specs.Folds.{◌and◌, ◌or◌}

-- A test is one or the other: `elim (which t) [ inl q ↦ .. | inr q ↦ .. ]` is a case split that keeps the equation.
pub which : (b : Bool) → (b ≡ true) ⊎ (b ≡ false)
which true = inl refl
which false = inr refl

-- two tests that tell the same
pub same_test : (a b : Bool) → (a ≡ true → b ≡ true) → (b ≡ true → a ≡ true) → a ≡ b
same_test true b f g = sym (f refl)
same_test false true f g = g refl
same_test false false f g = refl

-- ---- what a joined test says of its halves

pub and_left : (a b : Bool) → a and b ≡ true → a ≡ true
unfolding ◌and◌
and_left true b e = refl
and_left false b e = e

pub and_right : (a b : Bool) → a and b ≡ true → b ≡ true
unfolding ◌and◌
and_right true b e = e
and_right false b e = absurd (false≢true e)

pub or_cases : (a b : Bool) → a or b ≡ true → (a ≡ true) ⊎ (b ≡ true)
unfolding ◌or◌
or_cases true b e = inl refl
or_cases false b e = inr e

pub or_left_false : (a b : Bool) → a or b ≡ false → a ≡ false
unfolding ◌or◌
or_left_false true b e = e
or_left_false false b e = refl

pub or_right_false : (a b : Bool) → a or b ≡ false → b ≡ false
unfolding ◌or◌
or_right_false true b e = absurd (true≢false e)
or_right_false false b e = e

-- ---- and the other way round

pub and_both : (a b : Bool) → a ≡ true → b ≡ true → a and b ≡ true
unfolding ◌and◌
and_both a b h e = rw (h, e)

pub and_first_false : (a b : Bool) → a ≡ false → a and b ≡ false
unfolding ◌and◌
and_first_false a b h = rw h

pub and_second_false : (a b : Bool) → b ≡ false → a and b ≡ false
unfolding ◌and◌
and_second_false true b h = h
and_second_false false b h = refl

pub or_first : (a b : Bool) → a ≡ true → a or b ≡ true
unfolding ◌or◌
or_first a b h = rw h

pub or_second : (a b : Bool) → b ≡ true → a or b ≡ true
unfolding ◌or◌
or_second true b h = refl
or_second false b h = h

pub or_past : (a b : Bool) → a ≡ false → a or b ≡ b
unfolding ◌or◌
or_past a b h = rw h

pub or_none : (a b : Bool) → b ≡ false → a or b ≡ a
unfolding ◌or◌
or_none true b h = refl
or_none false b h = h

pub and_past : (a b : Bool) → a ≡ true → a and b ≡ b
unfolding ◌and◌
and_past a b h = rw h

-- ---- For `search`: a joined test, from the facts that a function's branches give.

pub and_ends_first : (a b : Bool) → a ≡ false → false ≡ a and b
and_ends_first a b h = sym (and_first_false a b h)

pub and_ends_second : (a b : Bool) → b ≡ false → false ≡ a and b
and_ends_second a b h = sym (and_second_false a b h)

pub and_goes_on : (a b c : Bool) → a ≡ true → c ≡ b → c ≡ a and b
and_goes_on a b c h e = rw (and_past a b h) e

pub or_ends : (a b : Bool) → a ≡ true → true ≡ a or b
or_ends a b h = sym (or_first a b h)

pub or_goes_on : (a b c : Bool) → a ≡ false → c ≡ b → c ≡ a or b
or_goes_on a b c h e = rw (or_past a b h) e

pub ruleset bools = (and_both, and_first_false, and_second_false, and_ends_first, and_ends_second, and_goes_on, or_ends, or_goes_on, lt-ltb, le-ltb, le-leb, lt-leb, eq-eqb, ne_eqb)
