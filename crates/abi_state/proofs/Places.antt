-- Numbers in lent places. Assumes nothing.
use Rattle.std.proofs.Common.{ℕ, zero, suc, ◌+◌, ◌<◌, ◌≤◌, ◌≡◌, List, [], ◌∷◌, length, get_or, set, take, refl, ap, arith, add-one}
use Rattle.abi_state.specs.Numbers.{placed, PlacedIs}

-- no number yet, and one more
pub placed_none : (xs ns : List ℕ) → placed (take 0 xs) ns ≡ ns
unfolding placed
placed_none xs ns = refl

next : (xs ns : List ℕ) (i : ℕ) → i < length xs → set (placed (take i xs) ns) i (get_or xs i 0) ≡ placed (take (suc i) xs) ns
unfolding placed
next [] ns i l = absurd (omega arith)
next (x ∷ xs) [] zero l = refl
next (x ∷ xs) [] (suc i) l = refl
next (x ∷ xs) (n ∷ ns) zero l = refl
next (x ∷ xs) (n ∷ ns) (suc i) l = ap (λ (t : List ℕ). x ∷ t) (next xs ns i (omega arith))

pub placed_next : (xs ns : List ℕ) (i : ℕ) → i < length xs → set (placed (take i xs) ns) i (get_or xs i 0) ≡ placed (take (i + 1) xs) ns
placed_next xs ns i l = rw (add-one i) (next xs ns i l)

-- ---- what it means

places_kept : (xs ns : List ℕ) → length (placed xs ns) ≡ length ns
unfolding placed
places_kept [] ns = refl
places_kept (x ∷ xs) [] = refl
places_kept (x ∷ xs) (n ∷ ns) = ap suc (places_kept xs ns)

in_first : (xs ns : List ℕ) (i : ℕ) → i < length xs → i < length ns → get_or (placed xs ns) i 0 ≡ get_or xs i 0
unfolding placed
in_first [] ns i l h = absurd (omega arith)
in_first (x ∷ xs) [] i l h = absurd (omega arith)
in_first (x ∷ xs) (n ∷ ns) zero l h = refl
in_first (x ∷ xs) (n ∷ ns) (suc i) l h = in_first xs ns i (omega arith) (omega arith)

in_others : (xs ns : List ℕ) (i : ℕ) → length xs ≤ i → get_or (placed xs ns) i 0 ≡ get_or ns i 0
unfolding placed
in_others [] ns i l = refl
in_others (x ∷ xs) [] i l = refl
in_others (x ∷ xs) (n ∷ ns) zero l = absurd (omega arith)
in_others (x ∷ xs) (n ∷ ns) (suc i) l = in_others xs ns i (omega arith)

pub placed_is : PlacedIs
placed_is xs ns = record { as_many = places_kept xs ns; first = in_first xs ns; others = in_others xs ns }
