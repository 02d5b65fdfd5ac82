-- The numbers below n of which p holds: how many they are, and how a loop finds one of them. Assumes nothing.
use Rattle.std.proofs.Common.{ℕ, zero, suc, ◌+◌, ◌<◌, ◌≤◌, ◌≡◌, Bool, true, false, List, [], ◌∷◌, ◌++◌, length, map, map-id, get_or, eqb, take, sym, ap, refl, ◌∙◌, inl, inr, arith, add-one, add-zero}
use Rattle.std.proofs.Math.Seq.{take-length}
use mir.Val.{bool_byte}
use Rattle.std.specs.List.{range_with_len, count_by}
use Rattle.std.proofs.lemmas.List.{get_or_default}
use Rattle.std.proofs.lemmas.List.FromFn.{map-range_with_len_more}
use Rattle.std.proofs.lemmas.List.Sums.{count_by_more_yes, count_by_more_no}
use Rattle.folds.proofs.Tests.{which}
use Rattle.circuit.specs.Tools.{up_to, select}
use Rattle.circuit.proofs.Lists.{in_up_to, select_same, place_of, place_more, table_at}
use Rattle.picks.specs.Picks.{places_of, front_by, equal_to}

pub range_is : (n : ℕ) → range_with_len 0 n ≡ up_to n
range_is zero = refl
range_is (suc n) =
    sym (map-id (range_with_len 0 (suc n)))
    ∙ ap (λ (m : ℕ). map (λ x. x) (range_with_len 0 m)) (sym (add-one n))
    ∙ map-range_with_len_more (λ x. x) 0 n n (omega arith)
    ∙ ap (λ (l : List ℕ). l ++ n ∷ []) (map-id (range_with_len 0 n) ∙ range_is n)

module _ (p : ℕ → Bool) where
  -- how many items of a list it holds of, by their places
  counted : (xs : List ℕ) (n : ℕ) → n ≤ length xs → count_by p (take n xs) ≡ place_of (λ j. p (get_or xs j 0)) n
  counted xs zero h = refl
  counted xs (suc n) h = elim (which (p (get_or xs n 0))) [
    | inl q ↦ rw (← add-one n) (count_by_more_yes p xs n 0 h q) ∙ ap (λ k. k + 1) (counted xs n (omega arith)) ∙ sym (place_more (λ j. p (get_or xs j 0)) n ∙ rw q refl)
    | inr q ↦ rw (← add-one n) (count_by_more_no p xs n 0 h q) ∙ counted xs n (omega arith) ∙ sym (place_more (λ j. p (get_or xs j 0)) n ∙ rw (q, add-zero) refl)
  ]

  pub count_is : (xs : List ℕ) → count_by p xs ≡ length (select (λ j. p (get_or xs j 0)) (up_to (length xs)))
  count_is xs = rw take-length at (counted xs (length xs) (omega arith))

-- the places where numbers equal one, said by another default: none is read past the end
places_by_0 : (w : List ℕ) (v : ℕ) → places_of eqb w v ≡ select (λ i. eqb (get_or w i 0) v) (up_to (length w))
unfolding places_of
places_by_0 w v = select_same _ _ (up_to (length w)) (λ i m. ap (λ x. eqb x v) (get_or_default w i v 0 (in_up_to i (length w) m)))

pub places_front : (w : List ℕ) → places_of eqb w 3 ≡ front_by w
unfolding front_by
places_front w = places_by_0 w 3

pub places_equal : (w : List ℕ) (v : ℕ) → places_of eqb w v ≡ equal_to w (length w) v
unfolding equal_to
places_equal w v = places_by_0 w v

-- a loop that looks for place k: `left` are still to be passed at g, and `hit` is 1 where p holds of g
module _ (p : ℕ → Bool) where
  hit_is : (b : Bool) (hit left : ℕ) → hit ≡ bool_byte b → left < hit → (b ≡ true) × (left ≡ 0)
  hit_is true hit left h l = (refl, omega arith)
  hit_is false hit left h l = absurd (omega arith)

  pub found_at : (n g k left hit : ℕ) → left + place_of p g ≡ k → hit ≡ bool_byte (p g) → left < hit → g < n → g ≡ get_or (select p (up_to n)) k 0
  found_at n g k left hit e h l b =
      let (q, z) = hit_is (p g) hit left h l in
      let w : place_of p g ≡ k = omega arith in
      sym (ap (λ (i : ℕ). get_or (select p (up_to n)) i 0) (sym w) ∙ ap (λ (l : List ℕ). get_or l (place_of p g) 0) (sym (map-id (select p (up_to n)))) ∙ table_at p (λ x. x) n g b q)

  -- all are passed: none was left to look for
  pub none_left_lem : (n k left : ℕ) → left + place_of p n ≡ k → k < length (select p (up_to n)) → ⊥
  none_left_lem n k left e l = omega arith
