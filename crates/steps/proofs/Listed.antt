-- The options left, by their places. Assumes nothing.
use Prim.Native.Nat.{ℕ, ◌+◌, ◌<◌, ◌≤◌}
use mathlib.Core.Path.{◌≡◌, refl, sym, ap, ◌∙◌}
use mathlib.Core.Logic.{inl, inr}
use mathlib.Core.Bool.{true, false, not, true≢false}
use mathlib.Core.List.Memᴰ.{map as map-in, of_map}
use mathlib.Core.List.{List, [], ◌∷◌, ◌++◌, map, append-nil}
use native.Mathlib.Omega.{arith}
use native.Mathlib.Numerals.{add-one}
use lib.ListN.{length, length-map}
use Rattle.folds.proofs.Tests.{which, same_test, and_right, and_both, and_first_false, and_second_false}
use Rattle.folds.proofs.Loops.{all_at, all_of}
use Rattle.circuit.specs.Tools.{up_to, select}
use Rattle.circuit.specs.Gate.{kind_of, fan_in_fits}
use Rattle.circuit.specs.Circuit.{coded, on, justified}
use Rattle.circuit.specs.Run.{down_options, turns_no_coded, options_left}
use Rattle.circuit.proofs.Lists.{length_up_to, in_up_to, up_to_in, in_select, select_in, select_same, select_append, select_images}
use Rattle.circuit.proofs.Turns.{turns_no_coded_lem, option_few}
use Rattle.map.specs.Map.{gate_count, kind_byte, fan_in, child_at, kids_of, circuit}
use Rattle.map.specs.Check.{kind_test}
use Rattle.map.specs.Inner.{IsMap}
use Rattle.map.proofs.Facts.{well_formed}
use Rattle.kinds.specs.Kinds.{kind_fits}
use Rattle.kinds.proofs.ByPlace.{options_by}
use Rattle.steps.specs.declared.drawn.Drawn.{Drawn}
use Rattle.steps.specs.Options.{option_count_of, option_has, option_up_to, option_gates, child_allowed, option_left, left_up_to, left_of}

module _ (m s : List ℕ) (g : ℕ) where
  -- ---- all options

  abbrev Fits : Type 0
  Fits = fan_in_fits (kind_of (kind_byte m g)) (fan_in m g) ≡ true

  fan_fits : IsMap m → g < gate_count m → Fits
  unfolding kind_test kind_fits
  fan_fits k h = and_right _ _ (k.kinds g h)

  down_options_lem : Fits → down_options (circuit m) s g ≡ map (option_gates m s g) (up_to (option_count_of m s g))
  unfolding down_options kids_of option_count_of option_up_to option_has
  down_options_lem f = options_by (kind_of (kind_byte m g)) (on s g) (on s) (λ j. child_at m g j) (fan_in m g) f

  count_is : Fits → length (down_options (circuit m) s g) ≡ option_count_of m s g
  count_is f = ap length (down_options_lem f) ∙ length-map (up_to (option_count_of m s g)) (option_gates m s g) ∙ length_up_to (option_count_of m s g)

  -- an unjustified gate has at most eight
  few_options : IsMap m → g < gate_count m → justified (circuit m) s g ≡ false → option_count_of m s g ≤ 8
  few_options k h u = rw (← count_is (fan_fits k h)) (option_few (circuit m) (well_formed m k) s g h u).1

  -- ---- an option that is left, child by child

  -- a child that is turned may not be coded
  allowed_free : (i j : ℕ) → child_allowed m s g i j ≡ true → option_has m s g i j ≡ true → coded (circuit m) (child_at m g j) ≡ false
  unfolding child_allowed
  allowed_free i j a h = elim (which (coded (circuit m) (child_at m g j))) [
    | inl q ↦ absurd (true≢false (sym a ∙ ap not (and_both _ _ q h)))
    | inr q ↦ q
  ]

  free_allowed : (i j : ℕ) → (option_has m s g i j ≡ true → coded (circuit m) (child_at m g j) ≡ false) → child_allowed m s g i j ≡ true
  unfolding child_allowed
  free_allowed i j f = elim (which (option_has m s g i j)) [
    | inl q ↦ ap not (and_first_false _ _ (f q))
    | inr q ↦ ap not (and_second_false _ _ q)
  ]

  left_test : (i : ℕ) → turns_no_coded (circuit m) (option_gates m s g i) ≡ option_left m s g i
  unfolding option_left option_up_to
  left_test i = same_test (turns_no_coded (circuit m) (option_gates m s g i)) (option_left m s g i)
      (λ t. all_of (child_allowed m s g i) (fan_in m g) (λ j l. free_allowed i j (λ h.
      (turns_no_coded_lem (circuit m) (option_gates m s g i)).0 t (child_at m g j)
      (map-in (λ k. child_at m g k) (in_select (option_has m s g i) j (up_to (fan_in m g)) (up_to_in j (fan_in m g) l) h)))))
      (λ t. (turns_no_coded_lem (circuit m) (option_gates m s g i)).1 (λ x n.
      let (j, a, e) = of_map (λ k. child_at m g k) _ n in
      let (b, h) = select_in (option_has m s g i) j (up_to (fan_in m g)) a in
      ap (coded (circuit m)) (sym e) ∙ allowed_free i j (all_at (child_allowed m s g i) (fan_in m g) j t (in_up_to j (fan_in m g) b)) h))

  left_options : Fits → options_left (circuit m) s g ≡ map (option_gates m s g) (left_of m s g)
  unfolding options_left left_up_to
  left_options f =
      ap (select (turns_no_coded (circuit m))) (down_options_lem f)
      ∙ select_images (option_gates m s g) (turns_no_coded (circuit m)) (up_to (option_count_of m s g))
      ∙ ap (map (option_gates m s g)) (select_same (λ i. turns_no_coded (circuit m) (option_gates m s g i)) (option_left m s g) (up_to (option_count_of m s g)) (λ i n. left_test i))

  -- ---- the loop that lists

  pub list_none : [] ≡ left_up_to m s g 0
  unfolding left_up_to
  list_none = refl

  pub list_left : (i : ℕ) → option_left m s g i ≡ true → left_up_to m s g (i + 1) ≡ left_up_to m s g i ++ (i ∷ [])
  unfolding left_up_to
  list_left i q = rw (add-one i) (select_append (option_left m s g) (up_to i) (i ∷ []) ∙ rw q)

  pub list_not_left : (i : ℕ) → option_left m s g i ≡ false → left_up_to m s g (i + 1) ≡ left_up_to m s g i
  unfolding left_up_to
  list_not_left i q = rw (add-one i) (select_append (option_left m s g) (up_to i) (i ∷ []) ∙ rw (q, append-nil (select (option_left m s g) (up_to i))))

-- of a drawn gate, which is unjustified: so it has at most eight
pub few_drawn : (d : Drawn) → option_count_of d.s.map.bytes.now d.s.bytes.now d.gate.number ≤ 8
few_drawn d = few_options _ _ _ d.s.map.is (omega (arith, d.drawable, d.s.map.contents)) d.drawable.unjustified

pub left_drawn : (d : Drawn) → options_left (circuit d.s.map.bytes.now) d.s.bytes.now d.gate.number
    ≡ map (option_gates d.s.map.bytes.now d.s.bytes.now d.gate.number) (left_of d.s.map.bytes.now d.s.bytes.now d.gate.number)
left_drawn d = left_options _ _ _ (fan_fits _ d.s.bytes.now _ d.s.map.is (omega (arith, d.drawable, d.s.map.contents)))
