-- What Check's verdict says: the facts of an accepted map, and that its circuit is well formed. Assumes nothing.
use Prim.Native.Nat.{ℕ, zero, suc, ◌+◌, ◌-◌, ◌<◌}
use mathlib.Core.Path.{◌≡◌, sym, ◌∙◌}
use mathlib.Core.Bool.{true}
use mathlib.Core.Logic.{inl, inr}
use mathlib.Core.List.{List, [], ◌∷◌, map, map-append}
use mathlib.Core.List.Memᴰ.{of_map}
use mathlib.Core.List.{Memᴰ as In}
use native.Mathlib.Nat.{le_of_suc-le-suc, eq-or-lt_of_le}
use native.Mathlib.Omega.{arith}
use lib.Dec.{eqb, ltb}
use lib.ListN.{length, length-map}
use borrow.Author.Tests.{ltb-true, leb-true, ne_eqb}
use Rattle.folds.specs.Folds.{◌or◌, all_below}
use Rattle.folds.proofs.Tests.{and_left, and_right, or_past}
use Rattle.folds.proofs.Loops.{all_at}
use Rattle.circuit.specs.Tools.{up_to, Rising}
use Rattle.circuit.specs.Circuit.{WellFormed}
use Rattle.circuit.specs.declared.Refusal.{Refusal}
use Rattle.circuit.specs.Refusal.{number_of}
use Rattle.circuit.proofs.Refusals.{number_some}
use Rattle.circuit.proofs.Lists.{in_up_to, length_up_to, rising_end}
use Rattle.map.specs.Map.{gate_count, code_count, fan_in, child_at, code_gate, kids_of, circuit}
use Rattle.kinds.specs.Kinds.{kind_fits}
use Rattle.map.specs.Check.{kind_test, positions_test, child_test, children_test, code_test, first_failed, contents_tests, bodies_tests, map_tests, verdict}
use Rattle.map.specs.Inner.{IsMap}
use Rattle.map.proofs.Laws.{none_failed, contents_passed, contents_some, placed_of, sound_of, passed_before, fails_before, passes_before, contents_numbered}

-- a table of rising numbers rises
module _ (f : ℕ → ℕ) where
  pub steps : (n i j : ℕ) → ((k : ℕ) → k + 1 < n → f k < f (k + 1)) → i < j → j < n → f i < f j
  steps n i zero up l h = absurd (omega arith)
  steps n i (suc j) up l h =
      let e : j + 1 ≡ suc j = omega arith in
      let s : f j < f (suc j) = rw e at (up j (omega arith)) in
      elim (eq-or-lt_of_le (le_of_suc-le-suc l)) [
        | inl q ↦ rw q s
        | inr q ↦ omega (arith, steps n i j up q (omega arith))
      ]

  rising_table : (n : ℕ) → ((k : ℕ) → k + 1 < n → f k < f (k + 1)) → Rising (map f (up_to n))
  rising_table zero up = tt
  rising_table (suc n) up = rw (map-append f (up_to n) (n ∷ [])) (rising_end (map f (up_to n)) (f n) (rising_table n (λ k h. up k (omega arith)))
      (λ x m. (let (i, j, e) = of_map f (up_to n) m in rw (← e) (steps (suc n) i n up (in_up_to i n j) (omega arith)))))

-- what a test of neighbours says
pub ascends : (f : ℕ → ℕ) (j : ℕ) → (eqb (j + 1) 0 or ltb (f (j + 1 - 1)) (f (j + 1))) ≡ true → f j < f (j + 1)
ascends f j e =
    let q : j + 1 - 1 ≡ j = omega arith in
    ltb-true (f j) (f (j + 1)) (rw q at (sym (or_past _ _ (ne_eqb (j + 1) 0 (λ z. omega arith))) ∙ e))

module _ (m : List ℕ) (v : verdict m ≡ 0) where
  pub contents : first_failed (contents_tests m) ≡ 0
  unfolding verdict map_tests
  contents = passed_before (contents_tests m) (bodies_tests m) v

  bodies : first_failed (bodies_tests m) ≡ 0
  unfolding verdict map_tests
  bodies = sym (passes_before (contents_tests m) (bodies_tests m) (contents_numbered m) contents) ∙ v

  -- tests 4 to 7, one by one
  pub bodies_tests_lem : (all_below (gate_count m) (kind_test m) ≡ true) × (positions_test m ≡ true) × (all_below (gate_count m) (children_test m) ≡ true)
      × (all_below (code_count m) (code_test m) ≡ true)
  unfolding bodies_tests
  bodies_tests_lem =
      let t4 = none_failed 3 _ _ bodies in
      let t5 = none_failed 4 _ _ t4.1 in
      let t6 = none_failed 5 _ _ t5.1 in
      (t4.0, t5.0, t6.0, (none_failed 6 _ _ t6.1).0)

  pub facts : IsMap m
  unfolding children_test child_test code_test
  facts =
      let (t4, t5, t6, t7) = bodies_tests_lem in
      record {
        sound = sound_of m (placed_of m (contents_passed m contents).1 t5) t6 t7;
        some_gate = contents_some m contents;
        kinds = λ g h. all_at (kind_test m) (gate_count m) g t4 h;
        children_ascend = λ g j h l. ascends (λ i. child_at m g i) j (and_right _ _ (all_at (child_test m g) (fan_in m g) (j + 1) (all_at (children_test m) (gate_count m) g t6 h) l));
        codes_ascend = λ r l. ascends (λ i. code_gate m i) r (and_right _ _ (and_left _ _ (and_left _ _ (all_at (code_test m) (code_count m) (r + 1) t7 l))));
        code_values = λ r l. leb-true _ _ (and_right _ _ (and_left _ _ (all_at (code_test m) (code_count m) r t7 l)));
      }

-- the verdict, by what the two halves of the tests give
module _ (m : List ℕ) where
  pub refused_early : (e : Refusal) → number_of e ≡ first_failed (contents_tests m) → number_of e ≡ verdict m
  unfolding verdict map_tests
  refused_early e q = q ∙ sym (fails_before (contents_tests m) (bodies_tests m) (λ z. omega (arith, number_some e)))

  pub verdict_late : 0 ≡ first_failed (contents_tests m) → verdict m ≡ first_failed (bodies_tests m)
  unfolding verdict map_tests
  verdict_late q = passes_before (contents_tests m) (bodies_tests m) (contents_numbered m) (sym q)

pub ruleset verdict_by = (refused_early, verdict_late, facts)

module _ (m : List ℕ) (k : IsMap m) where
  pub kids_length : (g : ℕ) → length (kids_of m g) ≡ fan_in m g
  unfolding kids_of
  kids_length g = length-map (up_to (fan_in m g)) (λ j. child_at m g j) ∙ length_up_to (fan_in m g)

  -- a child has a place
  pub kid_at : (g x : ℕ) → In x (kids_of m g) → (j : ℕ) × (j < fan_in m g) × (child_at m g j ≡ x)
  unfolding kids_of
  kid_at g x i = (let (j, n, e) = of_map (λ a. child_at m g a) (up_to (fan_in m g)) i in (j, in_up_to j (fan_in m g) n, e))

  pub well_formed : WellFormed (circuit m)
  unfolding kind_test kind_fits kids_of
  well_formed = record {
    fits = λ g h. rw (kids_length g) (and_right _ _ (k.kinds g h));
    below = λ g h x i. (let (j, l, e) = kid_at g x i in rw (← e) (k.sound.below g j h l));
    rising = λ g h. rising_table (λ j. child_at m g j) (fan_in m g) (λ j l. k.children_ascend g j h l);
  }
