-- Check by plain facts: its number, which maps it accepts, what an accepted map has, and what Check says. Assumes nothing.
use Prim.Native.Nat.{ℕ, zero, suc, ◌+◌, ◌-◌, ◌<◌, ◌≤◌}
use mathlib.Core.Path.{◌≡◌, refl, sym, ap, ◌∙◌}
use mathlib.Core.Bool.{Bool, true, false≢true, true≢false}
use mathlib.Core.Option.{some}
use mathlib.Core.Logic.{inl, inr}
use mathlib.Core.List.{List, [], ◌∷◌, ◌++◌}
use native.Mathlib.Omega.{arith}
use lib.Dec.{eqb, leb, ltb}
use borrow.Author.Tests.{eqb-true, eqb-false, eq-eqb, lt-ltb, ltb-true, leb-true, le-leb}
use Rattle.folds.specs.Folds.{◌and◌, ◌or◌, all_below}
use Rattle.folds.proofs.Tests.{which, and_left, and_right, and_both, or_first, or_second}
use Rattle.folds.proofs.Loops.{all_at, all_of}
use Rattle.circuit.specs.Tools.{byte}
use Rattle.circuit.specs.Gate.{kind_of, is_input, FanInAllowed}
use Rattle.circuit.specs.Evaluate.{inputs, inputs_before}
use Rattle.circuit.proofs.Lists.{map_at}
use Rattle.circuit.proofs.Values.{on_byte, bit_byte}
use Rattle.circuit.proofs.Survey.{lists_set}
use Rattle.circuit.proofs.Source001.{gate_zero}
use Rattle.map.specs.Map.{most_gates, gate_count, code_count, kind_byte, fan_in, child_at, code_gate, kids_of, circuit}
use Rattle.map.specs.Check.{offsets_test, kind_test, position_test, positions_test, child_test, children_test, code_test, first_failed, contents_tests, bodies_tests, map_tests, verdict, check_effect, Laid, Summed, Ordered, CodesAllowed, Described, MapAccepts, Test, passes, fails, MapNumber, CheckNumber, CheckAccepts, CheckDoes, CheckRefuses, AcceptedMaps}
use Rattle.kinds.proofs.Bytes.{gate_kind}
use Rattle.kinds.proofs.Fans.{fits_allowed, allowed_fits, kind_is}
use Rattle.map.proofs.Laws.{past, stop, no_test, contents_tests_lem}
use Rattle.map.proofs.Facts.{ascends, contents, bodies_tests_lem, facts, kids_length, well_formed}
use Rattle.map.proofs.Codes.{code_record, code_found}

-- ---- a test and its fact

-- the number of a list of tests, by the first
pub tested : (k : ℕ) (b : Bool) (ts : List (ℕ × Bool)) (n : ℕ) (P Rest : Type 0) → n ≡ first_failed ((k, b) ∷ ts)
    → (b ≡ true → P) → (P → b ≡ true) → (b ≡ true → n ≡ first_failed ts → Rest) → Test n k P Rest
tested k b ts n P Rest e to from rest = elim (which b) [
  | inl q ↦ passes (to q) (rest q (e ∙ past k b ts q))
  | inr q ↦ fails (λ p. true≢false (sym (from p) ∙ q)) (e ∙ stop k b ts q)
]

-- a test of neighbours, where they ascend
neighbours : (f : ℕ → ℕ) (n j : ℕ) → ((i : ℕ) → i + 1 < n → f i < f (i + 1)) → j < n → (eqb j 0 or ltb (f (j - 1)) (f j)) ≡ true
neighbours f n zero up l = or_first _ _ refl
neighbours f n (suc i) up l =
    let e : i + 1 ≡ suc i = omega arith in
    let q : suc i - 1 ≡ i = omega arith in
    or_second _ _ (rw q (lt-ltb (f i) (f (suc i)) (rw e at (up i (omega arith)))))

-- ---- each of the seven, there and back

module _ (m : List ℕ) where
  abbrev Few : Type 0
  Few = (1 ≤ gate_count m) × (gate_count m ≤ most_gates)

  few : leb 1 (gate_count m) and leb (gate_count m) most_gates ≡ true → Few
  few e = (leb-true _ _ (and_left _ _ e), leb-true _ _ (and_right _ _ e))

  of_few : Few → leb 1 (gate_count m) and leb (gate_count m) most_gates ≡ true
  of_few p = and_both _ _ (le-leb _ _ p.0) (le-leb _ _ p.1)

  laid : offsets_test m ≡ true → Laid m
  unfolding offsets_test
  laid e = (let f = and_left _ _ e in
      record { gates_at = eqb-true _ _ (and_left _ _ (and_left _ _ f)); children_at = eqb-true _ _ (and_right _ _ (and_left _ _ f)); codes_at = eqb-true _ _ (and_right _ _ f); long = eqb-true _ _ (and_right _ _ e) })

  of_laid : Laid m → offsets_test m ≡ true
  unfolding offsets_test
  of_laid p = and_both _ _ (and_both _ _ (and_both _ _ (eq-eqb _ _ p.gates_at) (eq-eqb _ _ p.children_at)) (eq-eqb _ _ p.codes_at)) (eq-eqb _ _ p.long)

  abbrev Kinds : Type 0
  Kinds = (g : ℕ) → g < gate_count m → FanInAllowed (kind_byte m g) (fan_in m g)

  kinds : all_below (gate_count m) (kind_test m) ≡ true → Kinds
  unfolding kind_test
  kinds e g h = fits_allowed (kind_byte m g) (fan_in m g) (all_at (kind_test m) (gate_count m) g e h)

  of_kinds : Kinds → all_below (gate_count m) (kind_test m) ≡ true
  unfolding kind_test
  of_kinds p = all_of (kind_test m) (gate_count m) (λ g h. allowed_fits (kind_byte m g) (fan_in m g) (p g h))

  summed : positions_test m ≡ true → Summed m
  unfolding positions_test position_test
  summed e = record { positions = λ g h. eqb-true _ _ (all_at (position_test m) (gate_count m) g (and_left _ _ e) h); total = eqb-true _ _ (and_right _ _ e) }

  of_summed : Summed m → positions_test m ≡ true
  unfolding positions_test position_test
  of_summed p = and_both _ _ (all_of (position_test m) (gate_count m) (λ g h. eq-eqb _ _ (p.positions g h))) (eq-eqb _ _ p.total)

  ordered : all_below (gate_count m) (children_test m) ≡ true → Ordered m
  unfolding children_test child_test
  ordered e = record {
    below = λ g j h l. ltb-true _ _ (and_left _ _ (all_at (child_test m g) (fan_in m g) j (all_at (children_test m) (gate_count m) g e h) l));
    ascend = λ g j h l. ascends (λ i. child_at m g i) j (and_right _ _ (all_at (child_test m g) (fan_in m g) (j + 1) (all_at (children_test m) (gate_count m) g e h) l));
  }

  of_ordered : Ordered m → all_below (gate_count m) (children_test m) ≡ true
  unfolding children_test child_test
  of_ordered p = all_of (children_test m) (gate_count m) (λ g h. all_of (child_test m g) (fan_in m g) (λ j l. and_both _ _ (lt-ltb _ _ (p.below g j h l))
      (neighbours (λ i. child_at m g i) (fan_in m g) j (λ i b. p.ascend g i h b) l)))

  codes : all_below (code_count m) (code_test m) ≡ true → CodesAllowed m
  unfolding code_test
  codes e =
      let at : (r : ℕ) → r < code_count m → code_test m r ≡ true = λ r l. all_at (code_test m) (code_count m) r e l in
      record {
        gates = λ r l. ltb-true _ _ (and_left _ _ (and_left _ _ (and_left _ _ (at r l))));
        ascend = λ r l. ascends (λ i. code_gate m i) r (and_right _ _ (and_left _ _ (and_left _ _ (at (r + 1) l))));
        values = λ r l. leb-true _ _ (and_right _ _ (and_left _ _ (at r l)));
        zeros = λ r l. eqb-true _ _ (and_right _ _ (at r l));
      }

  of_codes : CodesAllowed m → all_below (code_count m) (code_test m) ≡ true
  unfolding code_test
  of_codes p = all_of (code_test m) (code_count m) (λ r l. and_both _ _ (and_both _ _ (and_both _ _ (lt-ltb _ _ (p.gates r l)) (neighbours (λ i. code_gate m i) (code_count m) r p.ascend l))
      (le-leb _ _ (p.values r l))) (eq-eqb _ _ (p.zeros r l)))

-- ---- the number of a call, and the maps that are accepted

pub map_number : (m : List ℕ) (ts : List (ℕ × Bool)) (n : ℕ) (Rest : Type 0) → n ≡ first_failed (map_tests m ++ ts) → (verdict m ≡ 0 → n ≡ first_failed ts → Rest) → MapNumber n m Rest
unfolding map_tests contents_tests bodies_tests verdict
map_number m ts n Rest e rest =
    tested 1 _ _ n _ _ e (leb-true _ _) (le-leb _ _) λ q1 e1.
    tested 2 _ _ n _ _ e1 (few m) (of_few m) λ q2 e2.
    tested 3 _ _ n _ _ e2 (laid m) (of_laid m) λ q3 e3.
    tested 4 _ _ n _ _ e3 (kinds m) (of_kinds m) λ q4 e4.
    tested 5 _ _ n _ _ e4 (summed m) (of_summed m) λ q5 e5.
    tested 6 _ _ n _ _ e5 (ordered m) (of_ordered m) λ q6 e6.
    tested 7 _ ts n _ Rest e6 (codes m) (of_codes m) λ q7 e7.
    rest (past _ _ _ q1 ∙ past _ _ _ q2 ∙ past _ _ _ q3 ∙ past _ _ _ q4 ∙ past _ _ _ q5 ∙ past _ _ _ q6 ∙ past _ _ _ q7 ∙ no_test) e7

module _ (m : List ℕ) where
  described : verdict m ≡ 0 → Described m
  described v =
      let (t1, t2, t3) = contents_tests_lem m (contents m v) in
      let (t4, t5, t6, t7) = bodies_tests_lem m v in
      record { contents = leb-true _ _ t1; few = few m t2; laid = laid m t3; kinds = kinds m t4; summed = summed m t5; ordered = ordered m t6; codes = codes m t7 }

  of_described : Described m → verdict m ≡ 0
  unfolding verdict map_tests contents_tests bodies_tests
  of_described d =
      past _ _ _ (le-leb _ _ d.contents)
      ∙ past _ _ _ (of_few m d.few)
      ∙ past _ _ _ (of_laid m d.laid)
      ∙ past _ _ _ (of_kinds m d.kinds)
      ∙ past _ _ _ (of_summed m d.summed)
      ∙ past _ _ _ (of_ordered m d.ordered)
      ∙ past _ _ _ (of_codes m d.codes)
      ∙ no_test

  number_is : (check_effect m).number ≡ first_failed (map_tests m ++ [])
  unfolding check_effect verdict map_tests contents_tests bodies_tests
  number_is = elim (which (eqb (verdict m) 0)) [
    | inl q ↦ rw q (sym (eqb-true (verdict m) 0 q))
    | inr q ↦ rw q refl
  ]

  was : (check_effect m).accepted ≡ true → verdict m ≡ 0
  unfolding check_effect
  was e = elim (which (eqb (verdict m) 0)) [
    | inl q ↦ eqb-true (verdict m) 0 q
    | inr q ↦ absurd (false≢true (rw q at e))
  ]

pub map_accepts : MapAccepts
map_accepts m = (described m, of_described m)

pub check_number : CheckNumber
check_number m = map_number m [] (check_effect m).number ((check_effect m).number ≡ 0) (number_is m) (λ v e. e ∙ no_test)

pub check_accepts : CheckAccepts
unfolding check_effect
check_accepts m = (λ e. described m (was m e), λ d. rw (eq-eqb (verdict m) 0 (of_described m d)))

pub check_does : CheckDoes
unfolding check_effect inputs_before
check_does m e = rw (eq-eqb (verdict m) 0 (was m e)) (record {
  number = refl;
  gates = refl;
  inputs = record {
    elements = inputs (circuit m);
    lists = lists_set (circuit m) (λ g. is_input (kind_of (kind_byte m g))) _ (λ g h q. (h, input_byte g q)) (λ g h. (h.0, rw h.1));
    many = refl;
  };
  children = refl;
  codes = refl;
})
  where
    input_byte : (g : ℕ) → is_input (kind_of (kind_byte m g)) ≡ true → kind_byte m g ≡ 0
    input_byte g q = elim (which (eqb (kind_byte m g) 0)) [
      | inl z ↦ eqb-true _ _ z
      | inr z ↦ absurd (true≢false (sym q ∙ gate_kind (kind_byte m g) (eqb-false _ _ z)))
    ]

pub check_refuses : CheckRefuses
unfolding check_effect
check_refuses m e = elim (which (eqb (verdict m) 0)) [
  | inl q ↦ absurd (true≢false (rw q at e))
  | inr q ↦ rw q (record { numbered = eqb-false (verdict m) 0 q; zeros = (refl, (refl, (refl, refl))) })
]

pub accepted_maps : AcceptedMaps
unfolding kids_of
accepted_maps m v =
    let d = described m v in
    let k = facts m v in
    let w = well_formed m k in
    record {
      circuit_is = w;
      kinds_are = λ g h. kind_is (kind_byte m g) (fan_in m g) (d.kinds g h);
      fan_ins_are = kids_length m k;
      kids_are = λ g j l. map_at (λ i. child_at m g i) (fan_in m g) j 0 l;
      codes_are = λ g b. (
        λ e. (let (r, l, f, h) = code_record m (code_count m) g b e in (r, l, f, bit_byte _ (k.code_values r l) ∙ ap byte (sym h))),
        λ (r, l, f, h). rw (← f) (code_found m k.codes_ascend (code_count m) r l (omega arith) ∙ ap (λ (n : ℕ). some (eqb n 1)) h ∙ ap some (on_byte b)),
      );
      gate_zero = elim (which (eqb (kind_byte m 0) 0)) [
        | inl q ↦ eqb-true _ _ q
        | inr q ↦ absurd (true≢false (sym (gate_zero (circuit m) w k.some_gate) ∙ gate_kind (kind_byte m 0) (eqb-false _ _ q)))
      ];
    }
