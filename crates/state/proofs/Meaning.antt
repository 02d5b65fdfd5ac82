-- What Evaluate and Mark mean. Assumes nothing.
use Prim.Native.Nat.{ℕ, ◌≤◌}
use mathlib.Core.Path.{◌≡◌, refl, sym, ◌∙◌}
use mathlib.Core.Bool.{Bool, true, false≢true, true≢false}
use mathlib.Core.Logic.{inl, inr}
use mathlib.Core.List.{List, [], ◌++◌}
use lib.Dec.{eqb, leb}
use lib.ListN.{length, get_or}
use borrow.Author.Tests.{eqb-true, eqb-false, eq-eqb, leb-true, le-leb}
use Rattle.folds.proofs.Tests.{which}
use Rattle.folds.proofs.Loops.{all_of}
use Rattle.circuit.specs.Tools.{over}
use Rattle.circuit.specs.Circuit.{Configuration}
use Rattle.circuit.specs.Evaluate.{inputs_before, Row, evaluate, mark}
use Rattle.circuit.proofs.Evaluate.{evaluate_is, mark_is}
use Rattle.map.specs.Map.{gate_count, circuit}
use Rattle.map.specs.Check.{first_failed, map_tests, verdict}
use Rattle.map.proofs.Laws.{none_failed, past, no_test, passed_before}
use Rattle.map.proofs.Facts.{facts, well_formed}
use Rattle.map.proofs.Answers.{behind_accepted}
use Rattle.map.proofs.Described.{tested, map_number}
use Rattle.state.specs.State.{Bits, bits_test, row_tests, configuration_tests, evaluate_by, evaluate_effect, EvaluateDoes, EvaluateAccepts, EvaluateNumber, EvaluateRefuses, mark_by, mark_effect, MarkDoes, MarkAccepts, ConfigurationNumber, MarkNumber, MarkRefuses}
use Rattle.state.proofs.Filling.{bits_of}
use Rattle.circuit.proofs.Over.{over_first, over_rest, over_long}

-- ---- tests behind the map's

pub behind : (m : List ℕ) (b : List (ℕ × Bool)) → first_failed (map_tests m ++ b) ≡ 0 → (verdict m ≡ 0) × (first_failed b ≡ 0)
unfolding verdict
behind m b e = (let v = passed_before (map_tests m) b e in (v, sym (behind_accepted m b v) ∙ e))

of_bits : (s : List ℕ) → Bits s → bits_test s ≡ true
unfolding bits_test
of_bits s k = all_of (λ i. leb (get_or s i 0) 1) (length s) (λ i h. le-leb _ _ (k i))

-- ---- Evaluate

module _ (m row out : List ℕ) where
  abbrev row_number : ℕ
  row_number = first_failed (map_tests m ++ row_tests m row out)

  none : (evaluate_effect m row out).accepted ≡ true → row_number ≡ 0
  unfolding evaluate_effect evaluate_by
  none e = elim (which (eqb row_number 0)) [
    | inl q ↦ eqb-true row_number 0 q
    | inr q ↦ absurd (false≢true (rw q at e))
  ]

  accepted : row_number ≡ 0 → (evaluate_effect m row out).accepted ≡ true
  unfolding evaluate_effect evaluate_by
  accepted e = rw (eq-eqb row_number 0 e)

  written : row_number ≡ 0 → evaluate_effect m row out ≡ record { accepted = true; number = 0; out = over (evaluate (circuit m) row) out }
  unfolding evaluate_effect evaluate_by
  written e = rw (eq-eqb row_number 0 e)

  row_number_is : (evaluate_effect m row out).number ≡ row_number
  unfolding evaluate_effect evaluate_by
  row_number_is = elim (which (eqb row_number 0)) [
    | inl q ↦ rw q (sym (eqb-true row_number 0 q))
    | inr q ↦ rw q refl
  ]

  row_of : first_failed (row_tests m row out) ≡ 0 → Row (circuit m) row × (gate_count m ≤ length out)
  unfolding row_tests inputs_before
  row_of e =
      let t9 = none_failed 8 _ _ e in
      let t10 = none_failed 9 _ _ t9.1 in
      (record { long = eqb-true _ _ t9.0; bits = bits_of row t10.0 }, leb-true _ _ (none_failed 13 _ _ t10.1).0)

  of_row : Row (circuit m) row → gate_count m ≤ length out → first_failed (row_tests m row out) ≡ 0
  unfolding row_tests inputs_before
  of_row k l = past _ _ _ (eq-eqb _ _ k.long) ∙ past _ _ _ (of_bits row k.bits) ∙ past _ _ _ (le-leb _ _ l) ∙ no_test

pub evaluate_does : EvaluateDoes
evaluate_does m row out e =
    let n = none m row out e in
    let (v, t) = behind m (row_tests m row out) n in
    let (k, r) = row_of m row out t in
    let (w, only) = evaluate_is (circuit m) (well_formed m (facts m v)) row k in
    let l : length (evaluate (circuit m) row) ≡ gate_count m = w.configuration.long in
    let first = over_first (evaluate (circuit m) row) out (gate_count m) l in
    rw (written m row out n) (record {
      number = refl;
      values = rw first w;
      only = λ s h. only s h ∙ sym first;
      surplus = over_rest (evaluate (circuit m) row) out (gate_count m) l;
      long = over_long (evaluate (circuit m) row) out (gate_count m) l r;
    })

pub evaluate_accepts : EvaluateAccepts
evaluate_accepts m row out = (
  λ e. (let (v, t) = behind m (row_tests m row out) (none m row out e) in (v, row_of m row out t)),
  λ a. accepted m row out (behind_accepted m _ a.0 ∙ of_row m row out a.1.0 a.1.1),
)

pub evaluate_number : EvaluateNumber
unfolding row_tests
evaluate_number m row out =
    let n = (evaluate_effect m row out).number in
    map_number m _ n _ (row_number_is m row out) λ v e.
    tested 9 _ _ n _ _ e (eqb-true _ _) (eq-eqb _ _) λ q9 e9.
    tested 10 _ _ n _ _ e9 (bits_of row) (of_bits row) λ q10 e10.
    tested 14 _ _ n _ _ e10 (leb-true _ _) (le-leb _ _) λ q14 e14.
    e14 ∙ no_test

pub evaluate_refuses : EvaluateRefuses
unfolding evaluate_effect evaluate_by
evaluate_refuses m row out e = elim (which (eqb (row_number m row out) 0)) [
  | inl q ↦ absurd (true≢false (rw q at e))
  | inr q ↦ rw q (record { numbered = eqb-false (row_number m row out) 0 q; untouched = refl })
]

-- ---- Mark

said_yes : (m s : List ℕ) → (mark_effect m s).yes ≡ true → (first_failed (map_tests m ++ configuration_tests m s) ≡ 0) × (mark (circuit m) s ≡ true)
unfolding mark_effect mark_by
said_yes m s e = elim (which (eqb (first_failed (map_tests m ++ configuration_tests m s)) 0)) [
  | inl q ↦ (eqb-true _ 0 q, rw q at e)
  | inr q ↦ absurd (false≢true (rw q at e))
]

says_yes : (m s : List ℕ) → first_failed (map_tests m ++ configuration_tests m s) ≡ 0 → mark (circuit m) s ≡ true → (mark_effect m s).yes ≡ true
unfolding mark_effect mark_by
says_yes m s e q = rw (eq-eqb _ 0 e, q)

pub configuration_of : (m s : List ℕ) → first_failed (configuration_tests m s) ≡ 0 → Configuration (circuit m) s
unfolding configuration_tests
configuration_of m s e =
    let t9 = none_failed 8 _ _ e in
    record { long = eqb-true _ _ t9.0; bits = bits_of s (none_failed 9 _ _ t9.1).0 }

pub of_configuration : (m s : List ℕ) → Configuration (circuit m) s → first_failed (configuration_tests m s) ≡ 0
unfolding configuration_tests
of_configuration m s k = past _ _ _ (eq-eqb _ _ k.long) ∙ past _ _ _ (of_bits s k.bits) ∙ no_test

pub mark_does : MarkDoes
mark_does m s = (
  λ e. (let (n, q) = said_yes m s e in let (v, t) = behind m (configuration_tests m s) n in
      (v, (mark_is (circuit m) s (configuration_of m s t)).0 q)),
  λ a. says_yes m s (behind_accepted m _ a.0 ∙ of_configuration m s a.1.configuration) ((mark_is (circuit m) s a.1.configuration).1 a.1),
)

pub mark_accepts : MarkAccepts
unfolding mark_effect mark_by
mark_accepts m s = (
  λ e. elim (which (eqb (first_failed (map_tests m ++ configuration_tests m s)) 0)) [
    | inl q ↦ (let (v, t) = behind m (configuration_tests m s) (eqb-true _ 0 q) in (v, configuration_of m s t))
    | inr q ↦ absurd (false≢true (rw q at e))
  ],
  λ a. rw (eq-eqb _ 0 (behind_accepted m _ a.0 ∙ of_configuration m s a.1)),
)

mark_number_is : (m s : List ℕ) → (mark_effect m s).number ≡ first_failed (map_tests m ++ configuration_tests m s)
unfolding mark_effect mark_by
mark_number_is m s = elim (which (eqb (first_failed (map_tests m ++ configuration_tests m s)) 0)) [
  | inl q ↦ rw q (sym (eqb-true _ 0 q))
  | inr q ↦ rw q refl
]

-- tests 9 and 10 of a configuration, and what comes behind them
pub configuration_number : (m s : List ℕ) (ts : List (ℕ × Bool)) (n : ℕ) (Rest : Type 0) → n ≡ first_failed (configuration_tests m s ++ ts)
    → (Configuration (circuit m) s → n ≡ first_failed ts → Rest) → ConfigurationNumber n m s Rest
unfolding configuration_tests
configuration_number m s ts n Rest e rest =
    tested 9 _ _ n _ _ e (eqb-true _ _) (eq-eqb _ _) λ q9 e9.
    tested 10 _ ts n _ Rest e9 (bits_of s) (of_bits s) λ q10 e10.
    rest (record { long = eqb-true _ _ q9; bits = bits_of s q10 }) e10

pub mark_number : MarkNumber
unfolding configuration_tests
mark_number m s =
    let n = (mark_effect m s).number in
    map_number m _ n _ (mark_number_is m s) λ v e. configuration_number m s [] n (n ≡ 0) e (λ k f. f ∙ no_test)

pub mark_refuses : MarkRefuses
unfolding mark_effect mark_by
mark_refuses m s e = elim (which (eqb (first_failed (map_tests m ++ configuration_tests m s)) 0)) [
  | inl q ↦ absurd (true≢false (rw q at e))
  | inr q ↦ rw q (record { numbered = eqb-false _ 0 q; not_yes = refl })
]
