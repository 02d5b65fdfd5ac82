-- The tests of a start: what passing them says, and the tests behind them. Assumes nothing.
use Prim.Native.Nat.{ℕ, ◌<◌}
use mathlib.Core.Path.{◌≡◌, sym, ◌∙◌}
use mathlib.Core.Bool.{Bool, true, false}
use mathlib.Core.List.{List, ◌∷◌, ◌++◌}
use native.Mathlib.Omega.{arith}
use lib.Dec.{eqb}
use lib.ListN.{get_or}
use borrow.Author.Tests.{eqb-true, eq-eqb}
use Rattle.folds.proofs.Loops.{all_at, all_of}
use Rattle.circuit.specs.declared.Refusal.{Refusal}
use Rattle.circuit.specs.Refusal.{number_of}
use Rattle.circuit.proofs.Refusals.{number_some}
use Rattle.circuit.specs.Circuit.{Configuration, on}
use Rattle.circuit.specs.Evaluate.{shows_code, KeepsCodes}
use Rattle.circuit.proofs.Evaluate.{shows_code_lem}
use Rattle.map.specs.Map.{gate_count, code_count, code_gate, code_value, circuit}
use Rattle.map.specs.Check.{first_failed}
use Rattle.map.specs.Inner.{IsMap}
use Rattle.map.proofs.Laws.{past, stop, no_test, fails_before, none_failed, passes_before, passed_before, Numbered}
use Rattle.map.proofs.Described.{tested}
use Rattle.state.specs.State.{configuration_tests}
use Rattle.state.specs.Inner.{shown_by_record}
use Rattle.state.proofs.Marks.{codes_by_record}
use Rattle.state.proofs.Meaning.{configuration_of, of_configuration, configuration_number}
use Rattle.survey.specs.Survey.{codes_shown_test, start_tests, StartNumber}

module _ (m s : List ℕ) where
  configuration_numbered : Numbered (configuration_tests m s)
  unfolding configuration_tests
  configuration_numbered = (omega arith, (omega arith, tt))

  behind_configuration : (b : List (ℕ × Bool)) → first_failed (configuration_tests m s) ≡ 0 → first_failed (configuration_tests m s ++ b) ≡ first_failed b
  behind_configuration b e = passes_before (configuration_tests m s) b configuration_numbered e

  start_numbered : Numbered (start_tests m s)
  unfolding start_tests configuration_tests
  start_numbered = (omega arith, (omega arith, (omega arith, tt)))

  pub behind_start : (b : List (ℕ × Bool)) → first_failed (start_tests m s) ≡ 0 → first_failed (start_tests m s ++ b) ≡ first_failed b
  behind_start b e = passes_before (start_tests m s) b start_numbered e

  pub start_of : first_failed (start_tests m s) ≡ 0 → KeepsCodes (circuit m) s
  unfolding start_tests codes_shown_test
  start_of e =
      let k = passed_before (configuration_tests m s) _ e in
      let t = (none_failed 10 _ _ (sym (behind_configuration _ k) ∙ e)).0 in
      record {
        configuration = configuration_of m s k;
        shows = λ g h. (shows_code_lem ((circuit m).code g) (on s g)).0 (all_at (λ x. shows_code ((circuit m).code x) (on s x)) (gate_count m) g t h);
      }

  pub of_start : KeepsCodes (circuit m) s → first_failed (start_tests m s) ≡ 0
  unfolding start_tests codes_shown_test
  of_start k =
      behind_configuration _ (of_configuration m s k.configuration)
      ∙ past _ _ _ (all_of (λ x. shows_code ((circuit m).code x) (on s x)) (gate_count m) (λ g h. (shows_code_lem ((circuit m).code g) (on s g)).1 (k.shows g h)))
      ∙ no_test

-- ---- the number of a call, by tests 9 to 11 and what comes behind them

module _ (m s : List ℕ) (k : IsMap m) (c : Configuration (circuit m) s) where
  -- test 11, record by record
  shown : codes_shown_test m s ≡ shown_by_record m s
  unfolding codes_shown_test
  shown = codes_by_record m s k c.bits

  abbrev Shown : Type 0
  Shown = (r : ℕ) → r < code_count m → get_or s (code_gate m r) 0 ≡ code_value m r

  shows : codes_shown_test m s ≡ true → Shown
  unfolding shown_by_record
  shows e r l = eqb-true _ _ (all_at (λ i. eqb (get_or s (code_gate m i) 0) (code_value m i)) (code_count m) r (sym shown ∙ e) l)

  of_shows : Shown → codes_shown_test m s ≡ true
  unfolding shown_by_record
  of_shows p = shown ∙ all_of (λ i. eqb (get_or s (code_gate m i) 0) (code_value m i)) (code_count m) (λ r l. eq-eqb _ _ (p r l))

-- ---- the tests of a start, one after the other

-- a refusal by the first of two lists of tests
pub refused_first : (e : Refusal) (a b : List (ℕ × Bool)) → number_of e ≡ first_failed a → number_of e ≡ first_failed (a ++ b)
refused_first e a b q = q ∙ sym (fails_before a b (λ z. omega (arith, number_some e, q, z)))

module _ (m s : List ℕ) where
  pub no_configuration : (e : Refusal) → number_of e ≡ first_failed (configuration_tests m s) → number_of e ≡ first_failed (start_tests m s)
  unfolding start_tests
  no_configuration e q = refused_first e _ _ q

  pub codes_not_shown : IsMap m → 0 ≡ first_failed (configuration_tests m s) → shown_by_record m s ≡ false → 11 ≡ first_failed (start_tests m s)
  unfolding start_tests
  codes_not_shown k e h = sym (behind_configuration m s _ (sym e) ∙ stop _ _ _ (shown m s k (configuration_of m s (sym e)) ∙ h))

  pub codes_shown : IsMap m → 0 ≡ first_failed (configuration_tests m s) → shown_by_record m s ≡ true → 0 ≡ first_failed (start_tests m s)
  unfolding start_tests
  codes_shown k e h = sym (behind_configuration m s _ (sym e) ∙ past _ _ _ (shown m s k (configuration_of m s (sym e)) ∙ h) ∙ no_test)

pub ruleset started_by = (no_configuration, codes_not_shown, codes_shown)

pub start_number : (m s : List ℕ) (ts : List (ℕ × Bool)) (n : ℕ) (Rest : Type 0) → IsMap m → n ≡ first_failed (start_tests m s ++ ts) → (n ≡ first_failed ts → Rest) → StartNumber n m s Rest
unfolding start_tests configuration_tests
start_number m s ts n Rest k e rest =
    configuration_number m s ((11, codes_shown_test m s) ∷ ts) n _ e λ c e10.
    tested 11 _ ts n _ Rest e10 (shows m s k c) (of_shows m s k c) λ q11 e11.
    rest e11
