-- Survey's answer, from its number. Assumes nothing.
use Rattle.std.proofs.Common.{ℕ, ◌<◌, ◌≤◌, ◌≡◌, List, ◌++◌, length, drop, Ok, Err, sym, ◌∙◌, arith, eq-eqb, ne_eqb}
use borrow.Author.Tests.{lt-leb, le-leb}
use Rattle.circuit.specs.declared.Refusal.{Refusal}
use Rattle.circuit.specs.declared.Refusal.TheVariants.{ShortMemory}
use Rattle.circuit.specs.Refusal.{number_of}
use Rattle.circuit.specs.Survey.{survey}
use Rattle.circuit.proofs.Refusals.{number_some}
use Rattle.map.specs.Map.{gate_count, circuit}
use Rattle.map.specs.Check.{first_failed, verdict}
use Rattle.map.proofs.Laws.{past, stop, no_test}
use Rattle.map.proofs.Answers.{map_refused_by, behind_accepted}
use Rattle.marks.proofs.Tables.{length_table}
use Rattle.survey.specs.declared.Sizes.{Sizes}
use Rattle.survey.specs.Survey.{start_tests, survey_tests, SurveyEffect, survey_answer, survey_by, survey_effect}
use Rattle.survey.specs.Inner.{SurveyOf, survey_on_map}
use Rattle.survey.proofs.Starts.{refused_first, behind_start}

module _ (m s out : List ℕ) where
  refused_by : (e : Refusal) (n : ℕ) → number_of e ≡ n → survey_answer (Err e) out ≡ survey_by n m s out
  unfolding survey_answer survey_by
  refused_by e n q = rw (ne_eqb n 0 (λ z. omega (arith, number_some e)), q)

  -- the survey is written over the first bytes, one for each of k gates
  done_by : (n k : ℕ) (z : Sizes) (w : List ℕ) → n ≡ 0 → SurveyOf (circuit m) s w z → k ≡ gate_count m → survey_answer (Ok z) (w ++ drop k out) ≡ survey_by n m s out
  unfolding survey survey_answer survey_by
  done_by n k z w e o l = rw (eq-eqb n 0 e, o.are, o.front_is, o.interest_is, l, length_table _ (gate_count m))

  -- behind the map's tests
  pub no_start : (e : Refusal) → number_of e ≡ first_failed (start_tests m s) → survey_answer (Err e) out ≡ survey_on_map m s out
  unfolding survey_on_map survey_tests
  no_start e q = refused_by e _ (refused_first e (start_tests m s) _ q)

  pub no_room : 0 ≡ first_failed (start_tests m s) → length out < gate_count m → survey_answer (Err ShortMemory) out ≡ survey_on_map m s out
  unfolding survey_on_map survey_tests
  no_room k l = refused_by ShortMemory _ (sym (behind_start m s _ (sym k) ∙ stop _ _ _ (lt-leb _ _ l)))

  pub written : (k : ℕ) (z : Sizes) (w : List ℕ) → 0 ≡ first_failed (start_tests m s) → k ≡ gate_count m → k ≤ length out → SurveyOf (circuit m) s w z
      → survey_answer (Ok z) (w ++ drop k out) ≡ survey_on_map m s out
  unfolding survey_on_map survey_tests
  written k z w e l h o = done_by _ k z w (behind_start m s _ (sym e) ∙ past _ _ _ (le-leb _ _ (omega (arith, l, h))) ∙ no_test) o l

  -- and with them
  pub no_map : (e : Refusal) → number_of e ≡ verdict m → survey_answer (Err e) out ≡ survey_effect m s out
  unfolding survey_effect
  no_map e q = refused_by e _ (map_refused_by m (survey_tests m s out) e q).number

  pub on_a_map : (r : SurveyEffect) → verdict m ≡ 0 → r ≡ survey_on_map m s out → r ≡ survey_effect m s out
  unfolding survey_effect survey_on_map
  on_a_map r v q = rw (behind_accepted m (survey_tests m s out) v) q

pub ruleset surveyed_by = (no_start, no_room, written)

pub ruleset surveyed = (no_map, on_a_map)
