-- The answers of Evaluate and Mark, from their number. Assumes nothing.
use Rattle.std.proofs.Common.{ℕ, ◌≡◌, List, ◌++◌, drop, Bool, Ok, Err, arith, eq-eqb, ne_eqb}
use Rattle.circuit.specs.declared.Refusal.{Refusal}
use Rattle.circuit.specs.Refusal.{number_of}
use Rattle.circuit.specs.Circuit.{on}
use Rattle.circuit.specs.Evaluate.{inputs_before, evaluate, mark}
use Rattle.circuit.proofs.Evaluate.{values_length}
use Rattle.circuit.proofs.Refusals.{number_some}
use Rattle.map.specs.Map.{gate_count, circuit}
use Rattle.map.specs.Check.{verdict}
use Rattle.map.proofs.Answers.{map_refused_by, behind_accepted}
use Rattle.state.specs.State.{row_tests, configuration_tests, EvaluateEffect, evaluate_answer, evaluate_by, evaluate_effect, MarkEffect, mark_answer, mark_by, mark_effect}
use Rattle.state.specs.Inner.{evaluate_on_map, mark_on_map}

module _ (m row out : List ℕ) where
  pub refused_by : (e : Refusal) (n : ℕ) → number_of e ≡ n → evaluate_answer (Err e) out ≡ evaluate_by n m row out
  unfolding evaluate_answer evaluate_by
  refused_by e n q = rw (ne_eqb n 0 (λ z. omega (arith, number_some e)), q)

  -- the values are written over the first bytes, one for each of k gates
  pub done_by : (n k : ℕ) (w : List ℕ) → n ≡ 0 → w ≡ evaluate (circuit m) row → k ≡ gate_count m → evaluate_answer (Ok tt) (w ++ drop k out) ≡ evaluate_by n m row out
  unfolding evaluate evaluate_answer evaluate_by
  done_by n k w e q l = rw (eq-eqb n 0 e, q, l, values_length (circuit m) (λ g. on row (inputs_before (circuit m) g)) (gate_count m))

  -- and behind the map's tests
  pub no_map : (e : Refusal) → number_of e ≡ verdict m → evaluate_answer (Err e) out ≡ evaluate_effect m row out
  unfolding evaluate_effect
  no_map e q = refused_by e _ (map_refused_by m (row_tests m row out) e q).number

  pub on_a_map : (r : EvaluateEffect) → verdict m ≡ 0 → r ≡ evaluate_on_map m row out → r ≡ evaluate_effect m row out
  unfolding evaluate_effect evaluate_on_map
  on_a_map r v q = rw (behind_accepted m (row_tests m row out) v) q

pub ruleset evaluated_by = (refused_by, done_by)

pub ruleset evaluated = (no_map, on_a_map)

module _ (m s : List ℕ) where
  pub mark_refused : (e : Refusal) (n : ℕ) → number_of e ≡ n → mark_answer (Err e) ≡ mark_by n m s
  unfolding mark_answer mark_by
  mark_refused e n q = rw (ne_eqb n 0 (λ z. omega (arith, number_some e)), q)

  pub mark_done : (v : Bool) (n : ℕ) → n ≡ 0 → v ≡ mark (circuit m) s → mark_answer (Ok v) ≡ mark_by n m s
  unfolding mark_answer mark_by
  mark_done v n e q = rw (eq-eqb n 0 e, q)

  pub mark_no_map : (e : Refusal) → number_of e ≡ verdict m → mark_answer (Err e) ≡ mark_effect m s
  unfolding mark_effect
  mark_no_map e q = mark_refused e _ (map_refused_by m (configuration_tests m s) e q).number

  pub mark_on_a_map : (r : MarkEffect) → verdict m ≡ 0 → r ≡ mark_on_map m s → r ≡ mark_effect m s
  unfolding mark_effect mark_on_map
  mark_on_a_map r v q = rw (behind_accepted m (configuration_tests m s) v) q

pub ruleset marked = (mark_no_map, mark_on_a_map)
