-- Export's answer, from its number. Assumes nothing.
use Rattle.std.proofs.Common.{ℕ, ◌≡◌, List, Ok, Err, arith, eq-eqb, ne_eqb}
use Rattle.circuit.specs.declared.Refusal.{Refusal}
use Rattle.circuit.specs.Refusal.{number_of}
use Rattle.circuit.proofs.Refusals.{number_some}
use Rattle.map.specs.Check.{verdict}
use Rattle.map.proofs.Answers.{map_refused_by, behind_accepted}
use Rattle.text.specs.Written.{Wrote}
use Rattle.export.specs.Export.{text_of, text_tests, ExportEffect, export_answer, export_by, export_effect}
use Rattle.export.specs.Inner.{export_on_map}

module _ (m out : List ℕ) where
  pub refused_by : (e : Refusal) (n : ℕ) → number_of e ≡ n → export_answer (Err e) out ≡ export_by n m out
  unfolding export_answer export_by
  refused_by e n q = rw (ne_eqb n 0 (λ z. omega (arith, number_some e)), q)

  pub written_by : (n k : ℕ) (after : List ℕ) → n ≡ 0 → Wrote (text_of m) out after k → export_answer (Ok k) after ≡ export_by n m out
  unfolding export_answer export_by
  written_by n k after e h = rw (eq-eqb n 0 e, h.size, h.memory)

  -- and behind the map's tests
  pub no_map : (e : Refusal) → number_of e ≡ verdict m → export_answer (Err e) out ≡ export_effect m out
  unfolding export_effect
  no_map e q = refused_by e _ (map_refused_by m (text_tests m out) e q).number

  pub on_a_map : (r : ExportEffect) → verdict m ≡ 0 → r ≡ export_on_map m out → r ≡ export_effect m out
  unfolding export_effect export_on_map
  on_a_map r v q = rw (behind_accepted m (text_tests m out) v) q

pub ruleset exported_by = (refused_by, written_by)

pub ruleset exported = (no_map, on_a_map)
