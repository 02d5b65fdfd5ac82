-- Mark, gate by gate and record by record. Assumes nothing.
use Rattle.std.proofs.Common.{ℕ, ◌<◌, ◌≡◌, Bool, true, List, Ok, eqb, get_or, sym, ◌∙◌, arith}
use Rattle.std.specs.Borrow.{Bor}
use borrow.Author.Tests.{eqb-true, eq-eqb}
use Rattle.folds.specs.Folds.{◌and◌, all_below}
use Rattle.folds.proofs.Tests.{same_test, and_left, and_right, and_both}
use Rattle.folds.proofs.Loops.{all_at, all_of}
use Rattle.circuit.specs.Circuit.{on, justified}
use Rattle.circuit.specs.Evaluate.{shows_code, mark}
use Rattle.circuit.proofs.Values.{bit_same}
use Rattle.circuit.proofs.Evaluate.{shows_code_lem}
use Rattle.map.specs.Map.{gate_count, code_count, code_gate, code_value, code_among, circuit}
use Rattle.map.specs.Inner.{IsMap}
use Rattle.map.proofs.Codes.{code_record, code_found}
use Rattle.map.specs.declared.accepted.Map.{Map}
use Rattle.map.specs.Check.{first_failed}
use Rattle.state.specs.declared.gates.Values.{Values}
use Rattle.state.specs.State.{Bits, configuration_tests, mark_answer}
use Rattle.state.specs.Inner.{mark_on_map, shown_by_record}
use Rattle.state.proofs.Answers.{mark_done}
use Rattle.state.proofs.Meaning.{configuration_of}

module _ (m s : List ℕ) (k : IsMap m) (b : Bits s) where
  -- a code that is shown stands in its record
  record_shown : (r : ℕ) → r < code_count m → shows_code (code_among m (code_count m) (code_gate m r)) (on s (code_gate m r)) ≡ true
      → eqb (get_or s (code_gate m r) 0) (code_value m r) ≡ true
  record_shown r l e =
      let q = (shows_code_lem (code_among m (code_count m) (code_gate m r)) (on s (code_gate m r))).0 e (eqb (code_value m r) 1) (code_found m k.codes_ascend (code_count m) r l (omega arith)) in
      eq-eqb _ _ (bit_same _ _ (b (code_gate m r)) (k.code_values r l) q)

  shown_record : (g : ℕ) → shown_by_record m s ≡ true → shows_code (code_among m (code_count m) g) (on s g) ≡ true
  unfolding shown_by_record
  shown_record g e = (shows_code_lem (code_among m (code_count m) g) (on s g)).1 (λ v q.
      (let (r, l, f, h) = code_record m (code_count m) g v q in
      shown r g v f (eqb-true _ _ (all_at (λ i. eqb (get_or s (code_gate m i) 0) (code_value m i)) (code_count m) r e l)) h))
    where
      shown : (r x : ℕ) (v : Bool) → code_gate m r ≡ x → get_or s (code_gate m r) 0 ≡ code_value m r → v ≡ eqb (code_value m r) 1 → on s x ≡ v
      shown r x v f q h = rw (← f, q, h)

  -- every coded gate has its code, gate by gate and record by record
  pub codes_by_record : all_below (gate_count m) (λ g. shows_code (code_among m (code_count m) g) (on s g)) ≡ shown_by_record m s
  unfolding shown_by_record
  codes_by_record = same_test _ _
      (λ e. all_of _ (code_count m) (λ r l. record_shown r l (all_at _ (gate_count m) (code_gate m r) e (k.sound.coded_gate r l))))
      (λ e. all_of _ (gate_count m) (λ g h. shown_record g e))

  mark_tests : mark (circuit m) s ≡ all_below (gate_count m) (justified (circuit m) s) and shown_by_record m s
  unfolding mark
  mark_tests = rw (← codes_by_record) (same_test _ _
      (λ e. and_both _ _
      (all_of _ (gate_count m) (λ g h. and_left _ _ (all_at _ (gate_count m) g e h)))
      (all_of _ (gate_count m) (λ g h. and_right _ _ (all_at _ (gate_count m) g e h))))
      (λ e. all_of _ (gate_count m) (λ g h. and_both _ _ (all_at _ (gate_count m) g (and_left _ _ e) h) (all_at _ (gate_count m) g (and_right _ _ e) h))))

-- Mark's answer on a configuration as tests 9 and 10 hand it on
pub mark_is_tests : (x : Values) (map : Map) (b : Bor (List ℕ)) (v : Bool) → (x.map ≡ map) × (x.bytes ≡ b) → 0 ≡ first_failed (configuration_tests map.bytes.now b.now)
    → v ≡ (all_below (gate_count x.map.bytes.now) (justified (circuit x.map.bytes.now) x.bytes.now) and shown_by_record x.map.bytes.now x.bytes.now)
    → mark_answer (Ok v) ≡ mark_on_map map.bytes.now b.now
unfolding mark_on_map
mark_is_tests x map b v e n h =
    mark_done _ _ v _ (sym n) (rw (e.0, e.1) at h ∙ sym (mark_tests map.bytes.now b.now map.is (configuration_of _ _ (sym n)).bits))
