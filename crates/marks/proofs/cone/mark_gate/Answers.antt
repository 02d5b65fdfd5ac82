use Rattle.std.proofs.Common.{sym, ap, ◌∙◌}
use Rattle.circuit.specs.Gate.{is_input}
use Rattle.kinds.proofs.Bytes.{same_input}
use Rattle.state.proofs.Given.{fan_alone}
use Rattle.marks.proofs.ConePass.{turn_skips, turn_of_input}
use Rattle.marks.proofs.cone.mark_gate.Goals as goal
use Rattle.marks.proofs.cone.mark_gate.Goals.{then-marks-g-eq0-via-then-marks-g-eq0, then-marks-g-eq0-via-else-marks-g-eq0+then-eq}

pub returns-then-marks-g-eq0 : goal.returns-then-marks-g-eq0
returns-then-marks-g-eq0 c = elim c.then-marks-g-eq0.branch [
  | then-marks-g-eq0-via-then-marks-g-eq0 w ↦ turn_skips _ _ _ _ w.if-marks-g-eq0.true
  | then-marks-g-eq0-via-else-marks-g-eq0+then-eq w ↦ turn_of_input _ _ _ _ (ap is_input (sym w.kind.ensures) ∙ sym (same_input w.kind.result) ∙ sym w.eq.ensures ∙ w.if-eq.true)
]

pub mark_by-requires-clause-long : goal.mark_by-requires-clause-long
mark_by-requires-clause-long c = fan_alone c.gate-gate.result _ _ c.gate-gate.ensures _ _ _ c.only_fan_in.ensures c.in-Some-eq1.is c.in-Some-eq1.field-0-test

pub mark_by-requires-in-Some-eq2-clause-long : goal.mark_by-requires-in-Some-eq2-clause-long
mark_by-requires-in-Some-eq2-clause-long c = fan_alone c.gate-gate.result _ _ c.gate-gate.ensures _ _ _ c.only_fan_in.ensures c.in-Some-eq2.is c.in-Some-eq2.field-0-test

pub mark_by-requires-in-Some-eq3-clause-long : goal.mark_by-requires-in-Some-eq3-clause-long
mark_by-requires-in-Some-eq3-clause-long c = fan_alone c.gate-gate.result _ _ c.gate-gate.ensures _ _ _ c.only_fan_in.ensures c.in-Some-eq3.is c.in-Some-eq3.field-0-test
