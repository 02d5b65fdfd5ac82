use Rattle.state.proofs.Given.{fan_alone}
use Rattle.state.proofs.gates.Values.given.Goals as goal

pub given_by-requires-clause-long : goal.given_by-requires-clause-long
given_by-requires-clause-long c = fan_alone c.gate-gate.result _ _ c.gate-gate.ensures _ _ _ c.only_fan_in.ensures c.in-Some-eq1.is c.in-Some-eq1.field-0-test

pub given_by-requires-in-Some-eq2-clause-long : goal.given_by-requires-in-Some-eq2-clause-long
given_by-requires-in-Some-eq2-clause-long c = fan_alone c.gate-gate.result _ _ c.gate-gate.ensures _ _ _ c.only_fan_in.ensures c.in-Some-eq2.is c.in-Some-eq2.field-0-test

pub given_by-requires-in-Some-eq3-clause-long : goal.given_by-requires-in-Some-eq3-clause-long
given_by-requires-in-Some-eq3-clause-long c = fan_alone c.gate-gate.result _ _ c.gate-gate.ensures _ _ _ c.only_fan_in.ensures c.in-Some-eq3.is c.in-Some-eq3.field-0-test
