use Rattle.state.proofs.Given.{given_read}
use Rattle.state.proofs.gates.Values.given_by.Goals as goal

pub returns : goal.returns
returns c = given_read c.gate.result _ _ c.gate.ensures _ _ _ _ c.requires.long c.ones.ensures.0 c.gives.ensures
