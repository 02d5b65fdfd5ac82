use Rattle.std.proofs.Common.{arith}
use Rattle.std.proofs.lemmas.Grind.{common_steps}
use Rattle.state.proofs.Filling.{fill_none, fill_more, fill_all}
use Rattle.state.proofs.values.write_values.Goals as goal

pub loop-g-init : goal.loop-g-init
loop-g-init g c = fill_none _ _ _

pub loop-g-preserved : goal.loop-g-preserved
loop-g-preserved g c = fill_more _ _ _ _ _ _ _ _ _ c.args.map.is c.loop-g.invariant (omega arith) (omega arith) c.gate_value-value.ensures.input c.gate_value-value.ensures.other (grind (arith, common_steps)) c.gate_value-value.ensures.behind

pub returns : goal.returns
returns g c = fill_all _ _ _ _ _ _ c.loop-g.invariant (omega arith) (omega arith)
