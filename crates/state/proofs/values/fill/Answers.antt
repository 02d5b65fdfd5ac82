use Rattle.std.proofs.Common.{of_calls}
use Rattle.circuit.specs.Circuit.{on}
use Rattle.circuit.specs.Evaluate.{inputs_before, evaluate}
use Rattle.map.specs.Map.{circuit}
use Rattle.state.proofs.Filling.{values_as}
use Rattle.state.proofs.values.fill.Goals as goal

pub returns : goal.returns
unfolding evaluate
returns c = values_as _ c.args.map.bytes.now _ (λ g. on c.args.row.now (inputs_before (circuit c.args.map.bytes.now) g)) c.write_values.ensures (λ g v h i e. search of_calls)
