use Rattle.std.proofs.Common.{rules}
use Rattle.folds.proofs.Chains.{all_by_chain}
use Rattle.circuit.specs.Circuit.{justified}
use Rattle.map.specs.Map.{circuit}
use Rattle.state.proofs.marking.gates_right.Goals as goal

pub returns : goal.returns
returns c = all_by_chain _ (justified (circuit c.args.s.map.bytes.now) c.args.s.bytes.now) c.all.ensures.ran c.args.s.map.contents.gates_is (λ x q k. search rules) (λ x q k. search rules)
