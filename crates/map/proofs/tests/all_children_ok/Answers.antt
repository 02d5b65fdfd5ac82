use Rattle.std.proofs.Common.{rules}
use Rattle.folds.proofs.Chains.{all_by_chain}
use Rattle.map.specs.Check.{children_test}
use Rattle.map.proofs.tests.all_children_ok.Goals as goal

pub returns : goal.returns
returns c = all_by_chain _ (children_test c.args.map.table.bytes.now) c.all.ensures.ran c.args.map.table.contents.gates_is (λ x q k. search rules) (λ x q k. search rules)
