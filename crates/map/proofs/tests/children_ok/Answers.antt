use Rattle.std.proofs.Common.{◌∙◌, rules}
use Rattle.folds.proofs.Chains.{all_by_chain}
use Rattle.map.specs.Check.{child_test, children_test}
use Rattle.map.proofs.tests.children_ok.Goals as goal

pub returns : goal.returns
unfolding children_test
returns c = all_by_chain _ (child_test c.args.map.table.bytes.now c.args.g) c.all.ensures.ran (c.from.ensures ∙ c.fan_in.ensures) (λ x q k. search rules) (λ x q k. search rules)
