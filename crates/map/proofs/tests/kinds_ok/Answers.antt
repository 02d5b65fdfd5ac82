use Rattle.std.proofs.Common.{rules}
use Rattle.folds.proofs.Chains.{all_by_chain}
use Rattle.map.specs.Check.{kind_test}
use Rattle.map.proofs.tests.kinds_ok.Goals as goal

pub returns : goal.returns
unfolding kind_test
returns c = all_by_chain _ (kind_test c.args.map.bytes.now) c.all.ensures.ran c.args.map.contents.gates_is (λ x q k. search rules) (λ x q k. search rules)
