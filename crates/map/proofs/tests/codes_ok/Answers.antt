use Rattle.std.proofs.Common.{rules}
use Rattle.folds.proofs.Chains.{all_by_chain}
use Rattle.map.specs.Check.{code_test}
use Rattle.map.proofs.tests.codes_ok.Goals as goal

pub returns : goal.returns
returns c = all_by_chain _ (code_test c.args.map.bytes.now) c.all.ensures.ran c.args.map.contents.codes_is (λ x q k. search rules) (λ x q k. search rules)
