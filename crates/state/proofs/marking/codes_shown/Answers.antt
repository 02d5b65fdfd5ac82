use Rattle.std.proofs.Common.{rules, eqb, get_or}
use Rattle.folds.proofs.Chains.{all_by_chain}
use Rattle.map.specs.Map.{code_gate, code_value}
use Rattle.state.specs.Inner.{shown_by_record}
use Rattle.state.proofs.marking.codes_shown.Goals as goal

pub returns : goal.returns
unfolding shown_by_record
returns c = all_by_chain _ (λ r. eqb (get_or c.args.s.bytes.now (code_gate c.args.s.map.bytes.now r) 0) (code_value c.args.s.map.bytes.now r)) c.all.ensures.ran c.args.s.map.contents.codes_is (λ x q k. search rules) (λ x q k. search rules)
