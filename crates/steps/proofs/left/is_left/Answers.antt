use Rattle.std.proofs.Common.{◌∙◌, rules}
use Rattle.folds.proofs.Chains.{all_by_chain}
use Rattle.steps.specs.Options.{child_allowed, option_left}
use Rattle.steps.proofs.left.is_left.Goals as goal

pub returns : goal.returns
unfolding option_left
returns c =
    all_by_chain _ (child_allowed c.args.drawn.s.map.bytes.now c.args.drawn.s.bytes.now c.args.drawn.gate.number c.args.i) c.all.ensures.ran
    (c.fan.ensures ∙ rw c.args.drawn.one_map.0) (λ x q k. search rules) (λ x q k. search rules)
