use Rattle.std.proofs.Common.{rules, of_calls}
use Rattle.answer.proofs.Written.{answer_as}
use Rattle.answer.proofs.write.Goals as goal

pub returns : goal.returns
returns c = answer_as _ c.args.marked.s.map.bytes.now c.args.marked.s.bytes.now _ _ c.write_values.ensures (λ g v h i p. search of_calls) (search rules)
