use Rattle.std.proofs.Common.{◌≡◌, take}
use Rattle.steps.specs.Options.{weights_of, interest_after}
use Rattle.steps.proofs.greedy.weigh_all.Given as goal

abbrev pub invariant-loop-option : goal.invariant-loop-option
invariant-loop-option l = l.weighed.items ≡ weights_of (interest_after l.drawn.s.map.bytes.now l.drawn.s.bytes.now) l.drawn.s.map.bytes.now l.drawn.s.bytes.now l.drawn.gate.number (take l.option-index l.left)
