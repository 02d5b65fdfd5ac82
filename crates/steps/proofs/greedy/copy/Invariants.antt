use Rattle.std.proofs.Common.{◌≡◌, take}
use Rattle.steps.proofs.greedy.copy.Given as goal

abbrev pub invariant-loop-i : goal.invariant-loop-i
invariant-loop-i l = take l.i l.trial ≡ take l.i l.s
