use Rattle.std.proofs.Common.{◌≡◌, ◌≤◌, length}
use Rattle.steps.specs.Options.{left_up_to}
use Rattle.steps.proofs.left.list.Given as goal

abbrev pub invariant-loop-i : goal.invariant-loop-i
invariant-loop-i l = (length l.left.items ≤ l.i) × (l.left.items ≡ left_up_to l.drawn.s.map.bytes.now l.drawn.s.bytes.now l.drawn.gate.number l.i)
