use Prim.Native.Nat.{◌≤◌}
use Rattle.steps.specs.Options.{option_up_to}
use Rattle.steps.specs.Steps.{Flipped}
use Rattle.steps.proofs.options.flip_option.Given as goal

abbrev pub invariant-loop-j : goal.invariant-loop-j
invariant-loop-j l = Flipped (option_up_to l.gate.map.bytes.now l.initial.s l.gate.number l.i l.j) l.initial.s l.s l.turned × (l.turned ≤ l.j)
