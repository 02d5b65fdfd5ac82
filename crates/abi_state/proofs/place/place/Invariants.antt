use Rattle.std.proofs.Common.{◌≡◌, take}
use Rattle.abi_state.specs.Numbers.{placed}
use Rattle.abi_state.proofs.place.place.Given as goal

abbrev pub invariant-loop-i : goal.invariant-loop-i
invariant-loop-i l = l.numbers ≡ placed (take l.i l.answer) l.initial.numbers
