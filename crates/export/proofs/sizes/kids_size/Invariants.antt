use Rattle.std.proofs.Common.{◌≡◌, ◌≤◌, ◌*◌}
use Rattle.export.specs.Inner.{kids_size, kids_up_to}
use Rattle.export.proofs.sizes.kids_size.Given as goal

abbrev pub invariant-loop-j : goal.invariant-loop-j
invariant-loop-j l = (l.size ≡ kids_size (kids_up_to l.gate.map.bytes.now l.gate.number l.j)) × (l.size ≤ 11 * l.j)
