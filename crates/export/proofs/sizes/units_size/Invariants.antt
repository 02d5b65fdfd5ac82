use Rattle.std.proofs.Common.{◌≡◌, ◌≤◌, ◌*◌, length}
use Rattle.export.specs.Inner.{units_text}
use Rattle.export.proofs.sizes.units_size.Given as goal

abbrev pub invariant-loop-r : goal.invariant-loop-r
invariant-loop-r l = (l.size ≡ length (units_text l.map.bytes.now l.r)) × (l.size ≤ 14 * l.r)
