use Rattle.export.specs.Inner.{Measured}
use Rattle.export.proofs.sizes.gates_size.Given as goal

abbrev pub invariant-loop-g : goal.invariant-loop-g
invariant-loop-g l = Measured l.map.bytes.now l.g l.size.clauses l.size.bytes
