use Rattle.map.specs.Map.{circuit}
use Rattle.marks.proofs.ConePass.{ConeSoFar}
use Rattle.marks.proofs.cone.pass.Given as goal

abbrev pub invariant-loop-g : goal.invariant-loop-g
invariant-loop-g l = ConeSoFar (circuit l.s.map.bytes.now) l.s.bytes.now l.g l.marks l.size
