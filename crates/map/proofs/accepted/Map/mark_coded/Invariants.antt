use Rattle.map.specs.Inner.{CodeMarks}
use Rattle.map.proofs.accepted.Map.mark_coded.Given as goal

abbrev pub invariant-loop-r : goal.invariant-loop-r
invariant-loop-r l = CodeMarks l.self.bytes.now l.r l.marks
