use Rattle.text.specs.Written.{Wrote}
use Rattle.export.specs.Inner.{gates_text}
use Rattle.export.proofs.gates.put_gates.Given as goal

abbrev pub invariant-loop-g : goal.invariant-loop-g
invariant-loop-g l = Wrote (gates_text l.map.bytes.now l.g) l.initial.out l.out l.at
