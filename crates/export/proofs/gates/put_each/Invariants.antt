use Rattle.text.specs.Written.{Wrote}
use Rattle.export.specs.Inner.{each_text}
use Rattle.export.proofs.gates.put_each.Given as goal

abbrev pub invariant-loop-j : goal.invariant-loop-j
invariant-loop-j l = Wrote (each_text l.gate.map.bytes.now l.gate.number l.negated l.j) l.initial.out l.out l.at
