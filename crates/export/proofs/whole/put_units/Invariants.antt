use Rattle.text.specs.Written.{Wrote}
use Rattle.export.specs.Inner.{units_text}
use Rattle.export.proofs.whole.put_units.Given as goal

abbrev pub invariant-loop-r : goal.invariant-loop-r
invariant-loop-r l = Wrote (units_text l.map.bytes.now l.r) l.initial.out l.out l.at
