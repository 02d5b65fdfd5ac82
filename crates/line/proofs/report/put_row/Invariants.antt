use Rattle.text.specs.Written.{Wrote}
use Rattle.line.specs.Inner.{row_below}
use Rattle.line.proofs.report.put_row.Given as goal

abbrev pub invariant-loop-g : goal.invariant-loop-g
invariant-loop-g l = Wrote (row_below l.answer.map.bytes.now l.answer.bytes.now l.g) l.initial.out l.out l.at
