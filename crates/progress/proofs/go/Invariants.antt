use Rattle.std.proofs.Common.{◌≡◌, ◌-◌, length}
use Rattle.map.specs.Map.{circuit}
use Rattle.progress.specs.Advance.{At}
use Rattle.progress.proofs.go.Given as goal

abbrev pub invariant-loop-further : goal.invariant-loop-further
invariant-loop-further l = At (circuit l.coded.map.bytes.now) l.initial.s l.p l.s l.marks × (l.p.tape.src.now ≡ l.tape)

abbrev pub decreases-loop-further : goal.decreases-loop-further
decreases-loop-further l = length l.p.tape.src.now - l.p.tape.at
