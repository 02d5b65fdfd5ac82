use Rattle.state.proofs.Filling.{FilledTo}
use Rattle.state.proofs.values.write_values.Given as goal

abbrev pub invariant-loop-g : goal.invariant-loop-g
invariant-loop-g g l = FilledTo (goal.F-post g l.input) l.map.bytes.now l.initial.out l.out l.g l.place
