use Rattle.std.proofs.Common.{◌≡◌, map}
use Rattle.folds.specs.Folds.{◌or◌}
use Rattle.circuit.specs.Tools.{same, up_to, select}
use Rattle.circuit.specs.Circuit.{on}
use Rattle.map.specs.Map.{child_at}
use Rattle.marks.specs.Marks.{paint, to_one}
use Rattle.marks.proofs.cone.mark_kids.Given as goal

abbrev pub invariant-loop-j : goal.invariant-loop-j
invariant-loop-j l =
    l.marks ≡ paint to_one (select (λ y. l.all or same (on l.s.bytes.now y) l.v) (map (λ i. child_at l.s.map.bytes.now l.g i) (up_to l.j))) l.initial.marks
