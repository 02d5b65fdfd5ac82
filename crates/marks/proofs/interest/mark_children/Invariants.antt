use Rattle.std.proofs.Common.{◌≡◌, map}
use Rattle.circuit.specs.Tools.{up_to}
use Rattle.map.specs.Map.{child_at}
use Rattle.marks.specs.Marks.{paint, mark_below}
use Rattle.marks.proofs.interest.mark_children.Given as goal

abbrev pub invariant-loop-j : goal.invariant-loop-j
invariant-loop-j l =
    l.marks ≡ paint mark_below (map (λ i. child_at l.map.bytes.now l.g i) (up_to l.j)) l.initial.marks
