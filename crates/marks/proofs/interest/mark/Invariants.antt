use Rattle.std.proofs.Common.{◌≡◌, ◌≤◌, ◌+◌, ℕ, List}
use Rattle.map.specs.Map.{circuit}
use Rattle.marks.specs.Marks.{cone_marks}
use Rattle.marks.proofs.InterestPass.{InterestSoFar}
use Rattle.marks.proofs.interest.mark.Given as goal

abbrev pub invariant-loop-g : goal.invariant-loop-g
invariant-loop-g l =
    (l.size + l.g ≤ l.map.gates)
    × ((s : List ℕ) → l.initial.marks ≡ cone_marks (circuit l.map.bytes.now) s → InterestSoFar (circuit l.map.bytes.now) s l.g l.marks l.size)
