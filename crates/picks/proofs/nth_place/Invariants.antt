use Rattle.std.proofs.Common.{◌≡◌, ◌+◌, get_or}
use Rattle.circuit.proofs.Lists.{place_of}
use Rattle.picks.proofs.nth_place.Given as goal

abbrev pub invariant-loop-i : goal.invariant-loop-i
invariant-loop-i g l = l.left + place_of (λ i. g.T.PartialEq.eq (get_or l.items i l.item) l.item) l.i ≡ l.k
