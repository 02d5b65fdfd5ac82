use Rattle.std.proofs.Common.{◌≡◌, arith, add-zero}
use Rattle.map.proofs.Facts.{well_formed}
use Rattle.marks.proofs.InterestPass.{interest_begins, interest_step, interest_ends}
use Rattle.marks.proofs.interest.mark.Goals as goal

pub loop-g-init : goal.loop-g-init
loop-g-init c = (omega arith, λ s e. rw c.args.map.contents.gates_is (interest_begins _ s _ e))

pub loop-g-preserved-then-mark_gate : goal.loop-g-preserved-then-mark_gate
loop-g-preserved-then-mark_gate c = (
  omega arith,
  λ s e. interest_step _ s (well_formed _ c.args.map.is) _ c.loop-g-test.true (omega arith) _ _ _ _ (c.loop-g.invariant.1 s e) c.if-mark_gate.ensures,
)

pub loop-g-preserved : goal.loop-g-preserved
loop-g-preserved c = (
  omega arith,
  λ s e. rw add-zero at (interest_step _ s (well_formed _ c.args.map.is) _ c.loop-g-test.true (omega arith) _ _ _ _ (c.loop-g.invariant.1 s e) c.if-mark_gate.ensures),
)

pub returns : goal.returns
returns c =
    let z : c.loop-g.g ≡ 0 = omega arith in
    λ s e. interest_ends _ s c.loop-g.marks _ (rw z at (c.loop-g.invariant.1 s e))
