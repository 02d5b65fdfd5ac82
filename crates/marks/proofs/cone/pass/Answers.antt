use Rattle.std.proofs.Common.{◌≡◌, arith, add-zero}
use Rattle.map.proofs.Facts.{well_formed}
use Rattle.marks.proofs.ConePass.{cone_begins, cone_step, cone_ends}
use Rattle.marks.proofs.cone.pass.Goals as goal

pub loop-g-init : goal.loop-g-init
loop-g-init c = rw c.args.s.map.contents.gates_is (cone_begins _ _ _ (omega arith) c.requires.code_marks)

pub loop-g-preserved-then-mark_gate : goal.loop-g-preserved-then-mark_gate
loop-g-preserved-then-mark_gate c = cone_step _ _ (well_formed _ c.args.s.map.is) _ c.loop-g-test.true _ _ _ _ c.loop-g.invariant c.if-mark_gate.ensures

pub loop-g-preserved : goal.loop-g-preserved
loop-g-preserved c = rw add-zero at (cone_step _ _ (well_formed _ c.args.s.map.is) _ c.loop-g-test.true _ _ _ _ c.loop-g.invariant c.if-mark_gate.ensures)

pub returns : goal.returns
returns c =
    let z : c.loop-g.g ≡ 0 = omega arith in
    cone_ends _ _ _ _ (rw z at c.loop-g.invariant)
