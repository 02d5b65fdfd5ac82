use Rattle.std.proofs.Common.{◌≡◌, arith}
use Rattle.map.specs.Map.{gate_count}
use Rattle.export.proofs.Lengths.{measured_none, measured_more}
use Rattle.export.proofs.sizes.gates_size.Goals as goal

pub loop-g-init : goal.loop-g-init
loop-g-init c = measured_none c.args.map.bytes.now

pub loop-g-preserved : goal.loop-g-preserved
loop-g-preserved c = measured_more _ _ _ _ _ _ c.loop-g.invariant (rw (c.gate.ensures.0, c.gate.ensures.1) at c.gate_size-gate.ensures)

pub returns : goal.returns
returns c =
    let e : c.loop-g.g ≡ gate_count c.args.map.bytes.now = omega (arith, c.args.map.contents, c.loop-g-test.false, c.loop-g.auto) in
    rw e at c.loop-g.invariant
