use Rattle.std.proofs.Common.{◌<◌, ◌≡◌, arith}
use Rattle.map.specs.Map.{gate_count}
use Rattle.text.proofs.Written.{wrote_none, piece_fits, piece_next}
use Rattle.export.specs.Inner.{gate_text, gates_text}
use Rattle.export.proofs.Texts.{gates_none, gates_more}
use Rattle.export.proofs.gates.put_gates.Goals as goal

pub loop-g-init : goal.loop-g-init
loop-g-init c = rw (gates_none c.args.map.bytes.now) (wrote_none _)

pub put_gate-at-requires : goal.put_gate-at-requires
put_gate-at-requires c =
    let m = c.args.map.bytes.now in
    let h : c.loop-g.g < gate_count m = omega (arith, c.args.map.contents, c.loop-g-test.true) in
    rw (c.gate.ensures.0, c.gate.ensures.1) (piece_fits (gates_text m) (gate_text m) (gates_more m) (gate_count m) _ _ _ _ c.requires h c.loop-g.invariant)

pub loop-g-preserved : goal.loop-g-preserved
loop-g-preserved c =
    let m = c.args.map.bytes.now in
    piece_next (gates_text m) (gate_text m) (gates_more m) _ _ _ _ _ _ c.loop-g.invariant (rw (c.gate.ensures.0, c.gate.ensures.1) at c.put_gate-at.ensures)

pub returns : goal.returns
returns c =
    let e : c.loop-g.g ≡ gate_count c.args.map.bytes.now = omega (arith, c.args.map.contents, c.loop-g-test.false, c.loop-g.auto) in
    rw e at c.loop-g.invariant
