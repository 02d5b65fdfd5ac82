use Rattle.std.proofs.Common.{◌≡◌, arith}
use Rattle.circuit.specs.Gate.{kind_of}
use Rattle.map.specs.Map.{kind_byte, fan_in, kids_of}
use Rattle.marks.proofs.Reasons.{reasons_by}
use Rattle.marks.proofs.cone.mark_kids.Goals as goal

pub returns : goal.returns
unfolding kids_of
returns c =
    let m = c.args.s.map.bytes.now in
    let end : c.loop-j.j ≡ fan_in m c.args.g = omega (arith, c.loop-j-test.false, c.loop-j.auto, c.requires.long) in
    let kind : c.gate-gate.result.kind ≡ kind_of (kind_byte m c.args.g) = cc in
    rw (reasons_by m c.args.s.bytes.now c.args.g c.args.s.map.is (omega (arith, c.requires.gate, c.args.s.map.contents)) c.requires.g_value.0, ← kind, ← c.requires.g_value.1, ← c.all_relevant-all.ensures, ← end) c.loop-j.invariant
