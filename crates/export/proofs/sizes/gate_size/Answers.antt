use Rattle.std.proofs.Common.{arith}
use Rattle.export.proofs.Lengths.{fan_eight, gate_measured}
use Rattle.export.proofs.sizes.gate_size.Goals as goal

pub shape_of-shape-requires : goal.shape_of-shape-requires
shape_of-shape-requires c = omega (arith, c.fan-fan.ensures, fan_eight c.args.gate.map.bytes.now c.args.gate.map.is c.args.gate.number c.args.gate.read.known)

pub returns : goal.returns
returns c =
    gate_measured _ c.args.gate.map.is _ c.args.gate.read.known _ _ _ _ _ c.args.gate.read.kind_is c.fan-fan.ensures c.shape_of-shape.ensures c.item_size.ensures c.kids_size.ensures
