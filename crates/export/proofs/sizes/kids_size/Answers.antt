use Rattle.std.proofs.Common.{◌≡◌, arith}
use Rattle.map.specs.Map.{fan_in, kids_of}
use Rattle.export.proofs.Lengths.{kids_begin, kids_go_on}
use Rattle.export.proofs.sizes.kids_size.Goals as goal

pub loop-j-init : goal.loop-j-init
loop-j-init c = kids_begin c.args.gate.map.bytes.now c.args.gate.number

pub loop-j-preserved : goal.loop-j-preserved
loop-j-preserved c = kids_go_on _ _ _ _ _ _ c.loop-j.invariant c.kid.ensures.is c.item_size-size.ensures

pub returns : goal.returns
unfolding kids_of
returns c =
    let e : c.loop-j.j ≡ fan_in c.args.gate.map.bytes.now c.args.gate.number = omega (arith, c.requires, c.loop-j-test.false, c.loop-j.auto) in
    rw (c.requires, ← e) c.loop-j.invariant
