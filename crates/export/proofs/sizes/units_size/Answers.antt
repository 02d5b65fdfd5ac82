use Rattle.std.proofs.Common.{ℕ, ◌≡◌, length, refl, ap, ◌∙◌, arith}
use Rattle.circuit.proofs.Values.{bit_is}
use Rattle.map.specs.Map.{code_count}
use Rattle.export.specs.Inner.{units_text}
use Rattle.export.proofs.Lengths.{units_begin, units_go_on}
use Rattle.export.proofs.sizes.units_size.Goals as goal

pub loop-r-init : goal.loop-r-init
loop-r-init c = units_begin c.args.map.bytes.now

pub loop-r-preserved : goal.loop-r-preserved
loop-r-preserved c = units_go_on _ _ _ _ _ _ c.loop-r.invariant c.code_gate.ensures.0 c.item_size.ensures (rw (c.from.ensures, bit_is, c.code_value.ensures) refl)

pub returns : goal.returns
returns c =
    let e : c.loop-r.r ≡ code_count c.args.map.bytes.now = omega (arith, c.args.map.contents, c.loop-r-test.false, c.loop-r.auto) in
    (c.loop-r.invariant.0 ∙ ap (λ (n : ℕ). length (units_text c.args.map.bytes.now n)) e, omega (arith, c.loop-r.invariant.1, e, c.args.map.contents.codes_is))
