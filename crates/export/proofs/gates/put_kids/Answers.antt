use Rattle.std.proofs.Common.{◌<◌, ◌≡◌, not, arith}
use Rattle.map.specs.Map.{fan_in, child_at}
use Rattle.text.proofs.Written.{wrote_none, wrote_next, fits_first, fits_next, piece_fits, piece_next}
use Rattle.dimacs.specs.Dimacs.{print_item}
use Rattle.export.specs.Inner.{literal, kids_text}
use Rattle.export.proofs.Texts.{kids_none, kids_next}
use Rattle.export.proofs.gates.put_kids.Goals as goal

pub loop-j-init : goal.loop-j-init
loop-j-init c = rw (kids_none c.args.gate.map.bytes.now c.args.gate.number c.args.negated) (wrote_none _)

pub put_item-at-requires : goal.put_item-at-requires
put_item-at-requires c =
    let m = c.args.gate.map.bytes.now in
    let g = c.args.gate.number in
    let h : c.loop-j.j < fan_in m g = omega (arith, c.fan-j-end.ensures, c.loop-j-test.true) in
    rw (c.literal.ensures, c.kid.ensures.is)
    (piece_fits (kids_text m g c.args.negated) (λ n. print_item (literal (not c.args.negated) (child_at m g n))) (kids_next m g c.args.negated) (fan_in m g) _ _ _ _ (fits_first _ _ _ c.requires) h c.loop-j.invariant)

pub loop-j-preserved : goal.loop-j-preserved
loop-j-preserved c =
    let m = c.args.gate.map.bytes.now in
    let g = c.args.gate.number in
    piece_next (kids_text m g c.args.negated) (λ n. print_item (literal (not c.args.negated) (child_at m g n))) (kids_next m g c.args.negated) _ _ _ _ _ _ c.loop-j.invariant
    (rw (c.literal.ensures, c.kid.ensures.is) at c.put_item-at.ensures)

pub put_end-requires : goal.put_end-requires
put_end-requires c =
    let e : c.loop-j.j ≡ fan_in c.args.gate.map.bytes.now c.args.gate.number = omega (arith, c.fan-j-end.ensures, c.loop-j-test.false, c.loop-j.auto) in
    fits_next _ _ _ _ _ c.requires (rw e at c.loop-j.invariant)

pub returns : goal.returns
returns c =
    let e : c.loop-j.j ≡ fan_in c.args.gate.map.bytes.now c.args.gate.number = omega (arith, c.fan-j-end.ensures, c.loop-j-test.false, c.loop-j.auto) in
    wrote_next _ _ _ _ _ _ _ (rw e at c.loop-j.invariant) c.put_end.ensures
