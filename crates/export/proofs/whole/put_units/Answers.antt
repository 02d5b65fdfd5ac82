use Rattle.std.proofs.Common.{◌<◌, ◌≡◌, arith}
use Rattle.map.specs.Map.{code_count}
use Rattle.text.proofs.Written.{wrote_none, piece_fits, piece_next}
use Rattle.export.specs.Inner.{unit_text, units_text}
use Rattle.export.proofs.Texts.{units_none, units_more}
use Rattle.export.proofs.whole.put_units.Goals as goal

pub loop-r-init : goal.loop-r-init
loop-r-init c = rw (units_none c.args.map.bytes.now) (wrote_none _)

pub put_unit-at-requires : goal.put_unit-at-requires
put_unit-at-requires c =
    let m = c.args.map.bytes.now in
    let h : c.loop-r.r < code_count m = omega (arith, c.args.map.contents, c.loop-r-test.true) in
    rw (c.literal-code.ensures, c.code_value.ensures, c.code_gate.ensures.0) (piece_fits (units_text m) (unit_text m) (units_more m) (code_count m) _ _ _ _ c.requires h c.loop-r.invariant)

pub loop-r-preserved : goal.loop-r-preserved
loop-r-preserved c =
    let m = c.args.map.bytes.now in
    piece_next (units_text m) (unit_text m) (units_more m) _ _ _ _ _ _ c.loop-r.invariant (rw (c.literal-code.ensures, c.code_value.ensures, c.code_gate.ensures.0) at c.put_unit-at.ensures)

pub returns : goal.returns
returns c =
    let e : c.loop-r.r ≡ code_count c.args.map.bytes.now = omega (arith, c.args.map.contents, c.loop-r-test.false, c.loop-r.auto) in
    rw e at c.loop-r.invariant
