use Rattle.std.proofs.Common.{◌<◌, ◌≡◌, refl, arith}
use Rattle.map.specs.Map.{gate_count}
use Rattle.text.proofs.Written.{wrote_none, fits_as, piece_fits, piece_next}
use Rattle.line.specs.Inner.{input_text, row_below}
use Rattle.line.proofs.Rows.{row_none, row_more, row_whole}
use Rattle.line.proofs.report.put_row.Goals as goal

pub loop-g-init : goal.loop-g-init
loop-g-init c = rw (row_none c.args.answer.map.bytes.now c.args.answer.bytes.now) (wrote_none _)

pub put_input-at-requires-clause-room : goal.put_input-at-requires-clause-room
put_input-at-requires-clause-room c =
    let m = c.args.answer.map.bytes.now in
    let ans = c.args.answer.bytes.now in
    let h : c.loop-g.g < gate_count m = omega (arith, c.args.answer.map.contents, c.loop-g-test.true) in
    piece_fits (row_below m ans) (input_text m ans) (row_more m ans) (gate_count m) _ _ _ _ (fits_as _ _ _ (row_whole m ans (gate_count m) refl) c.requires) h c.loop-g.invariant

pub loop-g-preserved : goal.loop-g-preserved
loop-g-preserved c =
    let m = c.args.answer.map.bytes.now in
    let ans = c.args.answer.bytes.now in
    piece_next (row_below m ans) (input_text m ans) (row_more m ans) _ _ _ _ _ _ c.loop-g.invariant c.put_input-at.ensures

pub returns : goal.returns
returns c =
    let m = c.args.answer.map.bytes.now in
    let e : c.loop-g.g ≡ gate_count m = omega (arith, c.args.answer.map.contents, c.loop-g-test.false, c.loop-g.auto) in
    rw (row_whole m c.args.answer.bytes.now c.loop-g.g e) at c.loop-g.invariant
