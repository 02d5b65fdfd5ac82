use Rattle.std.proofs.Common.{◌<◌, ◌≡◌, not, [], ◌∷◌, arith}
use Rattle.map.specs.Map.{fan_in, child_at}
use Rattle.text.proofs.Written.{wrote_none, piece_fits, piece_next}
use Rattle.dimacs.specs.Dimacs.{print_clause}
use Rattle.export.specs.Inner.{literal, each_text}
use Rattle.export.proofs.Texts.{each_none, each_more}
use Rattle.export.proofs.gates.put_each.Goals as goal

pub loop-j-init : goal.loop-j-init
loop-j-init c = rw (each_none c.args.gate.map.bytes.now c.args.gate.number c.args.negated) (wrote_none _)

pub put_two-at-requires : goal.put_two-at-requires
put_two-at-requires c =
    let m = c.args.gate.map.bytes.now in
    let g = c.args.gate.number in
    let h : c.loop-j.j < fan_in m g = omega (arith, c.fan-j-end.ensures, c.loop-j-test.true) in
    rw (c.literal-own.ensures, c.literal-kid.ensures, c.kid.ensures.is)
    (piece_fits (each_text m g c.args.negated) (λ n. print_clause (literal c.args.negated g ∷ literal (not c.args.negated) (child_at m g n) ∷ [])) (each_more m g c.args.negated) (fan_in m g) _ _ _ _ c.requires h c.loop-j.invariant)

pub loop-j-preserved : goal.loop-j-preserved
loop-j-preserved c =
    let m = c.args.gate.map.bytes.now in
    let g = c.args.gate.number in
    piece_next (each_text m g c.args.negated) (λ n. print_clause (literal c.args.negated g ∷ literal (not c.args.negated) (child_at m g n) ∷ [])) (each_more m g c.args.negated) _ _ _ _ _ _ c.loop-j.invariant
    (rw (c.literal-own.ensures, c.literal-kid.ensures, c.kid.ensures.is) at c.put_two-at.ensures)

pub returns : goal.returns
returns c =
    let e : c.loop-j.j ≡ fan_in c.args.gate.map.bytes.now c.args.gate.number = omega (arith, c.fan-j-end.ensures, c.loop-j-test.false, c.loop-j.auto) in
    rw e at c.loop-j.invariant
