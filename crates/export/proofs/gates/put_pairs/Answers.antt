use Rattle.text.specs.Written.{Wrote}
use Rattle.text.proofs.Written.{wrote_next}
use Rattle.export.specs.Inner.{pair_text}
use Rattle.export.proofs.gates.put_pairs.Goals as goal

pub returns : goal.returns
returns c =
    let m = c.args.gate.map.bytes.now in
    let g = c.args.gate.number in
    let n = c.args.negated in
    let one : Wrote (pair_text m g n 0 1) _ c.put_three-at.new.out c.put_three-at.result
    = rw (← c.kid.ensures.is, ← c.kid-2.ensures.is, ← c.literal-own.ensures, ← c.literal-first.ensures, ← c.literal-second.ensures) c.put_three-at.ensures in
    let two : Wrote (pair_text m g n 0 2) _ c.put_three-at-2.new.out c.put_three-at-2.result
    = rw (← c.kid.ensures.is, ← c.kid-3.ensures.is, ← c.literal-own.ensures, ← c.literal-first.ensures, ← c.literal-third.ensures) c.put_three-at-2.ensures in
    let three : Wrote (pair_text m g n 1 2) _ c.put_three.new.out c.put_three.result
    = rw (← c.kid-2.ensures.is, ← c.kid-3.ensures.is, ← c.literal-own.ensures, ← c.literal-second.ensures, ← c.literal-third.ensures) c.put_three.ensures in
    wrote_next _ _ _ _ _ _ _ (wrote_next _ _ _ _ _ _ _ one two) three
