use Rattle.std.proofs.Common.{length, arith, ap, ◌∙◌}
use Rattle.progress.proofs.go.Goals as goal

pub loop-further-smaller : goal.loop-further-smaller
loop-further-smaller c =
    let e = c.in-Continue.ensures.of _ c.loop-further.invariant.0.going in
    omega (arith, e, c.loop-further.invariant.0.going, ap (λ x. length x.now) e.tape)

pub loop-further-preserved : goal.loop-further-preserved
loop-further-preserved c =
    let e = c.in-Continue.ensures.of _ c.loop-further.invariant.0.going in
    (e.stands, ap (λ x. x.now) e.tape ∙ c.loop-further.invariant.1)
