use native.Mathlib.Omega.{arith}
use Rattle.std.proofs.lemmas.Grind.{common_steps}
use Rattle.steps.proofs.Flips.{flips_start, flips_next}
use Rattle.steps.proofs.options.flip_option.Goals as goal

pub loop-j-init : goal.loop-j-init
loop-j-init c = (flips_start _ _ _ _, omega arith)

pub loop-j-preserved : goal.loop-j-preserved
loop-j-preserved c = (flips_next c.args.gate _ _ _ _ _ _ _ _ _ c.loop-j.invariant.0 (omega arith) c.kid.ensures c.flip_child.ensures c.from-turned.ensures, grind (arith, common_steps))
