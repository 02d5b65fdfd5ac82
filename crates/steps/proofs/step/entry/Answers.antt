use Rattle.steps.proofs.Fronts.{drawable}
use Rattle.steps.proofs.step.entry.Goals as goal

pub turn_chosen-turned-requires : goal.turn_chosen-turned-requires
turn_chosen-turned-requires c = (drawable c.args.coded.map _ _ _ _ _ _ c.requires.marks_of.0 c.requires.marks_of.1 c.place.ensures.0 c.drawn-gate.ensures.0, c.requires.sized)
