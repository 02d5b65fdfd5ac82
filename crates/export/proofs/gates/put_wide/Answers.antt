use Rattle.text.proofs.Written.{wrote_next, fits_first, fits_next}
use Rattle.export.proofs.Texts.{wide_is}
use Rattle.export.proofs.gates.put_wide.Goals as goal

pub put_item-at-requires : goal.put_item-at-requires
put_item-at-requires c = rw c.literal.ensures (fits_first _ _ _ (rw (← wide_is c.args.gate.map.bytes.now c.args.gate.number c.args.negated) at c.requires))

pub put_kids-requires : goal.put_kids-requires
put_kids-requires c = fits_next _ _ _ _ _ (rw (← wide_is c.args.gate.map.bytes.now c.args.gate.number c.args.negated) at c.requires) (rw c.literal.ensures at c.put_item-at.ensures)

pub returns : goal.returns
returns c = rw (← wide_is c.args.gate.map.bytes.now c.args.gate.number c.args.negated) (wrote_next _ _ _ _ _ _ _ (rw c.literal.ensures at c.put_item-at.ensures) c.put_kids.ensures)
