use Rattle.text.proofs.Written.{wrote_next}
use Rattle.export.proofs.literals.put_number.Goals as goal

pub returns : goal.returns
returns c = wrote_next _ _ _ _ _ _ _ c.put_decimal-at.ensures c.put_byte.ensures
