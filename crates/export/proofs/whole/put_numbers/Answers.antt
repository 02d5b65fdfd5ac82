use Rattle.text.proofs.Written.{wrote_next}
use Rattle.export.proofs.whole.put_numbers.Goals as goal

pub returns : goal.returns
returns c = wrote_next _ _ _ _ _ _ _ (wrote_next _ _ _ _ _ _ _ (wrote_next _ _ _ _ _ _ _ c.put_decimal-at.ensures c.put_byte-at.ensures) c.put_decimal-at-2.ensures) c.put_byte.ensures
