use Rattle.text.proofs.Written.{wrote_next}
use Rattle.export.proofs.gates.put_xor.Goals as goal

pub returns : goal.returns
returns c = wrote_next _ _ _ _ _ _ _ c.put_parity-at.ensures c.put_parity.ensures
