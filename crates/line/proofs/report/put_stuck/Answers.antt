use Rattle.text.proofs.Written.{wrote_next}
use Rattle.line.proofs.report.put_stuck.Goals as goal

pub returns : goal.returns
returns c = wrote_next _ _ _ _ _ _ _ c.put_counts-at.ensures c.put_byte.ensures
