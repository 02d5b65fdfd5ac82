use mathlib.Core.List.{append_assoc}
use Rattle.text.proofs.Written.{wrote_next}
use Rattle.line.proofs.report.put_found.Goals as goal

pub returns : goal.returns
returns c = rw (append_assoc, append_assoc) at (wrote_next _ _ _ _ _ _ _ (wrote_next _ _ _ _ _ _ _ (wrote_next _ _ _ _ _ _ _ c.put_counts-at.ensures c.put_byte-at.ensures) c.put_row-at.ensures) c.put_byte.ensures)
