use mathlib.Core.List.{append_assoc}
use Rattle.text.proofs.Written.{wrote_next}
use Rattle.line.proofs.report.put_counts.Goals as goal

pub returns : goal.returns
returns c = rw (append_assoc, append_assoc) at (wrote_next _ _ _ _ _ _ _ (wrote_next _ _ _ _ _ _ _ (wrote_next _ _ _ _ _ _ _ c.put_bytes-at.ensures (rw c.from.ensures at c.put_decimal-at.ensures)) c.put_byte-at.ensures) c.put_decimal.ensures)
