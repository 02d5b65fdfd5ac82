use Rattle.std.proofs.Common.{sym, ◌∙◌}
use Rattle.text.proofs.Written.{wrote_none, wrote_as, fits_as}
use Rattle.line.proofs.Rows.{digit_is, none_is}
use Rattle.line.proofs.report.put_input.Goals as goal

pub put_byte-requires : goal.put_byte-requires
put_byte-requires c = fits_as _ _ _ (digit_is _ _ _ _ c.kind.ensures (sym c.eq.ensures ∙ c.if-eq.true)) c.requires.room

pub returns-then-eq : goal.returns-then-eq
returns-then-eq c = wrote_as _ _ _ _ _ (digit_is _ _ _ _ c.kind.ensures (sym c.eq.ensures ∙ c.if-eq.true)) (rw (c.digit_of.ensures, c.is_on.ensures) at c.put_byte.ensures)

pub returns-else-eq : goal.returns-else-eq
returns-else-eq c = wrote_as _ _ _ _ _ (none_is _ _ _ _ c.kind.ensures (sym c.eq.ensures ∙ c.if-eq.false)) (wrote_none _)
