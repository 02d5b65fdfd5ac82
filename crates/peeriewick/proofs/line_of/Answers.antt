use Rattle.line.proofs.Lines.{printed_line, line_of_all}
use Rattle.peeriewick.proofs.line_of.Goals as goal

pub returns : goal.returns
returns c = line_of_all _ _ _ c.requires.buf_len.0 (printed_line _ _ _ _ c.requires.line_room_in_bounds c.line-size.ensures.out_after)
