-- For inner functions: a step along a tape. Assumes nothing.
use Rattle.std.specs.Prelude.{◌+◌, cond, length, leb, Option, Some, None}
use Rattle.circuit.specs.declared.Entry.{Entry}
use Rattle.tape.specs.declared.Tape.{Tape}
use Rattle.tape.specs.Tape.{entry_at}

-- the reader behind the entry at the place reached
abbrev pub behind : Tape → Tape
behind t = record { src = t.src; at = t.at + 4 }

-- that entry with the reader behind it, or none where fewer than four bytes are left
unfoldable pub step_at : Tape → Option (Entry × Tape)
step_at t = cond (leb (t.at + 4) (length t.src.now)) (Some (entry_at t.src.now t.at, behind t)) None
