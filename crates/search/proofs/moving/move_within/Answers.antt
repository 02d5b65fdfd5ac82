use Rattle.std.proofs.Common.{◌∙◌, sym, refl, arith}
use Rattle.search.proofs.Answers.{entry_there, entry_done}
use Rattle.search.proofs.moving.move_within.Goals as goal

pub returns : goal.returns
returns c =
    entry_done _ _ _ _ _ _ _ _ _ _ _ _ c.mark-front.ensures (omega arith) refl refl (sym c.read.ensures ∙ c.unwrap.ensures) c.entry-report.ensures (rw (c.write.ensures.are, c.args.coded.map.contents.gates_is))

pub unwrap-requires : goal.unwrap-requires
unwrap-requires c = rw c.read.ensures (entry_there _ refl c.requires.move_tested.four)
