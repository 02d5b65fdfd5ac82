use Rattle.std.proofs.Common.{arith}
use Rattle.map.specs.Map.{most_gates}
use Rattle.map.proofs.Laws.{marks_none}
use Rattle.steps.proofs.memory.Coded.over.Goals as goal

pub mark_coded-requires : goal.mark_coded-requires
mark_coded-requires c = (omega arith, rw c.requires (marks_none _ most_gates))
