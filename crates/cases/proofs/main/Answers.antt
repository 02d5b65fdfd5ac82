use Rattle.std.proofs.Common.{ℕ, sym}
use lib.ListN.{length-replicate}
use Rattle.cases.proofs.main.Goals as goal

-- the memory is as long as it is said, without counting it
pub slice_bounds-answer-end : goal.slice_bounds-answer-end
slice_bounds-answer-end c = sym (length-replicate {A = ℕ} 524288 0)
