-- For inner functions: what a move leaves. Assumes nothing.
use Rattle.std.specs.Prelude.{ℕ, ◌≡◌, List, length}
use Rattle.circuit.specs.declared.Entry.{Entry}
use Rattle.circuit.specs.Circuit.{Circuit}
use Rattle.circuit.specs.Run.{turn, move}
use Rattle.steps.specs.declared.MoveReport.{MoveReport}

-- the gates xs are turned, and counted
pub record Flipped (xs before after : List ℕ) (count : ℕ) : Type 0 where
  pub are : after ≡ turn xs before
  pub counted : count ≡ length xs

-- what the entry came to (what then stands in the memory for weighing is left open: it is overwritten before it is read)
pub record DidEntry (c : Circuit) (s : List ℕ) (e : Entry) (r : MoveReport) (after : List ℕ) : Type 0 where
  pub gate : r.gate ≡ (move c s e).gate
  pub turned : r.turned ≡ (move c s e).flips
  pub next : after ≡ (move c s e).next
