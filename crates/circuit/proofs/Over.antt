-- A lent memory w with x written over its first n bytes. Assumes nothing.
use Prim.Native.Nat.{ℕ, ◌≤◌}
use mathlib.Core.Path.{◌≡◌, ap, ◌∙◌}
use mathlib.Core.List.{List}
use native.Mathlib.Omega.{arith}
use lib.ListN.{length, take, drop, length-append, length-drop}
use lib.Seq.{take_at, drop_at}
use Rattle.circuit.specs.Tools.{over}

module _ (x w : List ℕ) (n : ℕ) (l : length x ≡ n) where
  pub over_first : take n (over x w) ≡ x
  over_first = take_at x (drop (length x) w) n l

  pub over_rest : drop n (over x w) ≡ drop n w
  over_rest = drop_at x (drop (length x) w) n l ∙ ap (λ (i : ℕ). drop i w) l

  pub over_long : n ≤ length w → length (over x w) ≡ length w
  over_long h = simp (length-append, length-drop) (omega arith)
