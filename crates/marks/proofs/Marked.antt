-- What marks of cone and front tell. Assumes nothing.
use Prim.Native.Nat.{ℕ, ◌+◌, ◌*◌, ◌<◌, ◌≤◌}
use mathlib.Core.Path.{◌≡◌, refl}
use mathlib.Core.Bool.{Bool, true, false, not, false≢true}
use mathlib.Core.List.{List, [], ◌∷◌}
use native.Mathlib.Omega.{arith}
use lib.ListN.{length, get_or}
use lib.Dec.{eqb}
use Rattle.circuit.specs.Tools.{byte, is_empty}
use Rattle.circuit.specs.Circuit.{Circuit}
use Rattle.circuit.specs.Survey.{cone, in_front, front, front_size}
use Rattle.circuit.proofs.Lists.{map_at, some_is_empty}
use Rattle.circuit.proofs.Cone.{front_cone}
use Rattle.marks.specs.Marks.{cone_marks}
use Rattle.marks.proofs.Tables.{length_table}

-- 0 is the mark of a gate outside the cone
nonzero : (k f : Bool) → (f ≡ true → k ≡ true) → not (eqb (byte k + 2 * byte f) 0) ≡ k
nonzero true true h = refl
nonzero true false h = refl
nonzero false true h = absurd (false≢true (h refl))
nonzero false false h = refl

empty : (xs : List ℕ) → length xs ≡ 0 → is_empty xs ≡ true
empty [] e = refl
empty (x ∷ xs) e = absurd (omega arith)

module _ (c : Circuit) (s : List ℕ) where
  pub marks_length : (w : List ℕ) → w ≡ cone_marks c s → length w ≡ c.gates
  unfolding cone_marks
  marks_length w e = rw e (length_table (λ g. byte (cone c s g) + 2 * byte (in_front c s g)) c.gates)

  pub cone_by : (w : List ℕ) → w ≡ cone_marks c s → (g : ℕ) → g < c.gates → not (eqb (get_or w g 0) 0) ≡ cone c s g
  unfolding cone_marks
  cone_by w e g l = rw (e, map_at (λ x. byte (cone c s x) + 2 * byte (in_front c s x)) c.gates g 0 l) (nonzero (cone c s g) (in_front c s g) (front_cone c s g))

  pub front_some : 1 ≤ front_size c s → is_empty (front c s) ≡ false
  unfolding front_size
  front_some h = some_is_empty (front c s) h

  pub front_none : front_size c s ≡ 0 → is_empty (front c s) ≡ true
  unfolding front_size
  front_none e = empty (front c s) e
