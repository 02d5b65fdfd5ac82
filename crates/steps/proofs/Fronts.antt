-- The front by its marks, and the gate that an entry draws. Assumes nothing.
use Prim.Native.Nat.{ℕ, ◌+◌, ◌*◌, ◌≤◌, ◌%◌}
use mathlib.Core.Path.{◌≡◌, refl, sym, ap, ◌∙◌}
use native.Mathlib.Omega.{arith}
use mathlib.Core.Bool.{Bool, true, false, false≢true}
use mathlib.Core.List.{List, map}
use lib.ListN.{length, get_or}
use lib.Dec.{eqb}
use Rattle.circuit.specs.Tools.{byte, up_to}
use Rattle.circuit.specs.Circuit.{Circuit}
use Rattle.circuit.specs.Survey.{cone, in_front, front, front_size}
use Rattle.circuit.specs.Run.{drawn}
use Rattle.circuit.proofs.Lists.{map_at, in_up_to, select_same}
use Rattle.circuit.proofs.Cone.{front_cone, is_in_front}
use Rattle.circuit.proofs.Moves.{drawn_in}
use Rattle.map.specs.Map.{circuit}
use Rattle.map.specs.declared.accepted.Map.{Map}
use Rattle.map.proofs.Facts.{well_formed}
use Rattle.marks.specs.Marks.{cone_marks, MarksOf}
use Rattle.marks.proofs.Tables.{length_table}
use Rattle.marks.proofs.Marked.{front_some}
use Rattle.picks.specs.Picks.{front_by}
use Rattle.steps.specs.Drawable.{Drawable}

-- 3 is the mark of the front
three : (k f : Bool) → (f ≡ true → k ≡ true) → eqb (byte k + 2 * byte f) 3 ≡ f
three true true h = refl
three true false h = refl
three false true h = absurd (false≢true (h refl))
three false false h = refl

front_by_lem : (c : Circuit) (s w : List ℕ) → w ≡ cone_marks c s → front_by w ≡ front c s
unfolding front_by front cone_marks
front_by_lem c s w e = rw (e, length_table (λ g. byte (cone c s g) + 2 * byte (in_front c s g)) c.gates)
    (select_same (λ g. eqb (get_or (map (λ x. byte (cone c s x) + 2 * byte (in_front c s x)) (up_to c.gates)) g 0) 3) (in_front c s) (up_to c.gates) (λ g m.
    rw (map_at (λ x. byte (cone c s x) + 2 * byte (in_front c s x)) c.gates g 0 (in_up_to g c.gates m)) (three (cone c s g) (in_front c s g) (front_cone c s g))))

-- marks that show the front
module _ (c : Circuit) (s marks : List ℕ) (front : ℕ) (a : MarksOf c s marks front) where
  pub front_long : length (front_by marks) ≡ front
  unfolding front_size
  front_long = ap length (front_by_lem c s marks a.are) ∙ sym a.front_is

  -- the gate found in them is the one drawn
  pub drawn_is : (d k g : ℕ) → k ≡ d % front → g ≡ get_or (front_by marks) k 0 → g ≡ drawn c s d
  unfolding drawn front_size
  drawn_is d k g q h = h ∙ rw (front_by_lem c s marks a.are, q, a.front_is)

-- and it is unjustified
pub drawable : (map : Map) (s marks : List ℕ) (front d k g : ℕ) → MarksOf (circuit map.bytes.now) s marks front → 1 ≤ front → k ≡ d % front → g ≡ get_or (front_by marks) k 0
    → Drawable map.bytes.now map.gates s g
drawable map s marks front d k g a h q e =
    let c = circuit map.bytes.now in
    let f = is_in_front c (well_formed _ map.is) s (drawn c s d) (drawn_in c (well_formed _ map.is) s d (front_some c s (omega (arith, a.front_is)))) in
    rw (drawn_is c s marks front a d k g q e, map.contents.gates_is) (record { below = f.0; unjustified = f.2 })
