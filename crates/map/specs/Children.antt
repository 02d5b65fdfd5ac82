-- Document 01's Children. Assumes nothing.
use Rattle.std.specs.Prelude.{ℕ, ◌+◌, ◌*◌, ◌≤◌, ◌<◌, ◌≡◌, Bool, true, cond, List, [], length, take, drop, eqb, ltb}
use Rattle.std.specs.Borrow.{Bor}
use Rattle.folds.specs.Folds.{◌and◌}
use Rattle.circuit.specs.Gate.{is_input, kind_of}
use Rattle.map.specs.Map.{u16_at, gate_count, children_place, kind_byte, fan_in, first_child, child_at}
use Rattle.map.specs.Check.{verdict}

-- is g a gate of an accepted map
unfoldable pub has_gate : List ℕ → ℕ → Bool
has_gate m g = eqb (verdict m) 0 and ltb g (gate_count m)

-- "the stretch of the lent map that holds a gate's children": where it starts
unfoldable pub stretch_place : List ℕ → ℕ → ℕ
stretch_place m g = cond (has_gate m g) (children_place m + 2 * first_child m g) 0

-- and how many bytes it has: "it is empty for an input, a gate number past the end or a map that Check declines"
unfoldable pub stretch_length : List ℕ → ℕ → ℕ
stretch_length m g = cond (has_gate m g) (2 * fan_in m g) 0

-- What Children does: the part that it hands back, by its place in memory, a block and an offset there, and its bytes
pub record ChildrenEffect : Type 0 where
  pub block : ℕ
  pub offset : ℕ
  pub bytes : List ℕ

unfoldable pub children_answer : Bor (List ℕ) → ChildrenEffect
children_answer r = record { block = r.ref_ptr.0; offset = r.ref_ptr.1; bytes = r.now }

-- "a returned part of the caller's map slice, whose place and bytes the contract fixes": m is the lent slice
unfoldable pub children_effect : Bor (List ℕ) → ℕ → ChildrenEffect
children_effect m g = record {
  block = m.ref_ptr.0;
  offset = stretch_place m.now g + m.ref_ptr.1;
  bytes = take (stretch_length m.now g) (drop (stretch_place m.now g) m.now);
}

-- "Children hands back the stretch of the lent map that holds a gate's children, no copy; it is empty for an input, a gate number past the end or a map
-- that Check declines"
--     block, within                a part of the lent map,
--     place, long                  which at a gate of an accepted map starts at the gate's first child and has two bytes for each child:
--     holds                        its children in their order
--     input, past_end, refused     where it is empty
pub record ChildrenMeans (m : Bor (List ℕ)) (g : ℕ) (r : ChildrenEffect) : Type 0 where
  pub block : r.block ≡ m.ref_ptr.0
  pub within : (m.ref_ptr.1 ≤ r.offset) × (r.offset + length r.bytes ≤ m.ref_ptr.1 + length m.now)
  pub place : verdict m.now ≡ 0 → g < gate_count m.now → r.offset ≡ children_place m.now + 2 * first_child m.now g + m.ref_ptr.1
  pub long : verdict m.now ≡ 0 → g < gate_count m.now → length r.bytes ≡ 2 * fan_in m.now g
  pub holds : verdict m.now ≡ 0 → g < gate_count m.now → (j : ℕ) → j < fan_in m.now g → u16_at r.bytes (2 * j) ≡ child_at m.now g j
  pub input : is_input (kind_of (kind_byte m.now g)) ≡ true → r.bytes ≡ []
  pub past_end : gate_count m.now ≤ g → r.bytes ≡ []
  pub refused : ¬ (verdict m.now ≡ 0) → r.bytes ≡ []

abbrev pub ChildrenDoes : Type 0
ChildrenDoes = (m : Bor (List ℕ)) (g : ℕ) → ChildrenMeans m g (children_effect m g)
