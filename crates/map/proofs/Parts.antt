-- The stretch of a gate's children, from what Children reads. Assumes nothing.
use Prim.Native.Nat.{ℕ, ◌+◌, ◌*◌, ◌<◌, ◌≤◌}
use mathlib.Core.Path.{◌≡◌, refl, ap, ◌∙◌}
use mathlib.Core.Bool.{true, false}
use mathlib.Core.Logic.{inl, inr}
use mathlib.Core.List.{List, []}
use native.Mathlib.Omega.{arith}
use lib.ListN.{length, take, drop, length-drop}
use lib.Seq.{length-take-le, get_or-take, get_or-drop}
use borrow.Author.Tests.{eq-eqb, ne_eqb, eqb-true, le-ltb, lt-ltb, ltb-true}
use Rattle.folds.proofs.Tests.{which, and_left, and_right, and_both, and_first_false, and_second_false}
use Rattle.circuit.specs.Gate.{is_input, kind_of}
use Rattle.map.specs.Map.{u16_at, gate_count, children_place, kind_byte, fan_in, first_child, child_at}
use Rattle.kinds.proofs.Fans.{input_alone}
use Rattle.map.specs.Check.{kind_test, verdict}
use Rattle.map.specs.Children.{has_gate, stretch_place, stretch_length, children_effect, ChildrenDoes}
use Rattle.map.proofs.Facts.{facts}

-- ---- which gates have one

pub no_map : (m : List ℕ) (g : ℕ) → (verdict m ≡ 0 → ⊥) → has_gate m g ≡ false
unfolding has_gate
no_map m g h = and_first_false _ _ (ne_eqb (verdict m) 0 h)

pub past_end : (m : List ℕ) (g : ℕ) → gate_count m ≤ g → has_gate m g ≡ false
unfolding has_gate
past_end m g h = and_second_false _ _ (le-ltb g (gate_count m) h)

pub has_gate_lem : (m : List ℕ) (g : ℕ) → verdict m ≡ 0 → g < gate_count m → has_gate m g ≡ true
unfolding has_gate
has_gate_lem m g v h = and_both _ _ (eq-eqb (verdict m) 0 v) (lt-ltb g (gate_count m) h)

-- ---- what the stretch holds

module _ (m : List ℕ) (g : ℕ) where
  stretch_none : has_gate m g ≡ false → stretch_length m g ≡ 0
  unfolding stretch_length
  stretch_none h = rw h

  -- two bytes of a part are the part's two bytes
  part_word : (a n i b : ℕ) → i + 1 < n → b ≡ a + i → u16_at (take n (drop a m)) i ≡ u16_at m b
  unfolding u16_at
  part_word a n i b l e =
      let q : a + (i + 1) ≡ b + 1 = omega arith in
      rw (get_or-take n (drop a m) i 0 (omega arith), get_or-take n (drop a m) (i + 1) 0 l, get_or-drop a m i 0, get_or-drop a m (i + 1) 0, q, e)

  pub stretch_place_lem : has_gate m g ≡ true → stretch_place m g ≡ children_place m + 2 * first_child m g
  unfolding stretch_place
  stretch_place_lem h = rw h

  pub stretch_long : has_gate m g ≡ true → stretch_length m g ≡ 2 * fan_in m g
  unfolding stretch_length
  stretch_long h = rw h

  stretch_holds : has_gate m g ≡ true → (j : ℕ) → j < fan_in m g → u16_at (take (stretch_length m g) (drop (stretch_place m g) m)) (2 * j) ≡ child_at m g j
  stretch_holds h j l = rw (stretch_place_lem h, stretch_long h) (part_word (children_place m + 2 * first_child m g) (2 * fan_in m g) (2 * j) _ (omega arith) (omega arith))

  gate_of : has_gate m g ≡ true → (verdict m ≡ 0) × (g < gate_count m)
  unfolding has_gate
  gate_of h = (eqb-true _ _ (and_left _ _ h), ltb-true _ _ (and_right _ _ h))

  stretch_input : is_input (kind_of (kind_byte m g)) ≡ true → stretch_length m g ≡ 0
  unfolding stretch_length kind_test
  stretch_input i = elim (which (has_gate m g)) [
    | inl h ↦ (let (v, l) = gate_of h in let f = input_alone (kind_byte m g) (fan_in m g) i ((facts m v).kinds g l) in rw (h, f))
    | inr h ↦ rw h
  ]

  pub stretch_within : stretch_place m g + stretch_length m g ≤ length m
  unfolding stretch_place stretch_length
  stretch_within = elim (which (has_gate m g)) [
    | inl h ↦ (let (v, l) = gate_of h in let p = (facts m v).sound.placed in rw h (omega (arith, p.within g l, p.shaped.long)))
    | inr h ↦ rw h (omega arith)
  ]

  bytes_long : length (take (stretch_length m g) (drop (stretch_place m g) m)) ≡ stretch_length m g
  bytes_long = length-take-le (stretch_length m g) (drop (stretch_place m g) m) (omega (arith, length-drop (stretch_place m g) m, stretch_within))

  no_bytes : stretch_length m g ≡ 0 → take (stretch_length m g) (drop (stretch_place m g) m) ≡ []
  no_bytes e = rw e

pub children_does : ChildrenDoes
unfolding children_effect
children_does m g = record {
  block = refl;
  within = (omega arith, omega (arith, bytes_long m.now g, stretch_within m.now g));
  place = λ v l. ap (λ (n : ℕ). n + m.ref_ptr.1) (stretch_place_lem m.now g (has_gate_lem m.now g v l));
  long = λ v l. bytes_long m.now g ∙ stretch_long m.now g (has_gate_lem m.now g v l);
  holds = λ v l. stretch_holds m.now g (has_gate_lem m.now g v l);
  input = λ i. no_bytes m.now g (stretch_input m.now g i);
  past_end = λ h. no_bytes m.now g (stretch_none m.now g (past_end m.now g h));
  refused = λ h. no_bytes m.now g (stretch_none m.now g (no_map m.now g h));
}
