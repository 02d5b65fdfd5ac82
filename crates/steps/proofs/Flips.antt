-- Turning the children that an option turns, one after the other. Assumes nothing.
use Prim.Native.Nat.{ℕ, suc, ◌+◌, ◌<◌}
use mathlib.Core.Path.{◌≡◌, refl, sym, ap, ◌∙◌}
use mathlib.Core.Logic.{inl, inr}
use mathlib.Core.Bool.{Bool, cond}
use mir.Val.{bool_byte}
use mathlib.Core.List.Memᴰ.{of_map}
use mathlib.Core.List.{List, [], ◌∷◌, ◌++◌, map, append-nil, map-append, Memᴰ as In}
use native.Mathlib.Omega.{arith}
use native.Mathlib.Numerals.{add-one}
use lib.ListN.{length, length-map}
use lib.Dec.{eqb}
use Rattle.folds.proofs.Tests.{which}
use Rattle.circuit.specs.Tools.{byte, up_to, select}
use Rattle.circuit.specs.Gate.{kind_of}
use Rattle.circuit.specs.Circuit.{on}
use Rattle.circuit.specs.Run.{turn}
use Rattle.circuit.proofs.Values.{bit_is}
use Rattle.circuit.proofs.Lists.{in_up_to, select_in, select_append, place_more}
use Rattle.circuit.proofs.Turns.{turn_out}
use Rattle.map.specs.Map.{gate_count, kind_byte, fan_in, child_at}
use Rattle.kinds.specs.Kinds.{option_turns}
use Rattle.map.specs.declared.accepted.Gate.{Gate}
use Rattle.map.specs.Inner.{IsMap, KidOf}
use Rattle.map.proofs.Facts.{steps}
use Rattle.steps.specs.Options.{option_has, option_up_to}
use Rattle.steps.specs.Steps.{Flipped}

turn_append : (xs ys s : List ℕ) → turn (xs ++ ys) s ≡ turn ys (turn xs s)
turn_append [] ys s = refl
turn_append (x ∷ xs) ys s = turn_append xs ys _

module _ (m s : List ℕ) (g i : ℕ) where
  pub flips_start : Flipped (option_up_to m s g i 0) s s 0
  unfolding option_up_to
  flips_start = record { are = refl; counted = refl }

  pub flips_count : (j : ℕ) → length (option_up_to m s g i (j + 1)) ≡ length (option_up_to m s g i j) + byte (option_has m s g i j)
  unfolding option_up_to
  flips_count j = rw (add-one j) (length-map (select (option_has m s g i) (up_to (suc j))) _ ∙ place_more (option_has m s g i) j
      ∙ ap (λ (n : ℕ). n + byte (option_has m s g i j)) (sym (length-map (select (option_has m s g i) (up_to j)) (λ k. child_at m g k))))

  module _ (ok : IsMap m) (h : g < gate_count m) (j : ℕ) (l : j < fan_in m g) where
    -- children ascend: those before are others
    other_child : ¬ In (child_at m g j) (option_up_to m s g i j)
    unfolding option_up_to
    other_child n =
        let (k, a, e) = of_map (λ x. child_at m g x) _ n in
        let b = in_up_to k j (select_in (option_has m s g i) k (up_to j) a).0 in
        omega (arith, steps (λ x. child_at m g x) (fan_in m g) k j (λ x q. ok.children_ascend g x h q) b l)

    -- so its value is still that of s
    pub flips_sees : option_turns (kind_of (kind_byte m g)) (on s g) i j (on (turn (option_up_to m s g i j) s) (child_at m g j)) ≡ option_has m s g i j
    unfolding option_has
    flips_sees = ap (λ (n : ℕ). option_turns (kind_of (kind_byte m g)) (on s g) i j (eqb n 1)) (turn_out (option_up_to m s g i j) s (child_at m g j) other_child)

    pub flips_more : cond (option_has m s g i j) (turn (child_at m g j ∷ []) (turn (option_up_to m s g i j) s)) (turn (option_up_to m s g i j) s) ≡ turn (option_up_to m s g i (j + 1)) s
    unfolding option_up_to
    flips_more = rw (add-one j, select_append (option_has m s g i) (up_to j) (j ∷ [])) (elim (which (option_has m s g i j)) [
      | inl q ↦ rw (q, map-append (λ k. child_at m g k) (select (option_has m s g i) (up_to j)) (j ∷ []))
          (sym (turn_append (map (λ k. child_at m g k) (select (option_has m s g i) (up_to j))) (child_at m g j ∷ []) s))
      | inr q ↦ rw (q, append-nil)
    ])

-- the turn of the loop over a gate's children
pub flips_next : (x : Gate) (i j k turned bit : ℕ) (b : Bool) (s now next : List ℕ) → Flipped (option_up_to x.map.bytes.now s x.number i j) s now turned
    → j < fan_in x.map.bytes.now x.number → KidOf x.map.bytes.now x.number j k
    → (next ≡ cond (option_turns x.kind (on s x.number) i j (on now k)) (turn (k ∷ []) now) now) × (b ≡ option_turns x.kind (on s x.number) i j (on now k)) → bit ≡ bool_byte b
    → Flipped (option_up_to x.map.bytes.now s x.number i (j + 1)) s next (turned + bit)
flips_next x i j k turned bit b s now next f l d h q =
    let m = x.map.bytes.now in
    let g = x.number in
    let t : option_turns x.kind (on s g) i j (on now k) ≡ option_has m s g i j = rw (x.read.kind_is, d.is, f.are) (flips_sees m s g i x.map.is x.read.known j l) in
    record {
      are = h.0 ∙ rw (t, d.is, f.are) (flips_more m s g i x.map.is x.read.known j l);
      counted = omega (arith, flips_count m s g i j, q ∙ bit_is b ∙ ap byte (h.1 ∙ t), f.counted);
    }
