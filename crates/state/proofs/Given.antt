-- What its children give a gate, by how many of them are at 1, and the fan-in of a gate whose kind allows one alone. Assumes nothing.
use Rattle.std.proofs.Common.{ℕ, Option, Some, ◌≡◌, Bool, List, [], ◌∷◌, map, length, refl, sym, ap, ◌∙◌}
use Rattle.std.proofs.lemmas.List.{length-map}
use Rattle.circuit.specs.Tools.{up_to, select}
use Rattle.circuit.specs.Gate.{kind_of, count_on}
use Rattle.circuit.specs.Circuit.{on, given}
use Rattle.circuit.proofs.Lists.{length_up_to}
use Rattle.kinds.specs.Kinds.{only_fan_in, GivesBy}
use Rattle.kinds.proofs.Fans.{only_fan}
use Rattle.kinds.proofs.Count.{count_is}
use Rattle.map.specs.declared.accepted.Map.{Map}
use Rattle.map.specs.declared.accepted.Gate.{Gate}
use Rattle.map.specs.Map.{kind_byte, fan_in, child_at, kids_of, circuit}
use Rattle.map.specs.Check.{kind_test}
use Rattle.map.specs.Inner.{GateOf}

-- what a gate's children give, from their number and how many are at 1
given_count : (m s : List ℕ) (g : ℕ) (v : Bool) → GivesBy (kind_of (kind_byte m g)) (fan_in m g) (length (select (λ j. on s (child_at m g j)) (up_to (fan_in m g)))) v
    → v ≡ given (circuit m) s g
unfolding kids_of
given_count m s g v h = h (map (on s) (kids_of m g)) (length-map (kids_of m g) (on s) ∙ length-map (up_to (fan_in m g)) (λ j. child_at m g j) ∙ length_up_to (fan_in m g))
    (ap count_on (map_map (up_to (fan_in m g))) ∙ count_is (λ j. on s (child_at m g j)) (fan_in m g))
  where
    map_map : (xs : List ℕ) → map (on s) (map (λ j. child_at m g j) xs) ≡ map (λ j. on s (child_at m g j)) xs
    map_map [] = refl
    map_map (x ∷ xs) = ap (λ (l : List Bool). on s (child_at m g x) ∷ l) (map_map xs)

-- a gate as it was read
module _ (x : Gate) (map : Map) (g : ℕ) (e : (x.map ≡ map) × (x.number ≡ g)) where
  read : GateOf map.bytes.now g x.kind x.first
  read = rw (← e.0, ← e.1) x.read

  -- its fan-in, where its kind allows one alone
  pub fan_alone : (o : Option ℕ) (q r : ℕ) → o ≡ only_fan_in x.kind → o ≡ Some q → q ≡ r → r ≡ fan_in map.bytes.now g
  unfolding kind_test
  fan_alone o q r w i t = sym (only_fan (kind_byte map.bytes.now g) (fan_in map.bytes.now g) q (map.is.kinds g read.known) (sym (rw read.kind_is at w) ∙ i) ∙ t)

  -- what its children give it
  pub given_read : (s : List ℕ) (v : Bool) (n f : ℕ) → f ≡ fan_in map.bytes.now g → n ≡ length (select (λ j. on s (child_at map.bytes.now g j)) (up_to (fan_in map.bytes.now g)))
      → GivesBy x.kind f n v → v ≡ given (circuit map.bytes.now) s g
  given_read s v n f w q h = given_count map.bytes.now s g v (rw (← q, ← read.kind_is, ← w) h)
