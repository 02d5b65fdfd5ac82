-- An input's parts, and the line of the run on them. Assumes nothing.
use Prim.Native.Nat.{ℕ, ◌+◌, ◌-◌, ◌<◌, ◌≤◌}
use mathlib.Core.Path.{◌≡◌, sym, ap, ◌∙◌}
use mathlib.Core.Logic.{inl, inr}
use mathlib.Core.Bool.{true, false}
use mathlib.Core.List.{List, ◌++◌}
use native.Mathlib.Omega.{arith}
use lib.ListN.{length, take, drop, replicate, length-append, length-drop}
use lib.Seq.{take_at, take_all, length-take-le, take-append_seam, drop-drop, drop-append_seam}
use lib.Dec.{leb}
use borrow.Author.Tests.{leb-true, leb-false, le-leb, lt-leb, eqb-true, eq-eqb}
use Rattle.circuit.specs.Tools.{over}
use Rattle.circuit.specs.declared.Refusal.{Refusal}
use Rattle.circuit.specs.Refusal.{number_of}
use Rattle.circuit.specs.declared.Outcome.{Outcome}
use Rattle.circuit.specs.Run.{told}
use Rattle.folds.proofs.Tests.{which, and_left, and_right, and_both, and_first_false}
use Rattle.map.specs.Map.{most_gates, u16_at}
use Rattle.map.specs.Check.{verdict}
use Rattle.map.specs.Inner.{Shaped}
use Rattle.map.proofs.Facts.{facts}
use Rattle.search.specs.Inner.{run_on_map}
use Rattle.search.specs.Run.{run_answer, run_effect}
use Rattle.search.proofs.Endings.{found_passes}
use Rattle.search.proofs.Runs.{on_a_map, no_map}
use Rattle.line.specs.Line.{most_input, lent, report, input_room, configuration_place, tape_place, map_part, configuration_part, tape_part, input_test, refused_line, effect_line, run_line, line_of, input_of, CutInput, LineOfAll, line_room, LineEffect, line_answer, line_effect}

-- what Found tells of the map
pub found_shaped : (m s tape work ans : List ℕ) → (run_effect m s tape work ans).found ≡ true → Shaped m
found_shaped m s tape work ans f = (facts m (found_passes m s tape work ans f)).sound.placed.shaped

-- the line of a run on a map that tests 1 to 7 accept, and where they refuse it
module _ (m s tape : List ℕ) where
  pub accepted_line : (b u w a : List ℕ) (o : Outcome) → b ≡ m → verdict m ≡ 0 → run_answer o u w a ≡ run_on_map b s tape (replicate most_gates 0) (replicate most_gates 0)
      → report (told o.ending) o.moves o.flips b a ≡ run_line m s tape
  unfolding lent run_answer
  accepted_line b u w a o q e h =
      rw q (ap (effect_line m) (on_a_map m s tape lent lent (run_answer o u w a) e (rw q at h)))

  pub refused_run : (r : Refusal) → number_of r ≡ verdict m → refused_line (number_of r) ≡ run_line m s tape
  unfolding run_answer
  refused_run r e = ap (effect_line m) (no_map m s tape lent lent r e)

-- what a whole input is
pub record Whole (x : List ℕ) : Type 0 where
  pub few : length x ≤ most_input
  pub head : 6 ≤ length x
  pub exact : length x ≡ tape_place x + u16_at x 4

pub whole : (x : List ℕ) → input_test x ≡ true → Whole x
unfolding input_test
whole x e = (let q = eqb-true (length x) (tape_place x + u16_at x 4) (and_right _ _ e) in
    record { few = leb-true _ _ (and_left _ _ e); head = omega arith; exact = q })

-- its configuration is no longer than it
pub configuration_fits : (x s : List ℕ) → input_test x ≡ true → s ≡ configuration_part x → length s ≤ most_input
configuration_fits x s t e =
    let w = whole x t in
    let d = length-drop (configuration_place x) x in
    rw (e, length-take-le (tape_place x - configuration_place x) (drop (configuration_place x) x) (omega (arith, w.exact, d))) (omega (arith, w.few, w.exact))

-- the line of a whole input, and of any other
module _ (x : List ℕ) where
  pub line_refused : input_test x ≡ false → refused_line 0 ≡ line_of x
  unfolding line_of
  line_refused e = rw e

  pub line_runs : input_test x ≡ true → run_line (map_part x) (configuration_part x) (tape_part x) ≡ line_of x
  unfolding line_of
  line_runs e = rw e

-- ---- an input that is too long

pub too_long : (x : List ℕ) → most_input < length x → line_of x ≡ refused_line 0
unfolding input_test
too_long x h = sym (line_refused x (and_first_false _ _ (lt-leb (length x) most_input h)))

pub cut_input : CutInput
cut_input x = elim (which (leb (length x) input_room)) [
  | inl q ↦ ap line_of (take_all input_room x (leb-true _ _ q))
  | inr q ↦ (let h : input_room < length x = leb-false _ _ q in
      let n : length (take input_room x) ≡ input_room = length-take-le input_room x (omega arith) in
      too_long (take input_room x) (omega arith) ∙ sym (too_long x (omega arith)))
]

-- the line of what was read, where memory was long enough
pub line_of_all : (room : ℕ) (read text : List ℕ) → room ≡ input_room → text ≡ line_of read → LineOfAll room read text
line_of_all room read text e h x r = h ∙ ap line_of (r ∙ ap (λ (n : ℕ). take n x) e) ∙ cut_input x

-- ---- an input of three bodies

module _ (m s tape : List ℕ) where
  abbrev x : List ℕ
  x = input_of m s tape

  map_size : u16_at x 0 ≡ length m
  unfolding u16_at
  map_size = omega arith

  configuration_size : u16_at x 2 ≡ length s
  unfolding u16_at
  configuration_size = omega arith

  tape_size : u16_at x 4 ≡ length tape
  unfolding u16_at
  tape_size = omega arith

  input_size : length x ≡ 6 + length m + length s + length tape
  input_size = simp length-append (omega arith)

  -- what is behind the map, and behind the configuration
  behind_map : drop (6 + length m) x ≡ s ++ tape
  behind_map = rw (← drop-drop (length m) 6 x) (drop-append_seam m (s ++ tape))

  behind_configuration : drop (6 + length m + length s) x ≡ tape
  behind_configuration = rw (← drop-drop (length s) (6 + length m) x, behind_map) (drop-append_seam s tape)

  -- its parts are these bodies
  pub map_part_lem : map_part x ≡ m
  map_part_lem = rw map_size (take_at m (s ++ tape) (6 + length m - 6) (omega arith))

  pub configuration_part_lem : configuration_part x ≡ s
  configuration_part_lem = rw (map_size, configuration_size, behind_map) (take_at s tape (6 + length m + length s - (6 + length m)) (omega arith))

  pub tape_part_lem : tape_part x ≡ tape
  tape_part_lem = rw (map_size, configuration_size, behind_configuration) (take_all (length x - (6 + length m + length s)) tape (omega (arith, input_size)))

  pub parts_whole : 6 + length m + length s + length tape ≤ most_input → input_test x ≡ true
  unfolding input_test
  parts_whole h =
      let e : length x ≡ tape_place x + u16_at x 4 = omega (arith, input_size, map_size, configuration_size, tape_size) in
      and_both _ _ (le-leb (length x) most_input (rw input_size h)) (eq-eqb _ _ e)

-- ---- the call

pub prints : (x out after : List ℕ) (n : ℕ) → line_room ≤ length out → after ≡ over (line_of x) out → n ≡ length (line_of x) → line_answer n after ≡ line_effect x out
unfolding line_effect
prints x out after n h m s = rw (le-leb line_room (length out) h, s, m)

pub prints_nothing : (x out : List ℕ) → length out < line_room → line_answer 0 out ≡ line_effect x out
unfolding line_effect
prints_nothing x out h = rw (lt-leb line_room (length out) h)

-- what stands in the memory after it
pub printed_line : (x out v : List ℕ) (n : ℕ) → line_room ≤ length out → line_answer n v ≡ line_effect x out → take n v ≡ line_of x
unfolding line_effect
printed_line x out v n h e =
    let q = rw (le-leb line_room (length out) h) at e in
    rw (ap (λ (p : LineEffect). p.size) q, ap (λ (p : LineEffect). p.out) q) (take-append_seam (line_of x) (drop (length (line_of x)) out))
