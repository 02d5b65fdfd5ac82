-- What the line says: inputs that the program runs or refuses itself, all memories, and the line by the ending. Assumes nothing.
use Prim.Native.Nat.{ℕ, ◌+◌, ◌-◌, ◌≤◌, ◌<◌}
use mathlib.Core.Path.{◌≡◌, refl, sym, ap, ◌∙◌}
use mathlib.Core.Bool.{true, false, false≢true}
use mathlib.Core.Logic.{◌⊎◌, inl, inr}
use mathlib.Core.List.{List, [], ◌∷◌, append_assoc}
use mathlib.Core.List.Memᴰ.{head as here}
use mathlib.Core.List.Memᴰ.{tail as there}
use native.Mathlib.Omega.{arith}
use lib.ListN.{length, take, drop, length-drop, take-append-drop}
use lib.Seq.{take_all, length-take-le, drop-drop}
use lib.Dec.{eqb, leb}
use borrow.Author.Tests.{eqb-true, eqb-false, eq-eqb, ne_eqb, leb-false}
use Rattle.folds.proofs.Tests.{which, and_both}
use Rattle.circuit.specs.Run.{EndingValues}
use Rattle.map.specs.Map.{most_gates, u16_at, gate_count}
use Rattle.map.specs.Check.{verdict}
use Rattle.map.proofs.Facts.{facts}
use Rattle.map.proofs.Answers.{behind_refused}
use Rattle.search.specs.Run.{run_tests, ending_values, run_answer, run_by, run_effect, Room}
use Rattle.search.proofs.Endings.{stuck_alone}
use Rattle.demands.proofs.Runs.{found_accepted, stuck_accepted}
use Rattle.demands.proofs.Demands.{same_for_all_memories}
use Rattle.text.specs.Text.{AreBytes}
use Rattle.line.specs.Line.{most_input, configuration_place, tape_place, map_part, configuration_part, tape_part, input_test, lent, report, effect_line, run_line, input_of, LinesAre, ExactInput, three_bodies, refused_0, EveryInput, SameLineForAllMemories}
use Rattle.line.proofs.Rows.{same_row}
use Rattle.line.proofs.Lines.{Whole, whole, line_refused, line_runs, map_part_lem, configuration_part_lem, tape_part_lem, parts_whole}

-- ---- inputs that the program runs, and inputs that it refuses itself

pub exact_input : ExactInput
exact_input m s tape h = rw (map_part_lem m s tape, configuration_part_lem m s tape, tape_part_lem m s tape) at (sym (line_runs (input_of m s tape) (parts_whole m s tape h)))

is_whole : (x : List ℕ) → leb (length x) most_input ≡ true → length x ≡ tape_place x + u16_at x 4 → input_test x ≡ true
unfolding input_test
is_whole x h e = and_both _ _ h (eq-eqb _ _ e)

-- an input that is exactly as long as its head says is that head and its three parts
module _ (a b c d e f : ℕ) (r : List ℕ) where
  abbrev x : List ℕ
  x = a ∷ b ∷ c ∷ d ∷ e ∷ f ∷ r

  abbrev p : ℕ
  p = u16_at x 0

  abbrev q : ℕ
  q = u16_at x 2

  map_is : map_part x ≡ take p r
  map_is = let z : configuration_place x - 6 ≡ p = omega arith in ap (λ (n : ℕ). take n r) z

  configuration_is : configuration_part x ≡ take q (drop p r)
  configuration_is = let z : tape_place x - configuration_place x ≡ q = omega arith in rw (← drop-drop p 6 x) (ap (λ (n : ℕ). take n (drop p r)) z)

  module _ (w : Whole x) (l : AreBytes x) where
    behind : length (drop q (drop p r)) ≡ u16_at x 4
    behind = length-drop q (drop p r) ∙ ap (λ (n : ℕ). n - q) (length-drop p r) ∙ omega (arith, w.exact)

    tape_is : tape_part x ≡ drop q (drop p r)
    tape_is = rw (← drop-drop q (6 + p) x, ← drop-drop p 6 x) (take_all (length x - tape_place x) (drop q (drop p r)) (omega (arith, behind, w.exact)))

    lengths : (length (take p r) ≡ p) × (length (take q (drop p r)) ≡ q)
    lengths = (length-take-le p r (omega (arith, w.exact)), length-take-le q (drop p r) (omega (arith, length-drop p r, w.exact)))

    pub three_parts : x ≡ input_of (map_part x) (configuration_part x) (tape_part x)
    unfolding u16_at
    three_parts =
        let ha : a < 256 = l a (here refl) in
        let hc : c < 256 = l c (there (there (here refl))) in
        let he : e < 256 = l e (there (there (there (there (here refl))))) in
        rw (map_is, configuration_is, tape_is, lengths.0, lengths.1, behind, take-append-drop q (drop p r), take-append-drop p r)
        (six _ _ _ _ _ _ (omega arith) (omega arith) (omega arith) (omega arith) (omega arith) (omega arith))
      where
        six : (a' b' c' d' e' f' : ℕ) → a ≡ a' → b ≡ b' → c ≡ c' → d ≡ d' → e ≡ e' → f ≡ f' → x ≡ a' ∷ b' ∷ c' ∷ d' ∷ e' ∷ f' ∷ r
        six a' b' c' d' e' f' ea eb ec ed ee ef = rw (ea, eb, ec, ed, ee, ef)

whole_parts : (x : List ℕ) → Whole x → AreBytes x → x ≡ input_of (map_part x) (configuration_part x) (tape_part x)
whole_parts (a ∷ b ∷ c ∷ d ∷ e ∷ f ∷ r) w l = three_parts a b c d e f r w l
whole_parts [] w l = absurd (omega (arith, w.head))
whole_parts (a ∷ []) w l = absurd (omega (arith, w.head))
whole_parts (a ∷ b ∷ []) w l = absurd (omega (arith, w.head))
whole_parts (a ∷ b ∷ c ∷ []) w l = absurd (omega (arith, w.head))
whole_parts (a ∷ b ∷ c ∷ d ∷ []) w l = absurd (omega (arith, w.head))
whole_parts (a ∷ b ∷ c ∷ d ∷ e ∷ []) w l = absurd (omega (arith, w.head))

pub every_input : EveryInput
every_input x l = elim (which (input_test x)) [
  | inl q ↦ three_bodies (map_part x) (configuration_part x) (tape_part x) (whole_parts x (whole x q) l) (whole x q).few (sym (line_runs x q))
  | inr q ↦ refused_0 (failed x q) (sym (line_refused x q))
]
  where
    failed : (x : List ℕ) → input_test x ≡ false → (most_input < length x) ⊎ (¬ (length x ≡ 6 + u16_at x 0 + u16_at x 2 + u16_at x 4))
    failed x q = elim (which (leb (length x) most_input)) [
      | inl h ↦ inr (λ e. false≢true (sym q ∙ is_whole x h e))
      | inr h ↦ inl (leb-false _ _ h)
    ]

-- ---- all memories

same_report : (e : EndingValues) (moves flips : ℕ) (m a b : List ℕ) → (e.found ≡ true → take (gate_count m) a ≡ take (gate_count m) b) → report e moves flips m a ≡ report e moves flips m b
same_report e moves flips m a b h = elim (which e.found) [
  | inl q ↦ rw (same_row m a b (h q))
  | inr q ↦ rw q
]

module _ (m s tape work ans : List ℕ) where
  -- on an accepted map the memories that the program lends are long enough; on any other the memories aren't tested
  same_accepted : verdict m ≡ 0 → Room m work ans → effect_line m (run_effect m s tape work ans) ≡ run_line m s tape
  unfolding lent
  same_accepted v r =
      let l : gate_count m ≤ most_gates = (facts m v).sound.placed.shaped.few in
      let q = same_for_all_memories m s tape work ans lent lent r (record { work_room = l; answer_room = l }) in
      let here = run_effect m s tape work ans in
      let there = run_effect m s tape lent lent in
      same_report (ending_values here) here.moves here.flips m here.answer there.answer q.answered
      ∙ ap (λ (e : EndingValues). report e here.moves here.flips m there.answer) q.ending
      ∙ rw (q.moves, q.flips)

  same_refused : (verdict m ≡ 0 → ⊥) → effect_line m (run_effect m s tape work ans) ≡ run_line m s tape
  unfolding run_effect run_by run_answer
  same_refused v = rw (behind_refused m (run_tests m s tape work ans) v, behind_refused m (run_tests m s tape lent lent) v, ne_eqb (verdict m) 0 v)

pub same_line_for_all_memories : SameLineForAllMemories
same_line_for_all_memories m s tape work ans r = elim (which (eqb (verdict m) 0)) [
  | inl q ↦ same_accepted m s tape work ans (eqb-true _ _ q) r
  | inr q ↦ same_refused m s tape work ans (eqb-false _ _ q)
]

-- ---- the line, by the ending

pub lines_are : LinesAre
lines_are m s tape =
    let r = run_effect m s tape lent lent in
    record {
      found = λ f. rw (found_accepted m s tape lent lent f, f) (simp append_assoc);
      spent = λ a f z. rw (a, f, z) (simp append_assoc);
      stuck = λ z. rw (stuck_accepted m s tape lent lent z, stuck_alone m s tape lent lent z, z) (simp append_assoc);
      refused = λ a. rw a;
    }
