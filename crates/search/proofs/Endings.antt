-- How a run ends, and what Found tells of the map. Assumes nothing.
use Prim.Native.Nat.{ℕ}
use mathlib.Core.Path.{◌≡◌, refl}
use mathlib.Core.Bool.{true, false, cond, false≢true}
use mathlib.Core.Logic.{inl, inr}
use mathlib.Core.List.{List, [], ◌∷◌, ◌++◌}
use lib.Dec.{eqb}
use lib.ListN.{length}
use borrow.Author.Tests.{eqb-true}
use Rattle.folds.proofs.Tests.{which}
use Rattle.circuit.specs.declared.Ending.{Ending}
use Rattle.circuit.specs.declared.Ending.TheVariants.{Found, Spent, Stuck, Refused}
use Rattle.circuit.specs.declared.Entry.{Entry}
use Rattle.circuit.specs.Tools.{is_empty}
use Rattle.circuit.specs.Circuit.{Circuit}
use Rattle.circuit.specs.Survey.{front, front_size}
use Rattle.circuit.specs.Run.{is_stuck, entry_chosen, move, RunResult, stop, run, told}
use Rattle.circuit.proofs.Trace.{run_found, run_spent, run_sticks, run_step}
use Rattle.map.specs.Map.{circuit}
use Rattle.map.specs.Check.{first_failed, map_tests, verdict}
use Rattle.map.proofs.Laws.{passed_before}
use Rattle.tape.specs.Tape.{entries}
use Rattle.search.specs.Run.{run_tests, run_answer, run_ended, run_by, run_effect}

-- how a run on a circuit ends: it is never refused, it found where the last configuration has no front, and the front that its ending carries is that one's, but for
-- Stuck, which carries none
abbrev pub Ends : Circuit → RunResult → Type 0
Ends c r =
    told r.outcome.ending
    ≡ record {
      accepted = true;
      number = 0;
      found = is_empty (front c r.last);
      stuck = (told r.outcome.ending).stuck;
      front = cond (told r.outcome.ending).stuck 0 (front_size c r.last);
    }

ends_found_lem : (c : Circuit) (s : List ℕ) → is_empty (front c s) ≡ true → Ends c (stop Found s)
unfolding front_size
ends_found_lem c s q = rw (q, none_of (front c s) q)
  where
    none_of : (xs : List ℕ) → is_empty xs ≡ true → length xs ≡ 0
    none_of [] e = refl
    none_of (x ∷ xs) e = absurd (false≢true e)

pub run_ends : (c : Circuit) (s : List ℕ) (es : List Entry) → Ends c (run c s es)
run_ends c s [] = elim (which (is_empty (front c s))) [
  | inl q ↦ rw (run_found c s [] q) (ends_found_lem c s q)
  | inr q ↦ rw (run_spent c s q, q)
]
run_ends c s (e ∷ es) = elim (which (is_empty (front c s))) [
  | inl q ↦ rw (run_found c s (e ∷ es) q) (ends_found_lem c s q)
  | inr q ↦ elim (which (is_stuck (entry_chosen c s e))) [
    | inl z ↦ rw (run_sticks c s e es q z, q)
    | inr z ↦ rw (run_step c s e es q z) (run_ends c (move c s e).next es)
  ]
]

-- no ending is both Found and Stuck
told_alone : (e : Ending) → (told e).stuck ≡ true → (told e).found ≡ false
told_alone Found z = absurd (false≢true z)
told_alone (Spent f) z = refl
told_alone Stuck z = refl
told_alone (Refused n) z = refl

pub stuck_alone : (m s tape work ans : List ℕ) → (run_effect m s tape work ans).stuck ≡ true → (run_effect m s tape work ans).found ≡ false
unfolding run_effect run_by run_ended run_answer
stuck_alone m s tape work ans z = elim (which (eqb (first_failed (map_tests m ++ run_tests m s tape work ans)) 0)) [
  | inl q ↦ rw q (told_alone (run (circuit m) s (entries tape)).outcome.ending (rw q at z))
  | inr q ↦ rw q
]

-- a run that found was on an accepted map
pub found_passes : (m s tape work ans : List ℕ) → (run_effect m s tape work ans).found ≡ true → verdict m ≡ 0
unfolding run_effect run_by run_answer verdict
found_passes m s tape work ans f = elim (which (eqb (first_failed (map_tests m ++ run_tests m s tape work ans)) 0)) [
  | inl q ↦ passed_before (map_tests m) (run_tests m s tape work ans) (eqb-true _ 0 q)
  | inr q ↦ absurd (false≢true (rw q at f))
]
