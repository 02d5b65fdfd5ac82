-- What Run's and Move's tests say where they pass, and Move's list of tests before 15. Assumes nothing.
use Prim.Native.Nat.{ℕ}
use mathlib.Core.Path.{◌≡◌, sym, ◌∙◌}
use mathlib.Core.Bool.{Bool, true}
use mathlib.Core.List.{List, [], ◌∷◌, ◌++◌, append_assoc}
use native.Mathlib.Omega.{arith}
use lib.ListN.{length}
use lib.Dec.{leb}
use borrow.Author.Tests.{eqb-true, leb-true}
use Rattle.folds.specs.Folds.{◌and◌}
use Rattle.folds.proofs.Tests.{and_left, and_right}
use Rattle.map.specs.Map.{gate_count}
use Rattle.map.specs.Check.{first_failed}
use Rattle.map.proofs.Laws.{none_failed, passed_before, fails_before, passes_before, Numbered}
use Rattle.survey.specs.Survey.{start_tests}
use Rattle.survey.proofs.Starts.{behind_start, start_of}
use Rattle.search.specs.Inner.{RunTested, MoveTested}
use Rattle.search.specs.Move.{front_test, entry_tests, move_tests}
use Rattle.search.specs.Run.{tape_tests, run_tests, Room}

pub room_of : (m work ans : List ℕ) → leb (gate_count m) (length work) and leb (gate_count m) (length ans) ≡ true → Room m work ans
room_of m work ans e = record { work_room = leb-true _ _ (and_left _ _ e); answer_room = leb-true _ _ (and_right _ _ e) }

pub run_passed : (m s tape work ans : List ℕ) → first_failed (run_tests m s tape work ans) ≡ 0 → RunTested m s tape work ans
unfolding run_tests tape_tests
run_passed m s tape work ans e =
    let k = passed_before (start_tests m s) _ e in
    let t12 = none_failed 11 _ _ (sym (behind_start m s _ k) ∙ e) in
    let t13 = none_failed 12 _ _ t12.1 in
    record { begins = record { keeps = start_of m s k; tape_passes = t12.0 }; kinds = t13.0; room = room_of m work ans (none_failed 13 _ _ t13.1).0 }

module _ (m s entry work : List ℕ) where
  -- tests 9 to 14
  abbrev early : List (ℕ × Bool)
  early = start_tests m s ++ entry_tests m entry work

  entry_numbered : Numbered (entry_tests m entry work)
  unfolding entry_tests
  entry_numbered = (omega arith, (omega arith, (omega arith, tt)))

  pub move_passed : first_failed early ≡ 0 → MoveTested m s entry work
  unfolding entry_tests
  move_passed e =
      let k = passed_before (start_tests m s) _ e in
      let t12 = none_failed 11 _ _ (sym (behind_start m s _ k) ∙ e) in
      let t13 = none_failed 12 _ _ t12.1 in
      record { keeps = start_of m s k; four = eqb-true _ _ t12.0; kinds = t13.0; room = leb-true _ _ (none_failed 13 _ _ t13.1).0 }

  pub early_none : first_failed (move_tests m s entry work) ≡ 0 → first_failed early ≡ 0
  unfolding move_tests
  early_none e = passed_before early ((15, front_test m s) ∷ []) (rw (append_assoc (start_tests m s) (entry_tests m entry work) ((15, front_test m s) ∷ [])) e)

  pub early_fails : (first_failed early ≡ 0 → ⊥) → first_failed (move_tests m s entry work) ≡ first_failed early
  unfolding move_tests
  early_fails h = rw (← append_assoc (start_tests m s) (entry_tests m entry work) ((15, front_test m s) ∷ [])) (fails_before early _ h)

  pub early_passes : first_failed early ≡ 0 → first_failed (move_tests m s entry work) ≡ first_failed ((15, front_test m s) ∷ [])
  unfolding move_tests
  early_passes e =
      let k = passed_before (start_tests m s) _ e in
      behind_start m s _ k ∙ passes_before (entry_tests m entry work) _ entry_numbered (sym (behind_start m s _ k) ∙ e)
