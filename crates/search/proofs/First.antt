-- The first of Run's or Move's tests behind the map's that fails, by the plain facts. Assumes nothing.
use Prim.Native.Nat.{ℕ, ◌<◌, ◌≤◌}
use mathlib.Core.Path.{◌≡◌, ◌∙◌}
use mathlib.Core.Bool.{true, false}
use mathlib.Core.List.{List, ◌++◌}
use lib.ListN.{length}
use borrow.Author.Tests.{eq-eqb, ne_eqb, le-leb, lt-leb}
use Rattle.folds.proofs.Tests.{and_both, and_first_false, and_second_false}
use Rattle.map.specs.Map.{gate_count}
use Rattle.map.specs.Check.{first_failed}
use Rattle.map.proofs.Laws.{past, stop, no_test, fails_before}
use Rattle.survey.specs.Survey.{start_tests}
use Rattle.survey.proofs.Starts.{behind_start}
use Rattle.tape.specs.Tape.{tape_length_test, entry_kinds_test}
use Rattle.search.specs.Move.{entry_tests}
use Rattle.search.specs.Run.{tape_tests, run_tests}

-- Move's before 15
module _ (m s entry work : List ℕ) where
  abbrev number : ℕ
  number = first_failed (start_tests m s ++ entry_tests m entry work)

  pub move_start_fails : ¬ (first_failed (start_tests m s) ≡ 0) → number ≡ first_failed (start_tests m s)
  move_start_fails h = fails_before (start_tests m s) (entry_tests m entry work) h

  pub not_an_entry : first_failed (start_tests m s) ≡ 0 → ¬ (length entry ≡ 4) → number ≡ 12
  unfolding entry_tests
  not_an_entry h l = behind_start m s _ h ∙ stop _ _ _ (ne_eqb _ _ l)

  pub wrong_entry_kind : first_failed (start_tests m s) ≡ 0 → length entry ≡ 4 → entry_kinds_test entry ≡ false → number ≡ 13
  unfolding entry_tests
  wrong_entry_kind h l k = behind_start m s _ h ∙ past _ _ _ (eq-eqb _ _ l) ∙ stop _ _ _ k

  pub short_move_work : first_failed (start_tests m s) ≡ 0 → length entry ≡ 4 → entry_kinds_test entry ≡ true → length work < gate_count m → number ≡ 14
  unfolding entry_tests
  short_move_work h l k w = behind_start m s _ h ∙ past _ _ _ (eq-eqb _ _ l) ∙ past _ _ _ k ∙ stop _ _ _ (lt-leb _ _ w)

  pub move_passes : first_failed (start_tests m s) ≡ 0 → length entry ≡ 4 → entry_kinds_test entry ≡ true → gate_count m ≤ length work → number ≡ 0
  unfolding entry_tests
  move_passes h l k w = behind_start m s _ h ∙ past _ _ _ (eq-eqb _ _ l) ∙ past _ _ _ k ∙ past _ _ _ (le-leb _ _ w) ∙ no_test

pub ruleset move_first = (move_start_fails, not_an_entry, wrong_entry_kind, short_move_work, move_passes)

-- Run's
module _ (m s tape work ans : List ℕ) where
  abbrev run_number : ℕ
  run_number = first_failed (run_tests m s tape work ans)

  pub run_start_fails : ¬ (first_failed (start_tests m s) ≡ 0) → run_number ≡ first_failed (start_tests m s)
  unfolding run_tests
  run_start_fails h = fails_before (start_tests m s) (tape_tests m tape work ans) h

  pub wrong_length : first_failed (start_tests m s) ≡ 0 → tape_length_test tape ≡ false → run_number ≡ 12
  unfolding run_tests tape_tests
  wrong_length h l = behind_start m s _ h ∙ stop _ _ _ l

  pub wrong_kind : first_failed (start_tests m s) ≡ 0 → tape_length_test tape ≡ true → entry_kinds_test tape ≡ false → run_number ≡ 13
  unfolding run_tests tape_tests
  wrong_kind h l k = behind_start m s _ h ∙ past _ _ _ l ∙ stop _ _ _ k

  pub short_work : first_failed (start_tests m s) ≡ 0 → tape_length_test tape ≡ true → entry_kinds_test tape ≡ true → length work < gate_count m → run_number ≡ 14
  unfolding run_tests tape_tests
  short_work h l k w = behind_start m s _ h ∙ past _ _ _ l ∙ past _ _ _ k ∙ stop _ _ _ (and_first_false _ _ (lt-leb _ _ w))

  pub short_answer : first_failed (start_tests m s) ≡ 0 → tape_length_test tape ≡ true → entry_kinds_test tape ≡ true → length ans < gate_count m → run_number ≡ 14
  unfolding run_tests tape_tests
  short_answer h l k a = behind_start m s _ h ∙ past _ _ _ l ∙ past _ _ _ k ∙ stop _ _ _ (and_second_false _ _ (lt-leb _ _ a))

  pub run_passes : first_failed (start_tests m s) ≡ 0 → tape_length_test tape ≡ true → entry_kinds_test tape ≡ true → gate_count m ≤ length work → gate_count m ≤ length ans
      → run_number ≡ 0
  unfolding run_tests tape_tests
  run_passes h l k w a = behind_start m s _ h ∙ past _ _ _ l ∙ past _ _ _ k ∙ past _ _ _ (and_both _ _ (le-leb _ _ w) (le-leb _ _ a)) ∙ no_test

pub ruleset run_first = (run_start_fails, wrong_length, wrong_kind, short_work, short_answer, run_passes)
