-- Move's answer, from its number. Assumes nothing.
use Rattle.std.proofs.Common.{ℕ, ◌≡◌, ◌∙◌, sym, List, ◌++◌, drop, length, refl, arith, eq-eqb, ne_eqb, Option, Ok, Err, Some, None, true, false}
use borrow.Author.Tests.{leb-false}
use Rattle.std.specs.Option.{IsSome}
use Rattle.circuit.specs.Tools.{over}
use Rattle.circuit.specs.declared.Entry.{Entry}
use Rattle.circuit.specs.declared.Refusal.{Refusal}
use Rattle.circuit.specs.declared.Refusal.TheVariants.{EmptyFront}
use Rattle.circuit.specs.Refusal.{number_of}
use Rattle.circuit.specs.Survey.{front_size, survey}
use Rattle.circuit.proofs.Refusals.{number_some}
use Rattle.map.specs.Map.{gate_count, circuit}
use Rattle.map.specs.Check.{first_failed, verdict}
use Rattle.map.proofs.Answers.{map_refused_by, behind_accepted}
use Rattle.map.proofs.Laws.{past, stop, no_test}
use Rattle.marks.specs.Marks.{MarksOf}
use Rattle.marks.proofs.Marked.{front_none, front_some}
use Rattle.survey.specs.Survey.{start_tests}
use Rattle.steps.specs.declared.MoveReport.{MoveReport}
use Rattle.steps.specs.Steps.{DidEntry}
use Rattle.tape.specs.declared.Tape.{Tape}
use Rattle.tape.specs.Inner.{step_at}
use Rattle.tape.specs.Tape.{entry_at}
use Rattle.tape.proofs.Reading.{step_has, step_over}
use Rattle.search.specs.Inner.{move_on_map, move_on_entry}
use Rattle.search.specs.Move.{front_test, entry_tests, move_tests, MoveEffect, move_answer, move_by, move_effect}
use Rattle.search.proofs.Passed.{early_fails, early_passes}
use Rattle.search.proofs.Runs.{survey_length}

module _ (m s entry work : List ℕ) where
  refused_by : (e : Refusal) (n : ℕ) → number_of e ≡ n → move_answer (Err e) s work ≡ move_by n m s entry work
  unfolding move_answer move_by
  refused_by e n q = rw (ne_eqb n 0 (λ z. omega (arith, number_some e)), q)

  done_by : (n : ℕ) (t : MoveReport) (u w : List ℕ) → n ≡ 0 → DidEntry (circuit m) s (entry_at entry 0) t u → w ≡ over (survey (circuit m) u) work → move_answer (Ok t) u w ≡ move_by n m s entry work
  unfolding move_answer move_by
  done_by n t u w e d o = rw (eq-eqb n 0 e, d.gate, d.turned, o, d.next)

  -- test 15
  pub front_empty : front_size (circuit m) s ≡ 0 → move_answer (Err EmptyFront) s work ≡ move_on_entry m s entry work
  unfolding move_on_entry front_test
  front_empty z =
      let e : front_test m s ≡ false = rw (front_none (circuit m) s z) in
      refused_by EmptyFront _ (sym (stop _ _ _ e))

  -- and the move
  pub entry_done : (marks : List ℕ) (front : ℕ) (t next : Tape) (e : Entry) (r : MoveReport) (u w : List ℕ) → MarksOf (circuit m) s marks front → ¬ (front ≡ 0) → t.src.now ≡ entry → t.at ≡ 0
      → step_at t ≡ Some (e, next) → DidEntry (circuit m) s e r u → w ≡ survey (circuit m) u ++ drop (gate_count m) work → move_answer (Ok r) u w ≡ move_on_entry m s entry work
  unfolding move_on_entry front_test
  entry_done marks front t next e r u w are some on start read did written =
      let f : front_test m s ≡ true = rw (front_some (circuit m) s (omega (arith, are.front_is, some))) in
      done_by _ r u w (past _ _ _ f ∙ no_test) (rw ((step_has t e next (sym read)).1.0, on, start) at did) (rw survey_length written)

  -- behind the tests 9 to 14
  pub early_refused : (e : Refusal) → number_of e ≡ first_failed (start_tests m s ++ entry_tests m entry work) → move_answer (Err e) s work ≡ move_on_map m s entry work
  unfolding move_on_map
  early_refused e q =
      refused_by e _ (q ∙ sym (early_fails m s entry work (λ z. omega (arith, number_some e, q ∙ z))))

  pub early_moves : (r : MoveEffect) → first_failed (start_tests m s ++ entry_tests m entry work) ≡ 0 → r ≡ move_on_entry m s entry work → r ≡ move_on_map m s entry work
  unfolding move_on_map move_on_entry
  early_moves r e q = rw (early_passes m s entry work e) q

  -- and behind the map's
  pub no_map : (e : Refusal) → number_of e ≡ verdict m → move_answer (Err e) s work ≡ move_effect m s entry work
  unfolding move_effect
  no_map e q = refused_by e _ (map_refused_by m (move_tests m s entry work) e q).number

  pub on_a_map : (r : MoveEffect) → verdict m ≡ 0 → r ≡ move_on_map m s entry work → r ≡ move_effect m s entry work
  unfolding move_effect move_on_map
  on_a_map r v q = rw (behind_accepted m (move_tests m s entry work) v) q

-- the reader at the start of an entry of 4 bytes is not at the end
pub entry_there : (t : Tape) → t.at ≡ 0 → length t.src.now ≡ 4 → IsSome (step_at t)
entry_there t start l = by_step (step_at t) refl
  where
    by_step : (r : Option (Entry × Tape)) → step_at t ≡ r → IsSome r
    by_step (Some x) q = refl
    by_step None q = absurd (omega (arith, start, l, leb-false _ _ (step_over t q)))
