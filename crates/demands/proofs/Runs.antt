-- Which calls Run accepts, what a refused one gives, and how far a run may go. Assumes nothing.
use Prim.Native.Nat.{ℕ, ◌*◌, ◌%◌, ◌≤◌}
use mathlib.Core.Path.{◌≡◌, refl, sym, ap, ◌∙◌}
use mathlib.Core.Bool.{Bool, true, false≢true, true≢false}
use mathlib.Core.Logic.{inl, inr}
use mathlib.Core.List.{List, [], ◌∷◌, ◌++◌}
use native.Mathlib.Omega.{arith}
use lib.Dec.{eqb, leb}
use lib.ListN.{length}
use borrow.Author.Tests.{eqb-true, eqb-false, eq-eqb, leb-true, le-leb}
use Rattle.folds.specs.Folds.{◌and◌}
use Rattle.folds.proofs.Tests.{which, and_left, and_right, and_both}
use Rattle.circuit.specs.declared.Entry.{Entry}
use Rattle.circuit.specs.Tools.{up_to, is_empty}
use Rattle.circuit.specs.Circuit.{Circuit, WellFormed}
use Rattle.circuit.specs.Evaluate.{KeepsCodes}
use Rattle.circuit.specs.Survey.{in_front, front, front_size}
use Rattle.circuit.specs.Run.{is_stuck, entry_chosen, move, run, EndingValues}
use Rattle.circuit.proofs.Lists.{select_length, length_up_to}
use Rattle.circuit.proofs.Moves.{entry_does}
use Rattle.circuit.proofs.Trace.{run_found, run_spent, run_sticks, run_step}
use Rattle.map.specs.Map.{gate_count, circuit}
use Rattle.map.specs.Check.{first_failed, map_tests}
use Rattle.map.proofs.Laws.{past, no_test}
use Rattle.map.proofs.Facts.{facts}
use Rattle.map.proofs.Answers.{behind_accepted}
use Rattle.map.proofs.Described.{tested, map_number}
use Rattle.state.proofs.Meaning.{behind}
use Rattle.survey.proofs.Starts.{behind_start, of_start, start_number}
use Rattle.tape.specs.Tape.{most_tape, entries, tape_length_test, LengthAllowed}
use Rattle.search.specs.Run.{tape_tests, run_tests, run_answer, run_ended, run_on_tape, run_by, run_effect, Room, Runnable, RunAccepts, RunNumber, RunRefuses}
use Rattle.search.proofs.Passed.{room_of, run_passed}
use Rattle.search.proofs.Endings.{run_ends}
use Rattle.demands.proofs.Tapes.{kinds_of, of_kinds}

-- test 12
length_of : (tape : List ℕ) → eqb (length tape % 4) 0 and leb (length tape) most_tape ≡ true → LengthAllowed tape
length_of tape e = (eqb-true _ _ (and_left _ _ e), leb-true _ _ (and_right _ _ e))

of_length : (tape : List ℕ) → LengthAllowed tape → eqb (length tape % 4) 0 and leb (length tape) most_tape ≡ true
of_length tape p = and_both _ _ (eq-eqb _ _ p.0) (le-leb _ _ p.1)

-- test 14
module _ (m work ans : List ℕ) where
  abbrev room_test : Bool
  room_test = leb (gate_count m) (length work) and leb (gate_count m) (length ans)

  pub of_room : Room m work ans → room_test ≡ true
  of_room r = and_both _ _ (le-leb _ _ r.work_room) (le-leb _ _ r.answer_room)

module _ (m s tape work ans : List ℕ) where
  abbrev number : ℕ
  number = first_failed (map_tests m ++ run_tests m s tape work ans)

  pub written : number ≡ 0 → run_effect m s tape work ans ≡ run_on_tape m s tape work ans
  unfolding run_effect run_by
  written e = rw (eq-eqb number 0 e)

  pub none : (run_effect m s tape work ans).accepted ≡ true → number ≡ 0
  unfolding run_effect run_by run_answer
  none e = elim (which (eqb number 0)) [
    | inl q ↦ eqb-true number 0 q
    | inr q ↦ absurd (false≢true (rw q at e))
  ]

  pub found_accepted : (run_effect m s tape work ans).found ≡ true → (run_effect m s tape work ans).accepted ≡ true
  unfolding run_effect run_by run_ended run_answer
  found_accepted f = elim (which (eqb number 0)) [
    | inl q ↦ rw q (ap (λ (t : EndingValues). t.accepted) (run_ends (circuit m) s (entries tape)))
    | inr q ↦ absurd (false≢true (rw q at f))
  ]

  pub stuck_accepted : (run_effect m s tape work ans).stuck ≡ true → (run_effect m s tape work ans).accepted ≡ true
  unfolding run_effect run_by run_ended run_answer
  stuck_accepted f = elim (which (eqb number 0)) [
    | inl q ↦ rw q (ap (λ (t : EndingValues). t.accepted) (run_ends (circuit m) s (entries tape)))
    | inr q ↦ absurd (false≢true (rw q at f))
  ]

  number_is : (run_effect m s tape work ans).number ≡ number
  unfolding run_effect run_by run_ended run_answer
  number_is = elim (which (eqb number 0)) [
    | inl q ↦ rw q (ap (λ (t : EndingValues). t.number) (run_ends (circuit m) s (entries tape)) ∙ sym (eqb-true number 0 q))
    | inr q ↦ rw q refl
  ]

  accepted : number ≡ 0 → (run_effect m s tape work ans).accepted ≡ true
  unfolding run_ended run_answer
  accepted e = rw (written e) (ap (λ (t : EndingValues). t.accepted) (run_ends (circuit m) s (entries tape)))

  -- what each test says
  pub runnable : number ≡ 0 → Runnable m s tape work ans
  unfolding tape_length_test
  runnable n =
      let (v, t) = behind m (run_tests m s tape work ans) n in
      let p = run_passed m s tape work ans t in
      let (whole, few) = length_of tape p.begins.tape_passes in
      record {
        start = record { accepted = v; keeps = p.begins.keeps };
        tape_length = (whole, few);
        kinds = kinds_of tape whole p.kinds;
        room = p.room;
      }

  pub of_runnable : Runnable m s tape work ans → number ≡ 0
  unfolding run_tests tape_tests tape_length_test
  of_runnable a =
      behind_accepted m _ a.start.accepted
      ∙ behind_start m s _ (of_start m s a.start.keeps)
      ∙ past _ _ _ (of_length tape a.tape_length)
      ∙ past _ _ _ (of_kinds tape a.tape_length.0 a.kinds)
      ∙ past _ _ _ (of_room m work ans a.room)
      ∙ no_test

pub run_accepts : RunAccepts
run_accepts m s tape work ans = (
  λ e. runnable m s tape work ans (none m s tape work ans e),
  λ a. accepted m s tape work ans (of_runnable m s tape work ans a),
)

pub run_number : RunNumber
unfolding run_tests tape_tests tape_length_test
run_number m s tape work ans =
    let n = (run_effect m s tape work ans).number in
    map_number m _ n _ (number_is m s tape work ans) λ v e.
    start_number m s _ n _ (facts m v) e λ e11.
    tested 12 _ _ n _ _ e11 (length_of tape) (of_length tape) λ q12 e12.
    tested 13 _ _ n _ _ e12 (kinds_of tape (length_of tape q12).0) (of_kinds tape (length_of tape q12).0) λ q13 e13.
    tested 14 _ _ n _ _ e13 (room_of m work ans) (of_room m work ans) λ q14 e14.
    e14 ∙ no_test

pub run_refuses : RunRefuses
unfolding run_effect run_by run_answer
run_refuses m s tape work ans e = elim (which (eqb (number m s tape work ans) 0)) [
  | inl q ↦ absurd (true≢false (sym (accepted m s tape work ans (eqb-true (number m s tape work ans) 0 q)) ∙ e))
  | inr q ↦ rw q (record { numbered = eqb-false (number m s tape work ans) 0 q; no_ending = (refl, refl); zeros = (refl, (refl, refl)); untouched = (refl, (refl, refl)) })
]

-- ---- how far a run may go

pub run_few : (c : Circuit) → WellFormed c → (s : List ℕ) → KeepsCodes c s → (es : List Entry)
    → ((run c s es).outcome.moves ≤ length es) × ((run c s es).outcome.flips ≤ 8 * (run c s es).outcome.moves)
run_few c ok s k [] = elim (which (is_empty (front c s))) [
  | inl q ↦ rw (run_found c s [] q) (omega arith, omega arith)
  | inr q ↦ rw (run_spent c s q) (omega arith, omega arith)
]
run_few c ok s k (e ∷ es) = elim (which (is_empty (front c s))) [
  | inl q ↦ rw (run_found c s (e ∷ es) q) (omega arith, omega arith)
  | inr q ↦ elim (which (is_stuck (entry_chosen c s e))) [
    | inl z ↦ rw (run_sticks c s e es q z) (omega arith, omega arith)
    | inr z ↦ (let d = entry_does c ok s q e k in
        let (i, j) = run_few c ok (move c s e).next d.keeps es in
        rw (run_step c s e es q z) (omega (arith, i), omega (arith, j, d.few)))
  ]
]

pub front_few : (c : Circuit) (s : List ℕ) → front_size c s ≤ c.gates
unfolding front_size front
front_few c s = omega (arith, select_length (in_front c s) (up_to c.gates), length_up_to c.gates)
