-- Request F-1, on bytes. Assumes nothing.
use Prim.Native.Nat.{ℕ, ◌≤◌}
use mathlib.Core.Path.{◌≡◌, sym, ap, ◌∙◌}
use mathlib.Core.Bool.{false}
use mathlib.Core.Logic.{inl, inr}
use mathlib.Core.List.{List, ◌++◌}
use native.Mathlib.Omega.{arith}
use lib.Dec.{eqb}
use lib.ListN.{get_or, drop}
use borrow.Author.Tests.{eqb-true}
use Rattle.folds.proofs.Tests.{which}
use Rattle.circuit.specs.Circuit.{coded}
use Rattle.circuit.specs.Evaluate.{KeepsCodes}
use Rattle.circuit.specs.Promise.{NoCodedChild, NeverStuck, AsBefore}
use Rattle.circuit.proofs.Turns.{options_left_are}
use Rattle.circuit.proofs.Source001.{down_options_are, down_options_in_order}
use Rattle.circuit.proofs.Moves.{greedy_options_are}
use Rattle.circuit.proofs.Finish.{never_stuck, has_code}
use Rattle.circuit.proofs.Unchanged.{unchanged}
use Rattle.map.specs.Map.{code_count, circuit}
use Rattle.map.specs.Check.{first_failed, map_tests, verdict, Test, passes, fails, MapNumber}
use Rattle.map.specs.Inner.{IsMap}
use Rattle.map.proofs.Facts.{facts, well_formed, kid_at}
use Rattle.map.proofs.Codes.{code_record}
use Rattle.map.proofs.Described.{check_number, check_accepts}
use Rattle.state.proofs.Meaning.{evaluate_number, mark_does, mark_number}
use Rattle.survey.specs.Survey.{StartNumber}
use Rattle.survey.proofs.Meaning.{survey_number}
use Rattle.tape.specs.Tape.{entry_at, entries}
use Rattle.search.specs.Run.{run_tests, run_answer, run_ended, run_by, run_effect}
use Rattle.text.specs.Text.{in_decimal, read_decimal}
use Rattle.line.specs.Line.{map_part, configuration_part, tape_part, input_test, lent, refused_line, run_line, line_of}
use Rattle.line.proofs.Lines.{line_refused, line_runs}
use Rattle.demands.specs.Before.{moved_of_all, ran_of_all, MoveIsAs, RunIsAs}
use Rattle.demands.specs.InnerCodes.{NeverStuckOn, SatisfiedNeverStuck, CodedFree, UnchangedWhereFree, Without8, InnerCodes}
use Rattle.demands.proofs.Moves.{none as move-none, movable, written as move-written, move_does, move_number}
use Rattle.demands.proofs.Runs.{none as run_none, written as run-written, runnable, run_number}
use Rattle.demands.proofs.Demands.{run_does, demand3}
use Rattle.text.proofs.Decimal.{read_append, reads_back}
use Rattle.demands.proofs.Lines.{lines_are}

-- ---- never stuck

-- what holds of the circuit from every start that keeps the codes holds of the calls
module _ (m : List ℕ) (free : verdict m ≡ 0 → (s : List ℕ) → KeepsCodes (circuit m) s → NeverStuck (circuit m) s) where
  runs_go : (s tape work ans : List ℕ) → (run_effect m s tape work ans).stuck ≡ false
  unfolding run_effect run_by run_ended run_answer
  runs_go s tape work ans = elim (which (eqb (first_failed (map_tests m ++ run_tests m s tape work ans)) 0)) [
    | inl q ↦ (let a = runnable m s tape work ans (eqb-true _ 0 q) in rw q ((free a.start.accepted s a.start.keeps).runs (entries tape)))
    | inr q ↦ rw q
  ]

  calls_go : NeverStuckOn m
  calls_go = record {
    runs = runs_go;
    moves = λ s entry work e. (let d = move_does m s entry work e in
        let n = (free d.start.accepted s d.start.keeps).entries (entry_at entry 0) in some _ (λ z. n (d.none.0 z)));
  }
    where
      some : (n : ℕ) → ¬ (n ≡ 0) → 1 ≤ n
      some n h = omega (arith, h)

pub satisfied_never_stuck : SatisfiedNeverStuck
satisfied_never_stuck m a y = calls_go m (λ v s k. never_stuck (circuit m) (well_formed m (facts m v)) (a, ((mark_does m a).0 y).1) s k)

-- ---- where no coded gate is a child

no_coded_child : (m : List ℕ) → IsMap m → CodedFree m → NoCodedChild (circuit m)
no_coded_child m k f g h x i = elim (which (coded (circuit m) x)) [
  | inl q ↦ (let (j, l, e) = kid_at m k g x i in
      let (v, w) = has_code ((circuit m).code x) q in
      let (r, b, c, _) = code_record m (code_count m) x v w in
      absurd (f g j r h l b (e ∙ sym c)))
  | inr q ↦ q
]

module _ (m : List ℕ) (v : verdict m ≡ 0) (f : CodedFree m) where
  circuits : (s : List ℕ) → KeepsCodes (circuit m) s → AsBefore (circuit m) s
  circuits = unchanged (circuit m) (well_formed m (facts m v)) (no_coded_child m (facts m v) f)

  moves_before : (s entry work : List ℕ) → MoveIsAs moved_of_all m s entry work
  moves_before s entry work e =
      let n = move-none m s entry work e in
      let a = movable m s entry work n in
      move-written m s entry work n ∙ rw ((circuits s a.start.keeps).entries a.some_front (entry_at entry 0))

  runs_before : (s tape work ans : List ℕ) → RunIsAs ran_of_all m s tape work ans
  runs_before s tape work ans e =
      let n = run_none m s tape work ans e in
      let a = runnable m s tape work ans n in
      run-written m s tape work ans n ∙ rw ((circuits s a.start.keeps).runs (entries tape))

unchanged_where_free : UnchangedWhereFree
unchanged_where_free m v f = record {
  circuits = circuits m v f;
  moves = moves_before m v f;
  runs = runs_before m v f;
  never_stuck = calls_go m (λ _ s k. (circuits m v f s k).no_stuck);
}

-- ---- number 8

-- a call whose number is 8 got past a test of another number
past : {n k : ℕ} {P Rest : Type 0} → n ≡ 8 → ¬ (k ≡ 8) → Test n k P Rest → Rest
past e h (passes p r) = r
past e h (fails p q) = absurd (h (sym q ∙ e))

module _ (n : ℕ) (e : n ≡ 8) where
  past_map : (m : List ℕ) (Rest : Type 0) → MapNumber n m Rest → Rest
  past_map m Rest t =
      past e (λ z. omega arith) (past e (λ z. omega arith) (past e (λ z. omega arith) (past e (λ z. omega arith)
      (past e (λ z. omega arith) (past e (λ z. omega arith) (past e (λ z. omega arith) t))))))

  past_start : (m s : List ℕ) (Rest : Type 0) → StartNumber n m s Rest → Rest
  past_start m s Rest t = past e (λ z. omega arith) (past e (λ z. omega arith) (past e (λ z. omega arith) t))

no_8_run : (m s tape work ans : List ℕ) → ¬ ((run_effect m s tape work ans).number ≡ 8)
no_8_run m s tape work ans e =
    let z = past e (λ k. omega arith) (past e (λ k. omega arith) (past e (λ k. omega arith) (past_start _ e m s _ (past_map _ e m _ (run_number m s tape work ans))))) in
    omega arith

-- a call's number is a small one
at_most : {n k : ℕ} {P Rest : Type 0} → k ≤ 15 → (Rest → n ≤ 15) → Test n k P Rest → n ≤ 15
at_most h f (passes p r) = f r
at_most h f (fails p q) = omega (arith, q, h)

run_number_few : (m s tape work ans : List ℕ) → (run_effect m s tape work ans).number ≤ 15
run_number_few m s tape work ans =
    at_most (omega arith) (at_most (omega arith) (at_most (omega arith) (at_most (omega arith) (at_most (omega arith) (at_most (omega arith) (at_most (omega arith)
    (at_most (omega arith) (at_most (omega arith) (at_most (omega arith) (at_most (omega arith) (at_most (omega arith) (at_most (omega arith) (λ z. omega (arith, z))))))))))))))
    (run_number m s tape work ans)

-- the line of another number is another line
other_line : (n : ℕ) → n ≤ 15 → ¬ (n ≡ 8) → ¬ (refused_line n ≡ refused_line 8)
other_line n h d e =
    let q = ap (λ (l : List ℕ). read_decimal (drop 8 l)) e in
    let a = read_append 0 10 (in_decimal n) in
    let b = read_append 0 10 (in_decimal 8) in
    let c = reads_back 10 n (omega arith) in
    let k = reads_back 10 8 (omega arith) in
    d (omega (arith, q, a, b, c, k))

no_8_printed : (x : List ℕ) → ¬ (line_of x ≡ refused_line 8)
no_8_printed x e = elim (which (input_test x)) [
  | inl q ↦ ran (map_part x) (configuration_part x) (tape_part x) (line_runs x q ∙ e)
  | inr q ↦ other_line 0 (omega arith) (λ z. omega arith) (line_refused x q ∙ e)
]
  where
    ran : (m s tape : List ℕ) → ¬ (run_line m s tape ≡ refused_line 8)
    ran m s tape e =
        let r = run_effect m s tape lent lent in
        elim (which r.accepted) [
          | inl a ↦ (let first = ap (λ (l : List ℕ). get_or l 0 0) (rw a at e) in elim (which r.found) [
            | inl f ↦ (let z : ◌≡◌ {A = ℕ} 70 82 = rw f at first in omega arith)
            | inr f ↦ elim (which r.stuck) [
              | inl k ↦ (let z : ◌≡◌ {A = ℕ} 83 82 = rw (f, k) at first in omega arith)
              | inr k ↦ (let z : ◌≡◌ {A = ℕ} 83 82 = rw (f, k) at first in omega arith)
            ]
          ])
          | inr a ↦ other_line r.number (run_number_few m s tape lent lent) (λ z. no_8_run m s tape lent lent z) (rw a at e)
        ]

without_8 : Without8
without_8 = record {
  check = λ m e. (let z = past_map _ e m _ (check_number m) in omega arith);
  evaluate = λ m row out e. (let z = past e (λ k. omega arith) (past e (λ k. omega arith) (past e (λ k. omega arith) (past_map _ e m _ (evaluate_number m row out)))) in omega arith);
  mark = λ m s e. (let z = past e (λ k. omega arith) (past e (λ k. omega arith) (past_map _ e m _ (mark_number m s))) in omega arith);
  survey = λ m s out e. (let z = past e (λ k. omega arith) (past_start _ e m s _ (past_map _ e m _ (survey_number m s out))) in omega arith);
  move = λ m s entry work e. (let z = past e (λ k. omega arith) (past e (λ k. omega arith) (past e (λ k. omega arith) (past e (λ k. omega arith)
      (past_start _ e m s _ (past_map _ e m _ (move_number m s entry work)))))) in omega arith);
  run = no_8_run;
  program = no_8_printed;
}

pub inner_codes : InnerCodes
inner_codes = record {
  accepts = check_accepts;
  options = down_options_are;
  order = down_options_in_order;
  left = options_left_are;
  greedy = greedy_options_are;
  moves = move_does;
  runs = run_does;
  prints = lines_are;
  finishing = demand3;
  never_stuck = satisfied_never_stuck;
  without_8 = without_8;
  unchanged = unchanged_where_free;
}
