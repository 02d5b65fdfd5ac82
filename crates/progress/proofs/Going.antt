-- A run, entry by entry. Assumes nothing.
use Prim.Native.Nat.{ℕ, zero, suc, ◌+◌, ◌*◌, ◌/◌, ◌%◌, ◌≤◌}
use mathlib.Core.Path.{◌≡◌, refl, sym, ap, ◌∙◌}
use mathlib.Core.Bool.{true, false}
use mathlib.Core.Logic.{inl, inr}
use mathlib.Core.List.{List, ◌∷◌}
use native.Mathlib.Nat.{zero-add, add-zero}
use native.Mathlib.Omega.{arith}
use lib.ListN.{length}
use lib.Dec.{leb}
use borrow.Author.Tests.{eqb-true, leb-true, leb-false}
use Rattle.folds.proofs.Tests.{which, and_left, and_right}
use Rattle.circuit.specs.declared.Ending.{Ending}
use Rattle.circuit.specs.declared.Ending.TheVariants.{Found, Spent, Stuck}
use Rattle.circuit.specs.declared.Entry.{Entry}
use Rattle.circuit.specs.declared.Outcome.{Outcome}
use Rattle.circuit.specs.Circuit.{Circuit, WellFormed}
use Rattle.circuit.specs.Evaluate.{KeepsCodes}
use Rattle.circuit.specs.Survey.{front_size}
use Rattle.circuit.specs.Run.{is_stuck, entry_chosen, move, RunResult, stop, after, run}
use Rattle.circuit.proofs.Moves.{stuck_turns, some_turned, entry_does}
use Rattle.circuit.proofs.Trace.{run_found, run_spent, run_sticks, run_step}
use Rattle.tape.specs.Tape.{entry_at, entries_from, entries, tape_length_test}
use Rattle.tape.specs.declared.Tape.{Tape}
use Rattle.tape.specs.Inner.{behind, step_at}
use Rattle.progress.specs.Advance.{adds, Going, Ends}
use Rattle.std.specs.Prelude.{Some, None}
use Rattle.tape.proofs.Reading.{step_has, step_over}
use Rattle.marks.proofs.Marked.{front_some, front_none}

adds_none : (r : RunResult) → adds 0 0 r ≡ r
adds_none r = rw (zero-add r.outcome.moves, zero-add r.outcome.flips)

adds_after : (n k j : ℕ) (r : RunResult) → adds n k (after j r) ≡ adds (n + 1) (k + j) r
adds_after n k j r =
    let a : n + suc r.outcome.moves ≡ n + 1 + r.outcome.moves = omega arith in
    let b : k + (j + r.outcome.flips) ≡ k + j + r.outcome.flips = omega arith in
    rw (a, b)

entries_more : (t : List ℕ) (at n : ℕ) → entries_from t at (suc n) ≡ entry_at t at ∷ entries_from t (at + 4) n
unfolding entries_from
entries_more t at n = refl

-- an entry is stuck exactly where it turns nothing
module _ (c : Circuit) (ok : WellFormed c) (s : List ℕ) (h : 1 ≤ front_size c s) (e : Entry) where
  turned_goes : 1 ≤ (move c s e).flips → is_stuck (entry_chosen c s e) ≡ false
  turned_goes l = elim (which (is_stuck (entry_chosen c s e))) [
    | inl q ↦ (let z = ap length (stuck_turns c ok s (front_some c s h) e q) in absurd (omega arith))
    | inr q ↦ q
  ]

  none_sticks : (move c s e).flips ≡ 0 → is_stuck (entry_chosen c s e) ≡ true
  none_sticks z = elim (which (is_stuck (entry_chosen c s e))) [
    | inl q ↦ q
    | inr q ↦ (let l = some_turned c ok s (front_some c s h) e q in absurd (omega arith))
  ]

module _ (c : Circuit) (start tape : List ℕ) where
  pub run_begins : KeepsCodes c start → tape_length_test tape ≡ true → Going c start tape 0 0 0 start
  unfolding tape_length_test entries
  run_begins k e = record {
    left = length tape / 4;
    place = (let a = eqb-true (length tape % 4) 0 (and_left _ _ e) in omega arith);
    done = refl;
    most = leb-true _ _ (and_right _ _ e);
    few = omega arith;
    keeps = k;
    rest = sym (adds_none _);
  }

  module _ (at moves flips : ℕ) (s : List ℕ) (g : Going c start tape at moves flips s) where
    stops : (e : Ending) → run c s (entries_from tape at g.left) ≡ stop e s → Ends c start tape (record { ending = e; moves = moves; flips = flips }) s
    stops e q =
        let r = g.rest ∙ ap (adds moves flips) q in
        record {
          outcome = sym (ap (λ (x : RunResult). x.outcome) r ∙ counted e);
          last = sym (ap (λ (x : RunResult). x.last) r);
        }
      where
        counted : (e : Ending) → ◌≡◌ {A = Outcome} (record { ending = e; moves = moves + 0; flips = flips + 0 }) (record { ending = e; moves = moves; flips = flips })
        counted e = rw (add-zero moves, add-zero flips)

    pub run_finds : front_size c s ≡ 0 → Ends c start tape (record { ending = Found; moves = moves; flips = flips }) s
    run_finds z = stops Found (run_found c s (entries_from tape at g.left) (front_none c s z))

    pub run_spends : 1 ≤ front_size c s → leb (at + 4) (length tape) ≡ false → Ends c start tape (record { ending = Spent (front_size c s); moves = moves; flips = flips }) s
    unfolding entries_from
    run_spends h e = stops (Spent (front_size c s)) (let z : g.left ≡ 0 = omega (arith, leb-false (at + 4) (length tape) e, g.place) in rw z (run_spent c s (front_some c s h)))

    one_less : (l : ℕ) → at + 4 * l ≡ length tape → at + 4 ≤ length tape → (n : ℕ) × (l ≡ suc n)
    one_less zero p b = absurd (omega arith)
    one_less (suc n) p b = (n, refl)

    -- the entry at the place reached is the first of those left
    next_is : (n : ℕ) → g.left ≡ suc n → entries_from tape at g.left ≡ entry_at tape at ∷ entries_from tape (at + 4) n
    next_is n q = ap (entries_from tape at) q ∙ entries_more tape at n

    pub run_blocked : WellFormed c → 1 ≤ front_size c s → leb (at + 4) (length tape) ≡ true → (move c s (entry_at tape at)).flips ≡ 0
        → Ends c start tape (record { ending = Stuck; moves = moves; flips = flips }) s
    run_blocked ok h e z =
        let (n, q) = one_less g.left g.place (leb-true (at + 4) (length tape) e) in
        stops Stuck (ap (run c s) (next_is n q) ∙ run_sticks c s (entry_at tape at) (entries_from tape (at + 4) n) (front_some c s h) (none_sticks c ok s h (entry_at tape at) z))

    pub run_goes : WellFormed c → 1 ≤ front_size c s → leb (at + 4) (length tape) ≡ true → 1 ≤ (move c s (entry_at tape at)).flips
        → Going c start tape (at + 4) (moves + 1) (flips + (move c s (entry_at tape at)).flips) (move c s (entry_at tape at)).next
    run_goes ok h e l =
        let (n, q) = one_less g.left g.place (leb-true (at + 4) (length tape) e) in
        let d = entry_does c ok s (front_some c s h) (entry_at tape at) g.keeps in
        record {
          left = n;
          place = omega (arith, g.place);
          done = omega (arith, g.done);
          most = g.most;
          few = omega (arith, g.few, d.few);
          keeps = d.keeps;
          rest = g.rest ∙ ap (adds moves flips) (next_entry n q) ∙ adds_after moves flips _ _;
        }
      where
        next_entry : (n : ℕ) → g.left ≡ suc n
            → run c s (entries_from tape at g.left) ≡ after (move c s (entry_at tape at)).flips (run c (move c s (entry_at tape at)).next (entries_from tape (at + 4) n))
        next_entry n q = ap (run c s) (next_is n q) ∙ run_step c s (entry_at tape at) (entries_from tape (at + 4) n) (front_some c s h) (turned_goes c ok s h (entry_at tape at) l)

-- a run goes by what is read
module _ (c : Circuit) (start : List ℕ) (t : Tape) (moves flips : ℕ) (s : List ℕ) (g : Going c start t.src.now t.at moves flips s) where
  module _ (ok : WellFormed c) (h : 1 ≤ front_size c s) (e : Entry) (next : Tape) (q : step_at t ≡ Some (e, next)) where
    has : (leb (t.at + 4) (length t.src.now) ≡ true) × ((e ≡ entry_at t.src.now t.at) × (next ≡ behind t))
    has = step_has t e next (sym q)

    pub run_takes : 1 ≤ (move c s e).flips → Going c start next.src.now next.at (moves + 1) (flips + (move c s e).flips) (move c s e).next
    run_takes l = rw (has.1.1, has.1.0) (run_goes c start t.src.now t.at moves flips s g ok h has.0 (rw has.1.0 at l))

    -- an entry that turns nothing is stuck, and leaves the configuration as it was
    pub run_stays : (move c s e).flips ≡ 0 → Ends c start t.src.now (record { ending = Stuck; moves = moves; flips = flips }) s
    run_stays z = run_blocked c start t.src.now t.at moves flips s g ok h has.0 (rw has.1.0 at z)

    pub stays : (move c s e).flips ≡ 0 → (move c s e).next ≡ s
    stays z = (let d = entry_does c ok s (front_some c s h) e g.keeps in d.undone (d.none.0 z))

  pub run_stops : 1 ≤ front_size c s → step_at t ≡ None → Ends c start t.src.now (record { ending = Spent (front_size c s); moves = moves; flips = flips }) s
  run_stops h q = run_spends c start t.src.now t.at moves flips s g h (step_over t q)
