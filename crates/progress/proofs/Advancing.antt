-- A step of a run: it is over where the front is empty, the tape is used up or an entry turns nothing, and goes on behind an entry that turns something. Assumes nothing.
use Prim.Native.Nat.{ℕ, ◌+◌, ◌≤◌}
use mathlib.Core.Path.{◌≡◌, refl, sym, ap, ◌∙◌}
use mathlib.Core.List.{List}
use native.Mathlib.Omega.{arith}
use Rattle.std.proofs.Common.{Option, Some, None, Continue, Break}
use Rattle.circuit.specs.declared.Ending.TheVariants.{Found, Spent, Stuck}
use Rattle.circuit.specs.declared.Entry.{Entry}
use Rattle.circuit.specs.Circuit.{WellFormed}
use Rattle.circuit.specs.Survey.{front_size}
use Rattle.circuit.specs.Run.{move}
use Rattle.circuit.proofs.Moves.{entry_does}
use Rattle.map.specs.Map.{circuit}
use Rattle.map.specs.Inner.{IsMap}
use Rattle.map.proofs.Facts.{well_formed}
use Rattle.marks.specs.Marks.{MarksOf}
use Rattle.marks.proofs.Marked.{front_some}
use Rattle.steps.specs.declared.MoveReport.{MoveReport}
use Rattle.steps.specs.Steps.{DidEntry}
use Rattle.tape.specs.declared.Tape.{Tape}
use Rattle.tape.specs.Inner.{behind, step_at}
use Rattle.tape.specs.Tape.{entry_at}
use Rattle.tape.proofs.Reading.{step_has}
use Rattle.progress.specs.declared.Progress.{Progress}
use Rattle.progress.specs.Advance.{Stands, Advances}
use Rattle.progress.proofs.Going.{run_finds, run_takes, run_stays, run_stops, stays}

module _ (m : List ℕ) (p : Progress) (s marks : List ℕ) where
  pub found_advances : MarksOf (circuit m) s marks p.front → p.front ≡ 0 → Advances (circuit m) p s (Break Found) s marks
  found_advances k z = record { of = λ start g. record { ends = run_finds _ _ _ _ _ _ _ g (sym k.front_is ∙ z); marks_are = k.are } }

  pub spent_advances : MarksOf (circuit m) s marks p.front → ¬ (p.front ≡ 0) → step_at p.tape ≡ None → Advances (circuit m) p s (Break (Spent p.front)) s marks
  spent_advances k h q = record { of = λ start g. record { ends = rw k.front_is (run_stops _ _ _ _ _ _ g (omega (arith, k.front_is)) q); marks_are = k.are } }

  -- an entry was read
  module _ (ok : IsMap m) (k : Stands (circuit m) p s marks) (some : ¬ (p.front ≡ 0)) where
    formed : WellFormed (circuit m)
    formed = well_formed m ok

    some_front : 1 ≤ front_size (circuit m) s
    some_front = omega (arith, k.stands.shown, some)

    pub stuck_advances : (u : List ℕ) → step_at p.tape ≡ Some (entry_at p.tape.src.now p.tape.at, behind p.tape)
        → u ≡ (move (circuit m) s (entry_at p.tape.src.now p.tape.at)).next → (move (circuit m) s (entry_at p.tape.src.now p.tape.at)).flips ≡ 0 → Advances (circuit m) p s (Break Stuck) u marks
    stuck_advances u read after z =
        let same = after ∙ stays _ _ _ _ _ _ k.stands.going formed some_front _ _ read z in
        record {
          of = λ start g. record {
            ends = rw same (run_stays _ _ _ _ _ _ g formed some_front _ _ read z);
            marks_are = rw same k.stands.shown.are;
          };
        }

    -- and done
    module _ (e : Entry) (next : Tape) (read : step_at p.tape ≡ Some (e, next)) (r : MoveReport) (u : List ℕ) (did : DidEntry (circuit m) s e r u) where
      pub few_turned : r.turned ≤ 8
      few_turned = omega (arith, did.turned, (entry_does (circuit m) formed s (front_some (circuit m) s some_front) e k.stands.going.keeps).few)

      has : (e ≡ entry_at p.tape.src.now p.tape.at) × (next ≡ behind p.tape)
      has = (step_has _ _ _ (sym read)).1

      pub goes_advances : ¬ (r.turned ≡ 0) → (w : List ℕ) (front : ℕ) → MarksOf (circuit m) u w front
          → Advances (circuit m) p s (Continue (record { tape = next; moves = p.moves + 1; flips = p.flips + r.turned; front = front })) u w
      goes_advances n w front shown = record {
        of = λ start g. record {
          next = rw (← has.0) did.next;
          flips = ap (λ (x : ℕ). p.flips + x) (rw (← has.0) did.turned);
          moves = refl;
          tape = rw has.1;
          stands = record {
            going = rw (did.next, did.turned) (run_takes _ _ _ _ _ _ g formed some_front _ _ read (omega (arith, did.turned, n)));
            shown = shown;
          };
        };
      }

-- what was read is the entry at the place, and the reader behind it
pub step_next : (t : Tape) → ¬ (step_at t ≡ None) → step_at t ≡ Some (entry_at t.src.now t.at, behind t)
step_next t h = by_step (step_at t) refl
  where
    by_step : (r : Option (Entry × Tape)) → step_at t ≡ r → step_at t ≡ Some (entry_at t.src.now t.at, behind t)
    by_step (Some (e, n)) q = let k = step_has t e n (sym q) in rw (← k.1.0, ← k.1.1) q
    by_step None q = absurd (h q)
