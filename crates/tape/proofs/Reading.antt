-- Reading an entry: what a step has, by the tape's length. Assumes nothing.
use Prim.Native.Nat.{◌+◌}
use mathlib.Core.Path.{◌≡◌, ap}
use mathlib.Core.Bool.{true, false}
use mathlib.Core.Logic.{inl, inr}
use lib.ListN.{length}
use lib.Dec.{leb}
use Rattle.std.specs.Prelude.{Some, None}
use Rattle.folds.proofs.Tests.{which}
use Rattle.circuit.specs.declared.Entry.{Entry}
use Rattle.tape.specs.declared.Tape.{Tape}
use Rattle.tape.specs.Tape.{entry_at}
use Rattle.tape.specs.Inner.{behind, step_at}

module _ (t : Tape) where
  step_goes : leb (t.at + 4) (length t.src.now) ≡ true → step_at t ≡ Some (entry_at t.src.now t.at, behind t)
  unfolding step_at
  step_goes q = rw q

  step_ends : leb (t.at + 4) (length t.src.now) ≡ false → step_at t ≡ None
  unfolding step_at
  step_ends q = rw q

  -- what a step that goes on has: the entry at the place, and the reader behind it
  pub step_has : (e : Entry) (next : Tape) → Some (e, next) ≡ step_at t → (leb (t.at + 4) (length t.src.now) ≡ true) × ((e ≡ entry_at t.src.now t.at) × (next ≡ behind t))
  step_has e next q = elim (which (leb (t.at + 4) (length t.src.now))) [
    | inl b ↦ let p : ◌≡◌ {A = Entry × Tape} (e, next) (entry_at t.src.now t.at, behind t) = cc (step_goes b) in (b, (ap (λ x. x.0) p, ap (λ x. x.1) p))
    | inr b ↦ cc (step_ends b)
  ]

  pub step_over : step_at t ≡ None → leb (t.at + 4) (length t.src.now) ≡ false
  step_over e = elim (which (leb (t.at + 4) (length t.src.now))) [
    | inl b ↦ cc (step_goes b)
    | inr b ↦ b
  ]
