-- The cone and the front. Assumes nothing.
use Prim.Native.Nat.{ℕ, ◌<◌}
use mathlib.Core.Path.{◌≡◌}
use mathlib.Core.Logic.{inl, inr}
use mathlib.Core.Bool.{true, false, not}
use mathlib.Core.List.{List}
use mathlib.Core.List.Memᴰ.{not-nil as nowhere}
use mathlib.Core.List.{Memᴰ as In}
use borrow.Author.Tests.{not-true}
use Rattle.folds.proofs.Tests.{which, and_left, and_right, and_both, or_left_false, or_right_false}
use Rattle.circuit.specs.Tools.{up_to, is_empty}
use Rattle.circuit.specs.Gate.{is_input, relevant}
use Rattle.circuit.specs.Circuit.{Circuit, coded, WellFormed, on, given, justified}
use Rattle.circuit.specs.Survey.{reasons, cone, in_front, front}
use Rattle.circuit.proofs.Values.{opposite, same_false}
use Rattle.circuit.proofs.Lists.{select_in, in_select, in_up_to, up_to_in, is_empty_none}
use Rattle.circuit.proofs.Spread.{spread_start, spread_closed}
use Rattle.circuit.proofs.Shapes.{Seen}
use Rattle.circuit.proofs.Evaluate.{agrees}

pub front_cone : (c : Circuit) (s : List ℕ) (g : ℕ) → in_front c s g ≡ true → cone c s g ≡ true
unfolding in_front
front_cone c s g e = and_left _ _ e

module _ (c : Circuit) (ok : WellFormed c) (s : List ℕ) where
  -- ---- a gate with its children, for the laws of its kind

  pub justified_seen : (g : ℕ) → g < c.gates → is_input (c.kind g) ≡ false → justified c s g ≡ true → Seen (c.kind g) (on s) (c.kids g) (on s g)
  justified_seen g h i j = record { gate = i; fits = ok.fits g h; rising = ok.rising g h; gave = agrees c s g i j }

  pub unjustified_seen : (g : ℕ) → g < c.gates → justified c s g ≡ false → Seen (c.kind g) (on s) (c.kids g) (not (on s g))
  unfolding justified
  unjustified_seen g h j = record {
    gate = or_left_false _ _ j;
    fits = ok.fits g h;
    rising = ok.rising g h;
    gave = opposite (on s g) (given c s g) (same_false (given c s g) (on s g) (or_right_false _ _ j));
  }

  -- ---- the cone

  pub reasons_kids : (g x : ℕ) → In x (reasons c s g) → In x (c.kids g)
  unfolding reasons
  reasons_kids g x m = elim (which (justified c s g)) [
    | inl q ↦ (select_in (λ y. relevant (c.kind g) (on s g) (on s y)) x (c.kids g) (rw q at m)).0
    | inr q ↦ absurd (nowhere (rw q at m))
  ]

  pub cone_coded : (g : ℕ) → coded c g ≡ true → cone c s g ≡ true
  unfolding cone
  cone_coded g e = spread_start (reasons c s) c.gates (coded c) g e

  pub cone_child : (g : ℕ) → g < c.gates → cone c s g ≡ true → justified c s g ≡ true
      → (x : ℕ) → In x (c.kids g) → relevant (c.kind g) (on s g) (on s x) ≡ true → cone c s x ≡ true
  unfolding cone reasons
  cone_child g h e j x m r =
      spread_closed (reasons c s) c.gates (λ k l y i. ok.below k l y (reasons_kids k y i)) (coded c) g h e x
      (rw j (in_select (λ y. relevant (c.kind g) (on s g) (on s y)) x (c.kids g) m r))

  -- ---- the front

  pub is_in_front : (g : ℕ) → In g (front c s) → (g < c.gates) × (cone c s g ≡ true) × (justified c s g ≡ false)
  unfolding front in_front
  is_in_front g m =
      let (u, p) = select_in (in_front c s) g (up_to c.gates) m in
      (in_up_to g c.gates u, and_left _ _ p, not-true (justified c s g) (and_right _ _ p))

  pub cone_justified : is_empty (front c s) ≡ true → (g : ℕ) → g < c.gates → cone c s g ≡ true → justified c s g ≡ true
  unfolding front in_front
  cone_justified e g h k = elim (which (justified c s g)) [
    | inl q ↦ q
    | inr q ↦ absurd (is_empty_none g (front c s) e (in_select (in_front c s) g (up_to c.gates) (up_to_in g c.gates h) (and_both _ _ k (rw q))))
  ]
