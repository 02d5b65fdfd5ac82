-- `spread` computes the smallest set that has what it starts with and is closed downwards. Assumes nothing.
use Prim.Native.Nat.{ℕ, zero, suc, ◌≤◌, ◌<◌}
use mathlib.Core.Path.{◌≡◌, refl, sym, ◌∙◌}
use mathlib.Core.Logic.{inl, inr}
use mathlib.Core.Bool.{Bool, true, false}
use mathlib.Core.List.{List, Memᴰ as In}
use native.Mathlib.Omega.{arith}
use lib.Dec.{eqb}
use borrow.Author.Tests.{eqb-true, eqb-false}
use Rattle.folds.specs.Folds.{◌and◌, ◌or◌, descend}
use Rattle.folds.proofs.Tests.{which, and_left, and_right, and_both, and_first_false, or_cases, or_first, or_second, or_none}
use Rattle.circuit.specs.Tools.{member}
use Rattle.circuit.specs.Survey.{spread}
use Rattle.circuit.proofs.Lists.{member_in, in_member}

module _ (brings : ℕ → List ℕ) where
  -- a gate's turn
  abbrev pub once : ℕ → (ℕ → Bool) → ℕ → Bool
  once g m x = m x or (member x (brings g) and m g)

  pub spread_more : (g : ℕ) (m : ℕ → Bool) → spread brings (suc g) m ≡ spread brings g (once g m)
  unfolding spread descend
  spread_more g m = refl

  spread_none : (m : ℕ → Bool) → spread brings zero m ≡ m
  unfolding spread descend
  spread_none m = refl

  pub spread_start : (n : ℕ) (m : ℕ → Bool) (x : ℕ) → m x ≡ true → spread brings n m x ≡ true
  spread_start zero m x e = rw spread_none e
  spread_start (suc g) m x e = rw (spread_more g m) (spread_start g (once g m) x (or_first _ _ e))

  pub spread_least : (n : ℕ) (m : ℕ → Bool) (P : ℕ → Type 0) → ((x : ℕ) → m x ≡ true → P x)
      → ((g : ℕ) → g < n → P g → (x : ℕ) → In x (brings g) → P x) → (x : ℕ) → spread brings n m x ≡ true → P x
  spread_least zero m P base step x e = base x (rw spread_none at e)
  spread_least (suc g) m P base step x e =
      spread_least g (once g m) P
      (λ y t. elim (or_cases _ _ t) [
        | inl a ↦ base y a
        | inr b ↦ step g (omega arith) (base g (and_right _ _ b)) y (member_in y (brings g) (and_left _ _ b))
      ])
      (λ k h. step k (omega arith)) x (rw (spread_more g m) at e)

  module _ (top : ℕ) (below : (g : ℕ) → g < top → (x : ℕ) → In x (brings g) → x < g) where
    -- a gate brings none that stands at or above it
    pub not_brought : (g : ℕ) → g < top → (x : ℕ) → g ≤ x → member x (brings g) ≡ false
    not_brought g l x h = elim (which (member x (brings g))) [
      | inl q ↦ absurd (omega (arith, below g l x (member_in x (brings g) q)))
      | inr q ↦ q
    ]

    -- what stands at or above the gates still to come stays as it is
    spread_high : (n : ℕ) → n ≤ top → (m : ℕ → Bool) (x : ℕ) → n ≤ x → spread brings n m x ≡ m x
    spread_high zero l m x h = rw spread_none
    spread_high (suc g) l m x h =
        rw (spread_more g m) (spread_high g (omega arith) (once g m) x (omega arith) ∙ or_none _ _ (and_first_false _ _ (not_brought g (omega arith) x (omega arith))))

    -- and so does the gate whose turn it is
    pub spread_settled : (g : ℕ) → g < top → (m : ℕ → Bool) → spread brings (suc g) m g ≡ m g
    spread_settled g l m =
        rw (spread_more g m) (spread_high g (omega arith) (once g m) g (omega arith) ∙ or_none _ _ (and_first_false _ _ (not_brought g l g (omega arith))))

    spread_closed_to : (n : ℕ) → n ≤ top → (m : ℕ → Bool) (g : ℕ) → g < n → spread brings n m g ≡ true → (x : ℕ) → In x (brings g) → spread brings n m x ≡ true
    spread_closed_to zero l m g h e x i = absurd (omega arith)
    spread_closed_to (suc k) l m g h e x i = elim (which (eqb g k)) [
      | inl q ↦ rw (spread_more k m) (spread_start k (once k m) x (or_second _ _ (and_both _ _
          (in_member x (brings k) (rw (eqb-true g k q) at i)) (sym (spread_settled k l m) ∙ rw (eqb-true g k q) at e))))
      | inr q ↦ rw (spread_more k m) (spread_closed_to k (omega arith) (once k m) g (omega (arith, eqb-false g k q)) (rw (spread_more k m) at e) x i)
    ]

    pub spread_closed : (m : ℕ → Bool) (g : ℕ) → g < top → spread brings top m g ≡ true → (x : ℕ) → In x (brings g) → spread brings top m x ≡ true
    spread_closed = spread_closed_to top (omega arith)
