-- A pass over marks, from the last gate down to gate 0, that spreads a set of gates downwards. It serves the cone and the interest set: they differ in
-- what a gate brings, and in how a mark is written before and after its gate's turn. Assumes nothing.
use Prim.Native.Nat.{ℕ, suc, ◌≤◌, ◌<◌}
use mathlib.Core.Path.{◌≡◌, refl, sym, ap, ◌∙◌}
use mathlib.Core.Logic.{inl, inr}
use mathlib.Core.Bool.{Bool, true, false, cond}
use mathlib.Core.List.{List, map, Memᴰ as In}
use native.Mathlib.Omega.{arith}
use lib.ListN.{get_or, set}
use lib.Dec.{eqb, leb}
use borrow.Author.Tests.{eqb-true, eqb-false, eq-eqb, le-leb, lt-leb, leb-true, leb-false}
use Rattle.folds.specs.Folds.{◌and◌}
use Rattle.folds.proofs.Tests.{which, and_both, and_first_false, and_second_false, or_none, or_second}
use Rattle.circuit.specs.Tools.{up_to, member}
use Rattle.circuit.specs.Survey.{spread}
use Rattle.circuit.proofs.Lists.{map_at}
use Rattle.circuit.proofs.Spread.{once, spread_more, spread_settled, not_brought}
use Rattle.marks.specs.Marks.{paint}
use Rattle.marks.proofs.Tables.{same_tables, paint_set}

-- which gates stand from g on is the same from g + 1 on, but for g
from_next : (g x : ℕ) → eqb x g ≡ false → leb (suc g) x ≡ leb g x
from_next g x q = elim (which (leb g x)) [
  | inl l ↦ rw l (le-leb (suc g) x (omega (arith, leb-true g x l, eqb-false x g q)))
  | inr l ↦ rw l (lt-leb (suc g) x (omega (arith, leb-false g x l)))
]

-- n gates; what each brings; the set to begin with; the mark of gate x after its turn, and before it, by whether x is reached
module _ (n : ℕ) (brings : ℕ → List ℕ) (start : ℕ → Bool) (late : ℕ → ℕ) (early : ℕ → Bool → ℕ) where
  -- where the gates from g on have had their turn and S is reached so far
  abbrev so_far : ℕ → (ℕ → Bool) → ℕ → ℕ
  so_far g S x = cond (leb g x) (late x) (early x (S x))

  pub record From (g : ℕ) (w : List ℕ) : Type 0 where
    pub reached : ℕ → Bool
    pub rest : spread brings g reached ≡ spread brings n start
    pub is : w ≡ map (so_far g reached) (up_to n)

  pub begins : (w : List ℕ) → w ≡ map (λ x. early x (start x)) (up_to n) → From n w
  begins w e = record {
    reached = start;
    rest = refl;
    is = e ∙ same_tables _ _ n (λ x l. rw (lt-leb n x l));
  }

  pub ends : (w : List ℕ) → From 0 w → w ≡ map late (up_to n)
  ends w k = k.is ∙ same_tables (so_far 0 k.reached) late n (λ x l. rw (le-leb 0 x (omega arith)))

  module _ (below : (g : ℕ) → g < n → (x : ℕ) → In x (brings g) → x < g) (g : ℕ) (h : g < n) (w : List ℕ) (k : From (suc g) w) where
    abbrev next : ℕ → Bool
    next = once brings g k.reached

    rest : spread brings g next ≡ spread brings n start
    rest = sym (spread_more brings g k.reached) ∙ k.rest

    settled : spread brings n start g ≡ k.reached g
    settled = ap (λ (p : ℕ → Bool). p g) (sym k.rest) ∙ spread_settled brings n below g h k.reached

    pub mark_is : get_or w g 0 ≡ early g (spread brings n start g)
    mark_is = ap (λ (v : List ℕ). get_or v g 0) k.is ∙ map_at (so_far (suc g) k.reached) n g 0 h ∙ rw (lt-leb (suc g) g (omega arith), settled)

    -- a gate that is not reached leaves the marks as they are
    pub passes : spread brings n start g ≡ false → late g ≡ early g false → From g w
    passes out e = record { reached = next; rest = rest; is = k.is ∙ same_tables _ _ n (λ x l. point x) }
      where
        far : k.reached g ≡ false
        far = sym settled ∙ out

        point : (x : ℕ) → so_far (suc g) k.reached x ≡ so_far g next x
        point x = elim (which (eqb x g)) [
          | inl q ↦ rw (eqb-true x g q, lt-leb (suc g) g (omega arith), le-leb g g (omega arith), far, e)
          | inr q ↦ rw (from_next g x q, or_none (k.reached x) (member x (brings g) and k.reached g) (and_second_false _ _ far))
        ]

    -- one that is reached gets its late mark, and the gates that it brings become reached
    pub turns : (f : ℕ → ℕ) → ((b : ℕ) → f (f b) ≡ f b) → ((x : ℕ) (b : Bool) → f (early x b) ≡ early x true)
        → spread brings n start g ≡ true → From g (paint f (brings g) (set w g (late g)))
    turns f twice reach in-it = record {
      reached = next;
      rest = rest;
      is = ap (λ (v : List ℕ). paint f (brings g) (set v g (late g))) k.is
          ∙ paint_set f twice (brings g) (so_far (suc g) k.reached) n g (late g) (λ x m. omega (arith, below g h x m))
          ∙ same_tables _ _ n (λ x l. point x);
    }
      where
        near : k.reached g ≡ true
        near = sym settled ∙ in-it

        brought : (x : ℕ) → g ≤ x → member x (brings g) ≡ false
        brought = not_brought brings n below g h

        point : (x : ℕ) → cond (member x (brings g)) (f (cond (eqb x g) (late g) (so_far (suc g) k.reached x))) (cond (eqb x g) (late g) (so_far (suc g) k.reached x))
            ≡ so_far g next x
        point x = elim (which (eqb x g)) [
          | inl q ↦ rw (eqb-true x g q, brought g (omega arith), le-leb g g (omega arith), eq-eqb g g refl)
          | inr q ↦ rw (q, from_next g x q) (elim (which (leb g x)) [
            | inl l ↦ rw (l, brought x (leb-true g x l))
            | inr l ↦ rw l (elim (which (member x (brings g))) [
              | inl m ↦ rw (m, or_second (k.reached x) (true and k.reached g) (and_both true (k.reached g) refl near)) (reach x (k.reached x))
              | inr m ↦ rw (m, or_none (k.reached x) (false and k.reached g) (and_first_false false (k.reached g) refl))
            ])
          ])
        ]
