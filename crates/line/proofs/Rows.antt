-- The row's text, gate by gate. Assumes nothing.
use Prim.Native.Nat.{ℕ, zero, suc, ◌+◌, ◌<◌}
use mathlib.Core.Path.{◌≡◌, refl, sym, ap, ◌∙◌}
use mathlib.Core.Bool.{true, false}
use mathlib.Core.Logic.{inl, inr}
use mathlib.Core.List.{List, [], ◌∷◌, ◌++◌, map}
use native.Mathlib.Numerals.{add-one}
use native.Mathlib.Omega.{arith}
use lib.ListN.{get_or, take}
use lib.Seq.{get_or-take}
use Rattle.folds.proofs.Tests.{which}
use Rattle.circuit.specs.Tools.{up_to, select}
use denote.Enum.Bare.{sameb}
use Rattle.circuit.specs.declared.Kind.{Kind}
use Rattle.circuit.specs.declared.Kind.TheVariants.{Input}
use Rattle.circuit.specs.contracts.Kind.{the_type}
use Rattle.circuit.specs.Gate.{kind_of, is_input}
use Rattle.circuit.specs.Evaluate.{row_of}
use Rattle.kinds.proofs.Bytes.{same_input}
use Rattle.map.specs.Map.{gate_count, kind_byte}
use Rattle.line.specs.Text.{digit}
use Rattle.line.specs.Inner.{input_text, row_below}
use Rattle.line.specs.Line.{row_text}

module _ (m ans : List ℕ) where
  abbrev taken : List ℕ → List ℕ
  taken gs = map digit (map (λ g. get_or ans g 0) (select (λ g. is_input (kind_of (kind_byte m g))) gs))

  taken_append : (gs : List ℕ) (g : ℕ) → taken (gs ++ (g ∷ [])) ≡ taken gs ++ input_text m ans g
  unfolding input_text
  taken_append [] g = elim (which (is_input (kind_of (kind_byte m g)))) [ inl q ↦ rw q | inr q ↦ rw q ]
  taken_append (x ∷ gs) g = elim (which (is_input (kind_of (kind_byte m x)))) [
    | inl q ↦ rw (q, taken_append gs g)
    | inr q ↦ rw (q, taken_append gs g)
  ]

  below : (n : ℕ) → row_below m ans n ≡ taken (up_to n)
  unfolding row_below
  below zero = refl
  below (suc n) = rw (below n) (sym (taken_append (up_to n) n))

  pub row_none : row_below m ans 0 ≡ []
  unfolding row_below
  row_none = refl

  pub row_more : (n : ℕ) → row_below m ans (n + 1) ≡ row_below m ans n ++ input_text m ans n
  unfolding row_below
  row_more n = rw (add-one n) refl

  pub row_whole : (n : ℕ) → n ≡ gate_count m → row_below m ans n ≡ row_text m ans
  unfolding row_of
  row_whole n e = below n ∙ rw e

  -- a gate of kind k has its digit if it is an input, and else nothing
  module _ (g : ℕ) (k : Kind) (e : k ≡ kind_of (kind_byte m g)) where
    pub digit_is : sameb the_type k Input ≡ true → digit (get_or ans g 0) ∷ [] ≡ input_text m ans g
    unfolding input_text
    digit_is q =
        let i : is_input (kind_of (kind_byte m g)) ≡ true = ap is_input (sym e) ∙ sym (same_input k) ∙ q in
        rw i refl

    pub none_is : sameb the_type k Input ≡ false → [] ≡ input_text m ans g
    unfolding input_text
    none_is q =
        let i : is_input (kind_of (kind_byte m g)) ≡ false = ap is_input (sym e) ∙ sym (same_input k) ∙ q in
        rw i refl

-- only the gates' bytes of the answer count
same_below : (m a b : List ℕ) (n : ℕ) → ((g : ℕ) → g < n → get_or a g 0 ≡ get_or b g 0) → row_below m a n ≡ row_below m b n
unfolding row_below input_text
same_below m a b zero h = refl
same_below m a b (suc n) h = rw (same_below m a b n (λ g l. h g (omega arith)), h n (omega arith))

pub same_row : (m a b : List ℕ) → take (gate_count m) a ≡ take (gate_count m) b → row_text m a ≡ row_text m b
same_row m a b e = sym (row_whole m a (gate_count m) refl) ∙ same_below m a b (gate_count m) same ∙ row_whole m b (gate_count m) refl
  where
    same : (g : ℕ) → g < gate_count m → get_or a g 0 ≡ get_or b g 0
    same g l = sym (get_or-take (gate_count m) a g 0 l) ∙ ap (λ (l : List ℕ). get_or l g 0) e ∙ get_or-take (gate_count m) b g 0 l
