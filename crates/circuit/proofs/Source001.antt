-- Document 01's justified gates and down options are those of source document 001. Assumes nothing.
use Prim.Native.Nat.{ℕ, ◌<◌}
use mathlib.Core.Path.{◌≡◌, refl, sym, ap, ◌∙◌}
use mathlib.Core.Logic.{inl, inr}
use mathlib.Core.Bool.{Bool, false, not, true≢false, not-not}
use mathlib.Core.List.{List, [], ◌∷◌}
use mathlib.Core.List.Memᴰ.{head as here}
use mathlib.Core.List.Memᴰ.{tail as there}
use mathlib.Core.List.Memᴰ.{map as map-in}
use mathlib.Core.List.{Memᴰ as In}
use native.Mathlib.Omega.{arith}
use lib.ListN.{length, get_or}
use lib.Dec.{eqb}
use Rattle.folds.proofs.Tests.{which}
use Rattle.circuit.specs.Tools.{same, select}
use Rattle.circuit.specs.Gate.{is_input, gives, wrong, order}
use Rattle.circuit.specs.Circuit.{Circuit, WellFormed, Configuration, on, justified, GateZeroIsInput}
use Rattle.circuit.specs.Run.{down_options, turn}
use Rattle.circuit.specs.Source001.{Extends, contrary, MoveOf, Smallest, first, then, IsClosed, SmallestIs, TurnsExactly, JustifiedIs001, DownOptionsAre001, DownOptionsInOrder, Justifies, OptionsJustify, PairsAreSet}
use Rattle.circuit.proofs.Values.{agree, opposite, same_true, same_false, same_refl, same_not}
use Rattle.circuit.proofs.Lists.{at_place, select_in, in_select, select_length}
use Rattle.circuit.proofs.Justification.{restrict_has, restrict_justifies}
use Rattle.circuit.proofs.Shapes.{stands_in}
use Rattle.circuit.proofs.Gate.{fans, narrow, laws}
use Rattle.circuit.proofs.Evaluate.{agrees, justify}
use Rattle.circuit.proofs.Cone.{unjustified_seen}
use Rattle.circuit.proofs.Turns.{turn_turns, option_sound, option_kid, option_once}

smallest_in : (First : ℕ → Type 0) (Next : ℕ → ℕ → Type 0) (S : ℕ → Type 0) → IsClosed First Next S → (x : ℕ) → Smallest First Next x → S x
smallest_in First Next S k x (first f) = k.has x f
smallest_in First Next S k x (then {g} r b) = k.closed g x (smallest_in First Next S k g r) b

pub smallest_is : SmallestIs
smallest_is First Next = (record { has = λ x f. first f; closed = λ g x r b. then r b }, smallest_in First Next)

pub justified_is : JustifiedIs001
justified_is c s g = (
  λ e. elim (which (is_input (c.kind g))) [
    | inl i ↦ inl i
    | inr i ↦ inr (i, restrict_justifies (gives (c.kind g)) (on s g) (c.kids g) (on s) (agrees c s g i e))
  ],
  elim [
    | inl i ↦ justify c s g (λ j. absurd (true≢false (sym i ∙ j)))
    | inr j ↦ justify c s g (λ i. j.1.forces (on s) (λ x b e. (restrict_has (on s) (c.kids g) x b e).1))
  ],
)

pub down_options_are : DownOptionsAre001
unfolding down_options
down_options_are c ok s g h u =
    let e = unjustified_seen c ok s g h u in
    let l = laws (c.kind g) (on s g) e.gate in
    (l.move (on s) (c.kids g) e, l.once (on s) (c.kids g) e)

pub down_options_in_order : DownOptionsInOrder
unfolding down_options
down_options_in_order c ok s g h u =
    let e = unjustified_seen c ok s g h u in
    stands_in (order (c.kind g) (on s g)) (on s g) (on s) (c.kids g) (fans (c.kind g) (on s g) e.gate (length (c.kids g)) e.fits)

-- a gate that is no input has a child below it
pub gate_zero : GateZeroIsInput
gate_zero c ok h = elim (which (is_input (c.kind 0))) [
  | inl i ↦ i
  | inr i ↦ absurd (omega (arith, ok.below 0 h (get_or (c.kids 0) 0 0) (at_place 0 (c.kids 0) 0 (narrow (c.kind 0) i (length (c.kids 0)) (ok.fits 0 h)).0)))
]

-- ---- an option makes its gate justified

module _ (c : Circuit) (ok : WellFormed c) (s : List ℕ) (k : Configuration c s) (g : ℕ) (h : g < c.gates) (u : justified c s g ≡ false) (o : List ℕ) (m : In o (down_options c s g)) where
  move : MoveOf (gives (c.kind g)) (c.kids g) (on s g) (on s) o
  move = ((down_options_are c ok s g h u).0 o).0 m

  turns : TurnsExactly o s (turn o s)
  turns = turn_turns c o s (option_once c ok s g h u o m) k

  stands : (x : ℕ) → ¬ In x o → on (turn o s) x ≡ on s x
  stands x n = ap (λ (b : ℕ). eqb b 1) (turns.others x n)

  abbrev differs : ℕ → Bool
  differs x = contrary (move.by x) (on s x)

  agreeing : Extends (on (turn o s)) move.by
  agreeing x b e = elim (which (same b (on s x))) [
    | inl q ↦ stands x (λ i. true≢false (sym (select_in differs x (c.kids g) (rw move.is at i)).1 ∙ rw (e, q))) ∙ sym (same_true b (on s x) q)
    | inr q ↦ turns.these x (rw move.is (in_select differs x (c.kids g) (move.minimal.justifies.children x b e) (rw (e, q))))
        ∙ sym (opposite (on s x) b (same_false b (on s x) q))
  ]

  not_itself : ¬ In g o
  not_itself i = omega (arith, ok.below g h g (option_kid c ok s g h u o m g i))

  option_justifies : Justifies c s g o
  option_justifies = record {
    turns = turns;
    not_itself = not_itself;
    justified = (justified_is c (turn o s) g).0 (justify c (turn o s) g (λ i. move.minimal.justifies.forces (on (turn o s)) agreeing ∙ sym (stands g not_itself)));
  }

pub options_justify : OptionsJustify
options_justify = option_justifies

-- a pair of children is set to its gate's value
pub pairs_are_set : PairsAreSet
unfolding down_options
pairs_are_set c ok s k g h u q x y i = record {
  is_option = is_option;
  first = set x (here refl);
  second = set y (there (here refl));
  turned = ((option_sound c ok s g h u o is_option).1, select_length is_wrong (x ∷ y ∷ []));
}
  where
    is_wrong : ℕ → Bool
    is_wrong z = not (same (on s z) (on s g))

    o : List ℕ
    o = select is_wrong (x ∷ y ∷ [])

    is_option : In o (down_options c s g)
    is_option = rw q (map-in (wrong (on s g) (on s)) i)

    set : (z : ℕ) → In z (x ∷ y ∷ []) → on (turn o s) z ≡ on s g
    set z j = elim (agree (on s g) (on s z)) [
      | inl e ↦ stands c ok s k g h u o is_option z (λ n. true≢false (sym (select_in is_wrong z (x ∷ y ∷ []) n).1 ∙ rw (e, same_refl (on s g)))) ∙ e
      | inr e ↦ (turns c ok s k g h u o is_option).these z (in_select is_wrong z (x ∷ y ∷ []) j (rw (e, same_not (on s g)))) ∙ ap not e ∙ not-not (on s g)
    ]
